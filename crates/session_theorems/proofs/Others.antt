-- No record of a read is `next_request`, and no message. Assumes nothing.
use Prim.Native.Nat.{ℕ, ◌+◌}
use mathlib.Core.Path.{◌≡◌, refl, sym, ap, ◌∙◌}
use mathlib.Core.Bool.{Bool, true, false, cond, not, ◌||◌, false≢true}
use mathlib.Core.List.{List, [], ◌∷◌}
use mathlib.Core.Option as option
use mathlib.Core.Option.{Option, some}
use lib.Dec.{eqb, leb, ltb}
use lib.ListN.{length, take, drop}
use Rattle.model.specs.Call.{Input, Plain, Call}
use Rattle.model.specs.Session.{View}
use Rattle.model.specs.Live.{Object, live}
use Rattle.model_reads.specs.Read.{Entry}
use Rattle.model_reads.specs.Message.{Reading}
use Rattle.std.specs.Prelude.{Ok, Err, Some}
use Rattle.std.specs.Prelude as rust
use Rattle.parse.specs.First.{ReadFirst, first_of}
use Rattle.parse.specs.Parse.{le64}
use Rattle.messages.specs.Reading.{request_in, call_in, read_as, reading_on, reading_of, reading}
use Rattle.requests.specs.declared.eis.HandshakeRequest.{HandshakeRequest}
use Rattle.requests.specs.declared.eis.ConnectionRequest.{ConnectionRequest}
use Rattle.requests.specs.declared.eis.SeatRequest.{SeatRequest}
use Rattle.requests.specs.declared.eis.DeviceRequest.{DeviceRequest}
use Rattle.requests.specs.declared.eis.PointerRequest.{PointerRequest}
use Rattle.requests.specs.declared.eis.PointerAbsoluteRequest.{PointerAbsoluteRequest}
use Rattle.requests.specs.declared.eis.ScrollRequest.{ScrollRequest}
use Rattle.requests.specs.declared.eis.ButtonRequest.{ButtonRequest}
use Rattle.requests.specs.declared.eis.KeyboardRequest.{KeyboardRequest}
use Rattle.requests.specs.declared.eis.TouchscreenRequest.{TouchscreenRequest}
use Rattle.requests.specs.declared.eis.TextRequest.{TextRequest}
use Rattle.requests.specs.declared.eis.InterfaceRequest.{InterfaceRequest}
use Rattle.requests.specs.declared.eis.Request.{Request}
use Rattle.handlers.specs.Call.{call_of}
use Rattle.reads.specs.declared.record.RequestRecord.{RequestRecord}
use Rattle.reads.specs.Record.{has_text, entry_of}
use Rattle.session_theorems.specs.Made.{entries_of}

is_next : Call Input → Bool
is_next (Call.timed i v a) = false
is_next (Call.plain (Plain.handshake r)) = false
is_next (Call.plain (Plain.sync c v)) = false
is_next (Call.plain (Plain.sync_message c v)) = false
is_next (Call.plain Plain.disconnect) = false
is_next (Call.plain Plain.pingpong_done) = false
is_next (Call.plain (Plain.seat_release s)) = false
is_next (Call.plain (Plain.bind s m)) = false
is_next (Call.plain (Plain.request_device s m)) = false
is_next (Call.plain (Plain.device_release d)) = false
is_next (Call.plain (Plain.device_start_emulating d n q)) = false
is_next (Call.plain (Plain.device_stop_emulating d n)) = false
is_next (Call.plain (Plain.device_frame d n t)) = false
is_next (Call.plain (Plain.device_ready d)) = false
is_next (Call.plain (Plain.interface_release c i)) = false
is_next (Call.plain Plain.next_request) = true
is_next (Call.plain (Plain.add_seat n m)) = false
is_next (Call.plain (Plain.add_device s n t m)) = false
is_next (Call.plain (Plain.remove_seat s)) = false
is_next (Call.plain (Plain.remove_device d)) = false
is_next (Call.plain (Plain.resumed d)) = false
is_next (Call.plain (Plain.paused d)) = false
is_next (Call.plain (Plain.start_emulating d q)) = false
is_next (Call.plain (Plain.stop_emulating d)) = false
is_next (Call.plain (Plain.frame d t)) = false
is_next (Call.plain (Plain.disconnected r e)) = false
is_next (Call.plain Plain.last_serial) = false
is_next (Call.plain (Plain.has_interface n)) = false
is_next (Call.plain (Plain.interface_version n)) = false
is_next (Call.plain (Plain.has_capability d c)) = false

asks-not : (r : Request) (object version : ℕ) (text : List ℕ) → is_next (call_of r object version text) ≡ false
unfolding is_next
asks-not (Request.Handshake (HandshakeRequest.HandshakeVersion n)) o v t = refl
asks-not (Request.Handshake HandshakeRequest.Finish) o v t = refl
asks-not (Request.Handshake (HandshakeRequest.ContextType n)) o v t = refl
asks-not (Request.Handshake HandshakeRequest.Name) o v t = refl
asks-not (Request.Handshake (HandshakeRequest.InterfaceVersion n)) o v t = refl
asks-not (Request.Connection (ConnectionRequest.Sync c n)) o v t = refl
asks-not (Request.Connection ConnectionRequest.Disconnect) o v t = refl
asks-not Request.PingpongDone o v t = refl
asks-not (Request.Seat SeatRequest.Release) o v t = refl
asks-not (Request.Seat (SeatRequest.Bind m)) o v t = refl
asks-not (Request.Seat (SeatRequest.RequestDevice m)) o v t = refl
asks-not (Request.Device DeviceRequest.Release) o v t = refl
asks-not (Request.Device (DeviceRequest.StartEmulating n q)) o v t = refl
asks-not (Request.Device (DeviceRequest.StopEmulating n)) o v t = refl
asks-not (Request.Device (DeviceRequest.Frame n time)) o v t = refl
asks-not (Request.Device DeviceRequest.Ready) o v t = refl
asks-not (Request.Interface (InterfaceRequest.Pointer PointerRequest.Release)) o v t = refl
asks-not (Request.Interface (InterfaceRequest.Pointer (PointerRequest.MotionRelative x y))) o v t = refl
asks-not (Request.Interface (InterfaceRequest.PointerAbsolute PointerAbsoluteRequest.Release)) o v t = refl
asks-not (Request.Interface (InterfaceRequest.PointerAbsolute (PointerAbsoluteRequest.MotionAbsolute x y))) o v t = refl
asks-not (Request.Interface (InterfaceRequest.Scroll ScrollRequest.Release)) o v t = refl
asks-not (Request.Interface (InterfaceRequest.Scroll (ScrollRequest.Scroll x y))) o v t = refl
asks-not (Request.Interface (InterfaceRequest.Scroll (ScrollRequest.ScrollDiscrete x y))) o v t = refl
asks-not (Request.Interface (InterfaceRequest.Scroll (ScrollRequest.ScrollStop x y k))) o v t = refl
asks-not (Request.Interface (InterfaceRequest.Button ButtonRequest.Release)) o v t = refl
asks-not (Request.Interface (InterfaceRequest.Button (ButtonRequest.Button b s))) o v t = refl
asks-not (Request.Interface (InterfaceRequest.Keyboard KeyboardRequest.Release)) o v t = refl
asks-not (Request.Interface (InterfaceRequest.Keyboard (KeyboardRequest.Key k s))) o v t = refl
asks-not (Request.Interface (InterfaceRequest.Touchscreen TouchscreenRequest.Release)) o v t = refl
asks-not (Request.Interface (InterfaceRequest.Touchscreen (TouchscreenRequest.Down i x y))) o v t = refl
asks-not (Request.Interface (InterfaceRequest.Touchscreen (TouchscreenRequest.Motion i x y))) o v t = refl
asks-not (Request.Interface (InterfaceRequest.Touchscreen (TouchscreenRequest.Up i))) o v t = refl
asks-not (Request.Interface (InterfaceRequest.Touchscreen (TouchscreenRequest.Cancel i))) o v t = refl
asks-not (Request.Interface (InterfaceRequest.Text TextRequest.Release)) o v t = refl
asks-not (Request.Interface (InterfaceRequest.Text (TextRequest.Keysym k s))) o v t = refl
asks-not (Request.Interface (InterfaceRequest.Text TextRequest.Utf8)) o v t = refl

-- ---- nor is a message

asked_in : Reading (Call Input) → Bool
asked_in Reading.wait = false
asked_in Reading.no_object = false
asked_in (Reading.malformed e) = false
asked_in (Reading.request call n) = is_next call

cond-asked : (b : Bool) (r t : Reading (Call Input)) → asked_in r ≡ false → asked_in t ≡ false → asked_in (cond b r t) ≡ false
cond-asked true r t p q = p
cond-asked false r t p q = q

call-asked : (b : Bool) (c d : Call Input) → is_next c ≡ false → is_next d ≡ false → is_next (cond b c d) ≡ false
call-asked true c d p q = p
call-asked false c d p q = q

first-asked : (object version : ℕ) (m : List ℕ) (f : ReadFirst) → asked_in (read_as object version m f) ≡ false
unfolding read_as call_in asked_in is_next
first-asked object version m (Ok rust.None) = refl
first-asked object version m (Err e) = refl
first-asked object version m (Ok (Some f)) =
    let a = f.arguments in
    call-asked (eqb a.request 5) _ _ refl (asks-not (request_in a) object version (take a.length (drop a.start (take f.length m))))

object-asked : (object : ℕ) (o : Option Object) (m : List ℕ) → asked_in (reading_of object o m) ≡ false
unfolding reading_of reading_on asked_in
object-asked object option.none m = refl
object-asked object (some o) m = first-asked object o.version m (first_of o.interface m)

message-asked : (v : View) (m : List ℕ) → asked_in (reading v m) ≡ false
unfolding reading asked_in
message-asked v m = cond-asked (ltb (length m) 16) _ _ refl (object-asked (le64 m 0) (live v (le64 m 0)) m)

pub message-other : (v : View) (m : List ℕ) {call : Call Input} {n : ℕ} → reading v m ≡ Reading.request call n → call ≡ Call.plain Plain.next_request → ⊥
unfolding asked_in is_next
message-other v m e q = false≢true (sym (message-asked v m) ∙ ap asked_in e ∙ ap is_next q)

-- every record of a list is another request
pub data Others : List (Entry (Call Input)) → Type 0 where
  none : Others []
  bad_part : {es : List (Entry (Call Input))} → Others es → Others (Entry.bad_part ∷ es)
  request : {call : Call Input} {es : List (Entry (Call Input))} → (call ≡ Call.plain Plain.next_request → ⊥) → Others es → Others (Entry.request call ∷ es)

by_part : (b : Bool) (call : Call Input) {es : List (Entry (Call Input))} → is_next call ≡ false → Others es → Others (cond b (Entry.request call) Entry.bad_part ∷ es)
unfolding is_next
by_part true call h os = Others.request (λ e. false≢true (sym h ∙ ap is_next e)) os
by_part false call h os = Others.bad_part os

pub others : (lent : List ℕ) (rs : List RequestRecord) → Others (entries_of rs lent)
unfolding entry_of
others lent [] = Others.none
others lent (r ∷ rs) =
    by_part (not (has_text r.request) || leb (r.start + r.length) (length lent)) (call_of r.request r.object r.version (take r.length (drop r.start lent)))
    (asks-not r.request r.object r.version (take r.length (drop r.start lent))) (others lent rs)
