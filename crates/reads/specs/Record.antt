-- A record of a read as the model has it. Assumes nothing.
use Rattle.std.specs.Prelude.{ℕ, ◌+◌, Bool, true, false, cond, not, ◌||◌, List, [], leb, length, take, drop}
use mathlib.Core.Option.{Option, none, some}
use Rattle.model.specs.Call.{Input, Call}
use Rattle.model_reads.specs.Read.{Entry}
use Rattle.requests.specs.declared.eis.HandshakeRequest.{HandshakeRequest}
use Rattle.requests.specs.declared.eis.TextRequest.{TextRequest}
use Rattle.requests.specs.declared.eis.InterfaceRequest.{InterfaceRequest}
use Rattle.requests.specs.declared.eis.Request.{Request}
use Rattle.handlers.specs.Call.{call_of}
use Rattle.reads.specs.declared.record.RequestRecord.{RequestRecord}

-- "A record with text": Name, InterfaceVersion and Utf8
abbrev pub handshake_has_text : HandshakeRequest → Bool
handshake_has_text (HandshakeRequest.HandshakeVersion v) = false
handshake_has_text HandshakeRequest.Finish = false
handshake_has_text (HandshakeRequest.ContextType n) = false
handshake_has_text HandshakeRequest.Name = true
handshake_has_text (HandshakeRequest.InterfaceVersion v) = true

abbrev pub text_has_text : TextRequest → Bool
text_has_text TextRequest.Release = false
text_has_text (TextRequest.Keysym k s) = false
text_has_text TextRequest.Utf8 = true

abbrev pub interface_has_text : InterfaceRequest → Bool
interface_has_text (InterfaceRequest.Pointer r) = false
interface_has_text (InterfaceRequest.PointerAbsolute r) = false
interface_has_text (InterfaceRequest.Scroll r) = false
interface_has_text (InterfaceRequest.Button r) = false
interface_has_text (InterfaceRequest.Keyboard r) = false
interface_has_text (InterfaceRequest.Touchscreen r) = false
interface_has_text (InterfaceRequest.Text r) = text_has_text r

abbrev pub has_text : Request → Bool
has_text (Request.Handshake r) = handshake_has_text r
has_text (Request.Connection r) = false
has_text Request.PingpongDone = false
has_text (Request.Seat r) = false
has_text (Request.Device r) = false
has_text (Request.Interface r) = interface_has_text r

-- The record's request, with its part of the texts; "A record with text whose part leaves the text slice" has none. The sum is a whole number: it does not
-- wrap at 2 ^ 64
unfoldable pub entry_of : (lent : List ℕ) → RequestRecord → Entry (Call Input)
entry_of lent r =
    cond (not (has_text r.request) || leb (r.start + r.length) (length lent))
    (Entry.request (call_of r.request r.object r.version (take r.length (drop r.start lent))))
    Entry.bad_part

-- what is lent of the texts to the request: its part, or nothing where it has no text
unfoldable pub part_of : (lent : List ℕ) → RequestRecord → Option (List ℕ)
part_of lent r =
    cond (has_text r.request) (cond (leb (r.start + r.length) (length lent)) (some (take r.length (drop r.start lent))) none) (some [])
