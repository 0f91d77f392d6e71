-- EVERY EVENT THAT A CALL SENDS HAS A MESSAGE: "told the interface of the addressed object", the writer makes one of its record, unless its text has a zero byte. The
-- theorems are in proofs/Sessions.antt and proofs/Makers.antt. Assumes nothing.
use Rattle.std.specs.Prelude.{ℕ, ◌<◌, Bool, true, ◌≡◌, ltb}
use mathlib.Core.List.{List, [], ◌++◌, map, Memᴰ}
use Rattle.std.proofs.Math.Option.{Option}
use Rattle.eiproto.specs.Bits.{every}
use Rattle.eiproto.specs.Capability.{interface_of_bit}
use Rattle.eiproto.specs.Interface.{ei_connection, ei_callback, ei_seat, ei_device}
use Rattle.eiproto.specs.declared.eiproto_enum.DeviceType.{DeviceType}
use Rattle.wire.specs.Record.{layout}
use Rattle.event_messages.specs.Table.{kind_of}
use Rattle.event_messages.specs.Stands.{zero_free, sendable, Stands}
use Rattle.model.specs.Call.{Load, Sight, Plain, Call, Turn, Split, split}
use Rattle.model.specs.Session.{Session, View, fresh, view}
use Rattle.model.specs.Plan.{Sent, records}
use Rattle.model.specs.Decide.{seat_of, device_of, device_for_interface, decide}
use Rattle.model.specs.Step.{step}
use Rattle.model.specs.Reachable.{session_after}
use Rattle.model.specs.Live.{is_found}

-- ---- who makes an event

-- An object of the interface has the id: it stands in the session before the call, or the call makes it
pub data Maker (v : View) : (c : Call Sight) (interface id : ℕ) → Type 0 where
  -- `disconnected` may have been sent on it before
  connection : {c : Call Sight} → Maker v c ei_connection v.connection.id
  seat : {c : Call Sight} {id : ℕ} → is_found (seat_of id v) ≡ true → Maker v c ei_seat id
  device : {c : Call Sight} {id : ℕ} → is_found (device_of id v) ≡ true → Maker v c ei_device id
  -- what a device lists for a capability
  interface : {c : Call Sight} {id : ℕ} (capability : ℕ) → is_found (device_for_interface capability id v) ≡ true → Maker v c (interface_of_bit capability) id
  -- a Sync's, from a record or from bytes
  callback : {id version : ℕ} → Maker v (Call.plain (Plain.sync id version)) ei_callback id
  callback_read : {id version : ℕ} → Maker v (Call.plain (Plain.sync_message id version)) ei_callback id
  new_seat : {name : Option (List ℕ)} {caps : ℕ} → Maker v (Call.plain (Plain.add_seat name caps)) ei_seat v.connection.next_id
  new_device : {seat caps : ℕ} {name : Option (List ℕ)} {type : DeviceType} →
      Maker v (Call.plain (Plain.add_device seat name type caps)) ei_device v.connection.next_id

-- ---- an event

-- its maker's interface has it, and it can be sent exactly when there is no "zero byte inside a text"
pub record HasMessage (v : View) (c : Call Sight) (e : Sent) : Type 0 where
  pub interface : ℕ
  pub opcode : ℕ
  pub maker : Maker v c interface e.object
  pub has : kind_of interface opcode ≡ (layout e.event).kind
  pub fits : sendable e.event e.text ≡ zero_free e.text

-- ---- the statements

-- every interface that a device lists is for one of the seven capabilities; a session whose stored words were damaged may list others
unfoldable pub known : {P : Type 0} → Session P → Bool
unfolding every
known s = every (λ d. every (λ i. ltb i.capability 7) d.interfaces) s.devices

-- of every call on such a session, also of one that a limit refuses
unfoldable pub SentIsSendable : Type 0
unfolding known decide
SentIsSendable = (v : View) (now : ℕ) (c : Call Sight) (e : Sent) → known v ≡ true → Memᴰ e (decide v now c).events → HasMessage v c e

-- every session is such a one that calls lead to from a fresh one
unfoldable pub ReachedIsKnown : Type 0
unfolding known session_after split fresh
ReachedIsKnown = (c s n : ℕ) (vs : List (Option ℕ)) (ts : List Turn) → known (session_after (map split ts) (fresh {P = Load} c s n vs)) ≡ true

-- The interface is no matter of choice: where the connection's id is below those that the session gives, as a handshake leaves it, an event on an object has messages on
-- one interface alone
unfoldable pub OneInterface : Type 0
unfolding session_after split fresh view
OneInterface =
    (c s n : ℕ) (vs : List (Option ℕ)) (ts : List Turn) (call : Call Sight) (e : Sent) → c < n →
    let v = view (session_after (map split ts) (fresh {P = Load} c s n vs)) in
    (x y : HasMessage v call e) → x.interface ≡ y.interface

-- ---- the same in bytes

-- records one behind the other, each with the message that stands for it on its object
pub data Sendable (Object : (interface id : ℕ) → Type 0) : List ℕ → Type 0 where
  none : Sendable Object []
  more : {interface : ℕ} {bytes sent rest : List ℕ} (x : Stands interface bytes sent) → Object interface x.object → Sendable Object rest →
      Sendable Object (bytes ++ rest)

-- what a call writes to `out`, where no text among it has a zero byte
unfoldable pub WrittenIsSendable : Type 1
unfolding known view step records every zero_free
WrittenIsSendable =
    (P : Type 0) (t : Split P) (s : Session P) → known s ≡ true →
    let events = (step t s).events in
    every (λ e. zero_free e.text) events ≡ true → Sendable (Maker (view s) t.call) (records events)
