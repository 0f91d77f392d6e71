-- WHICH MESSAGE STANDS FOR WHICH RECORD. Assumes nothing.
use Rattle.std.specs.Prelude.{ℕ, ◌≤◌, ◌<◌, Bool, true, ◌&&◌, ◌||◌, not, List, [], ◌∷◌, ◌≡◌, leb, ltb, length}
use Rattle.utf8.specs.Rfc3629.{is_utf8}
use Rattle.wire.specs.Bits.{splice}
use Rattle.wire.specs.Record.{layout, event_record}
use Rattle.wire.specs.declared.event.Event.{Event}
use Rattle.wire.specs.declared.event.Event.TheVariants.{Seat, Name, Capability, Done, Destroyed, Device, DeviceType, Interface, Resumed, Paused, StartEmulating, StopEmulating, Frame, Disconnected, CallbackDone, HandshakeVersion, InterfaceVersion, Connection}
use Rattle.event_messages.specs.Table.{kind_of}
use Rattle.event_messages.specs.Message.{arguments, message}
use Rattle.event_messages.specs.declared.MessageError.{MessageError}
use Rattle.event_messages.specs.Written.{Written}
use Rattle.std.specs.Prelude.{Ok, Err}

-- ---- what can be sent

abbrev pub between : (least most n : ℕ) → Bool
between least most n = leb least n && leb n most

-- no "zero byte inside a text"
unfoldable pub zero_free : List ℕ → Bool
zero_free [] = true
zero_free (x ∷ l) = ltb 0 x && zero_free l

-- "a text above 254 bytes", "text that is not UTF-8" and one "with a zero byte inside" are unsendable
unfoldable pub sendable_text : List ℕ → Bool
unfolding zero_free is_utf8
sendable_text text = leb (length text) 254 && (is_utf8 text && zero_free text)

-- so is an event with "an interface, reason or device type that has no such number"
unfoldable pub sendable : Event → (text : List ℕ) → Bool
unfolding sendable_text
sendable (Seat id version) text = true
sendable Name text = sendable_text text
sendable (Capability mask interface) text = between 1 12 interface
sendable Done text = true
sendable (Destroyed serial) text = true
sendable (Device id version) text = true
sendable (DeviceType value) text = between 1 2 value
sendable (Interface id interface version) text = between 1 12 interface
sendable (Resumed serial) text = true
sendable (Paused serial) text = true
sendable (StartEmulating serial sequence) text = true
sendable (StopEmulating serial) text = true
sendable (Frame serial time) text = true
sendable (Disconnected serial reason explained) text = between 0 5 reason && (not explained || sendable_text text)
sendable (CallbackDone value) text = true
sendable (HandshakeVersion version) text = true
sendable (InterfaceVersion interface version) text = between 1 12 interface
sendable (Connection id serial version) text = true

-- ---- record and message

-- of one event with its object and its text the bytes are the record and `sent` is the message, on an object of the interface, which has the event, and it
-- can be sent
pub record Stands (interface : ℕ) (bytes sent : List ℕ) : Type 0 where
  pub object : ℕ
  pub opcode : ℕ
  pub event : Event
  pub text : List ℕ
  pub has : kind_of interface opcode ≡ (layout event).kind
  pub fits : sendable event text ≡ true
  pub laid : bytes ≡ event_record object event text
  pub told : sent ≡ message object opcode (arguments event text)

-- ---- what turning the one into the other promises

-- The bytes asked for stand at the front of the buffer, every other byte as it was, and their number is answered; or there are such bytes, and
-- the buffer is shorter: 19; or there are none: the refusal. A refusal leaves the buffer as it was.
pub data Turned (Asked : List ℕ → Type 0) (refusal : MessageError) (out later : List ℕ) : Written → Type 0 where
  given : {bytes : List ℕ} → Asked bytes → length bytes ≤ length out → later ≡ splice out 0 bytes → Turned Asked refusal out later (Ok (length bytes))
  short : {bytes : List ℕ} → Asked bytes → length out < length bytes → later ≡ out → Turned Asked refusal out later (Err MessageError.ShortOut)
  none : ((bytes : List ℕ) → Asked bytes → ⊥) → later ≡ out → Turned Asked refusal out later (Err refusal)
