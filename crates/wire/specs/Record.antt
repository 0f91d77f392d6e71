-- Event records, as docs/REFERENCE.md lists them. Assumes nothing.
use Rattle.std.specs.Prelude.{ℕ, ◌+◌, ◌/◌, Bool, true, false, cond, List, [], ◌∷◌, ◌++◌, length}
use Rattle.wire.specs.Bits.{Field, ◌bits◌, widths, packed, be, pack}
use Rattle.wire.specs.declared.event.Event.{Event}
use Rattle.wire.specs.declared.event.Event.TheVariants.{Seat, Name, Capability, Done, Destroyed, Device, DeviceType, Interface, Resumed, Paused, StartEmulating, StopEmulating, Frame, Disconnected, CallbackDone, HandshakeVersion, InterfaceVersion, Connection}

-- a record's kind, the fields behind its object id, and whether it ends in a text
pub record Layout : Type 0 where
  pub kind : ℕ
  pub fields : List Field
  pub text : Bool

-- a kind that has no text
abbrev pub fixed : ℕ → List Field → Layout
fixed kind fields = record { kind = kind; fields = fields; text = false }

-- the list. The text of 14 is "empty without one", an explanation
unfoldable pub layout : Event → Layout
layout (Seat id version) = fixed 1 (64 bits id ∷ 32 bits version ∷ [])
layout Name = record { kind = 2; fields = []; text = true }
layout (Capability mask interface) = fixed 3 (64 bits mask ∷ 8 bits interface ∷ [])
layout Done = fixed 4 []
layout (Destroyed serial) = fixed 5 (32 bits serial ∷ [])
layout (Device id version) = fixed 6 (64 bits id ∷ 32 bits version ∷ [])
layout (DeviceType value) = fixed 7 (32 bits value ∷ [])
layout (Interface id interface version) = fixed 8 (64 bits id ∷ 8 bits interface ∷ 32 bits version ∷ [])
layout (Resumed serial) = fixed 9 (32 bits serial ∷ [])
layout (Paused serial) = fixed 10 (32 bits serial ∷ [])
layout (StartEmulating serial sequence) = fixed 11 (32 bits serial ∷ 32 bits sequence ∷ [])
layout (StopEmulating serial) = fixed 12 (32 bits serial ∷ [])
layout (Frame serial time) = fixed 13 (32 bits serial ∷ 64 bits time ∷ [])
layout (Disconnected serial reason explained) =
    record { kind = 14; fields = 32 bits serial ∷ 32 bits reason ∷ 1 bits (cond explained 1 0) ∷ 7 bits 0 ∷ []; text = explained }
layout (CallbackDone value) = fixed 15 (64 bits value ∷ [])
layout (HandshakeVersion version) = fixed 16 (32 bits version ∷ [])
layout (InterfaceVersion interface version) = fixed 17 (8 bits interface ∷ 32 bits version ∷ [])
layout (Connection id serial version) = fixed 18 (64 bits id ∷ 32 bits serial ∷ 32 bits version ∷ [])

-- the text at a record's end, of that which is lent beside the event
unfoldable pub text_of : Event → List ℕ → List ℕ
unfolding layout
text_of e text = cond (layout e).text text []

-- "kind 5 bits, record length in bytes 11 bits, object id 64 bits"
unfoldable pub header : (kind size object : ℕ) → List Field
header kind size object = 5 bits kind ∷ 11 bits size ∷ 64 bits object ∷ []

-- a record's length in bytes, its text aside; and with it
unfoldable pub fixed_length : Event → ℕ
unfolding widths layout
fixed_length e = (5 + 11 + 64 + widths (layout e).fields) / 8

unfoldable pub record_length : Event → List ℕ → ℕ
unfolding fixed_length text_of
record_length e text = fixed_length e + length (text_of e text)

-- a record's bytes: "kind 5 bits, record length in bytes 11 bits, object id 64 bits, then the fields"
unfoldable pub event_record : (object : ℕ) → Event → (text : List ℕ) → List ℕ
unfolding pack widths packed be header layout record_length fixed_length text_of
event_record object e text = pack (header (layout e).kind (record_length e text) object ++ (layout e).fields) ++ text_of e text
