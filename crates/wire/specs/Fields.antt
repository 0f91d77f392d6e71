-- An event's record in whole bytes, as the code writes it. Assumes nothing.
use Rattle.std.specs.Prelude.{ℕ, ◌+◌, ◌*◌, ◌%◌, ◌≤◌, ◌<◌, Bool, List, ◌++◌, ◌≡◌}
use Rattle.wire.specs.Bits.{widths, be, pack}
use Rattle.wire.specs.Record.{layout}
use Rattle.wire.specs.declared.event.Event.{Event}
use Rattle.wire.specs.declared.event.EventKind.{EventKind}
use Rattle.wire.specs.declared.event.Number.{Number}
use Rattle.wire.specs.declared.event.Fields.{Fields}

-- the number that a record has for its kind
abbrev pub kind_number : EventKind → ℕ
kind_number EventKind.Seat = 1
kind_number EventKind.Name = 2
kind_number EventKind.Capability = 3
kind_number EventKind.Done = 4
kind_number EventKind.Destroyed = 5
kind_number EventKind.Device = 6
kind_number EventKind.DeviceType = 7
kind_number EventKind.Interface = 8
kind_number EventKind.Resumed = 9
kind_number EventKind.Paused = 10
kind_number EventKind.StartEmulating = 11
kind_number EventKind.StopEmulating = 12
kind_number EventKind.Frame = 13
kind_number EventKind.Disconnected = 14
kind_number EventKind.CallbackDone = 15
kind_number EventKind.HandshakeVersion = 16
kind_number EventKind.InterfaceVersion = 17
kind_number EventKind.Connection = 18

-- a number in so many bytes
abbrev pub number_of : (bytes value : ℕ) → Number
number_of bytes value = record { bytes = bytes; value = value }

abbrev pub numbers : (kind n1 x1 n2 x2 n3 x3 : ℕ) → Bool → Fields
numbers kind n1 x1 n2 x2 n3 x3 text =
    record { kind = kind; first = number_of n1 x1; second = number_of n2 x2; third = number_of n3 x3; text = text }

-- the numbers' length in bytes, and their bytes
abbrev pub size : Fields → ℕ
size f = f.first.bytes + (f.second.bytes + f.third.bytes)

abbrev pub bytes : Fields → List ℕ
bytes f = be f.first.bytes f.first.value ++ (be f.second.bytes f.second.value ++ be f.third.bytes f.third.value)

-- the record without its text: "kind 5 bits, record length in bytes 11 bits" are two bytes, the object id eight
abbrev pub start : (object : ℕ) → Fields → (length : ℕ) → List ℕ
start object f length = be 2 (f.kind * 2048 + length % 2048) ++ (be 8 object ++ bytes f)

-- these are the kind, the fields and the text that the layout lists for the event
pub record Laid (e : Event) (f : Fields) : Type 0 where
  pub kind : f.kind ≡ (layout e).kind
  pub small : f.kind < 32
  pub text : f.text ≡ (layout e).text
  pub packed : bytes f ≡ pack (layout e).fields
  pub wide : widths (layout e).fields ≡ 8 * size f
  pub most : size f ≤ 16
