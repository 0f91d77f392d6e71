-- THE PROTOCOL'S MESSAGE OF AN EVENT: "object id 64 bits, length 32 bits with the header of 16 bytes, opcode 32 bits, arguments". Assumes nothing.
use Rattle.std.specs.Prelude.{ℕ, zero, suc, ◌+◌, ◌-◌, ◌*◌, ◌/◌, ◌%◌, cond, List, [], ◌∷◌, ◌++◌, length, replicate}
use Rattle.eiproto.specs.Interface.{interface_name}
use Rattle.wire.specs.declared.event.Event.{Event}
use Rattle.wire.specs.declared.event.Event.TheVariants.{Seat, Name, Capability, Done, Destroyed, Device, DeviceType, Interface, Resumed, Paused, StartEmulating, StopEmulating, Frame, Disconnected, CallbackDone, HandshakeVersion, InterfaceVersion, Connection}

-- "here always little-endian": the k low bytes of a number, the least significant first
unfoldable pub le : ℕ → ℕ → List ℕ
le zero n = []
le (suc k) n = n % 256 ∷ le k (n / 256)

abbrev pub uint32 : ℕ → List ℕ
uint32 n = le 4 n

abbrev pub uint64 : ℕ → List ℕ
uint64 n = le 8 n

-- the bytes behind a string's length: "the closing zero byte and .. padded with zeros to four bytes"
abbrev pub padded : ℕ → ℕ
padded count = (count + 3) / 4 * 4

-- "Strings carry their length with the closing zero byte"
unfoldable pub string : List ℕ → List ℕ
unfolding le
string text = uint32 (length text + 1) ++ (text ++ replicate (padded (length text + 1) - length text) 0)

-- no string
abbrev pub null : List ℕ
null = uint32 0

-- an event's arguments, each in the order of its method in src/eiproto_eis.rs
unfoldable pub arguments : Event → (text : List ℕ) → List ℕ
unfolding le string
arguments (Seat id version) text = uint64 id ++ uint32 version
arguments Name text = string text
arguments (Capability mask interface) text = uint64 mask ++ string (interface_name interface)
arguments Done text = []
arguments (Destroyed serial) text = uint32 serial
arguments (Device id version) text = uint64 id ++ uint32 version
arguments (DeviceType value) text = uint32 value
arguments (Interface id interface version) text = uint64 id ++ (string (interface_name interface) ++ uint32 version)
arguments (Resumed serial) text = uint32 serial
arguments (Paused serial) text = uint32 serial
arguments (StartEmulating serial sequence) text = uint32 serial ++ uint32 sequence
arguments (StopEmulating serial) text = uint32 serial
arguments (Frame serial time) text = uint32 serial ++ uint64 time
arguments (Disconnected serial reason explained) text = uint32 serial ++ (uint32 reason ++ cond explained (string text) null)
arguments (CallbackDone value) text = uint64 value
arguments (HandshakeVersion version) text = uint32 version
arguments (InterfaceVersion interface version) text = string (interface_name interface) ++ uint32 version
arguments (Connection id serial version) text = uint32 serial ++ (uint64 id ++ uint32 version)

-- a message: its header, and these arguments
unfoldable pub message : (object opcode : ℕ) → (arguments : List ℕ) → List ℕ
unfolding le
message object opcode arguments = uint64 object ++ (uint32 (16 + length arguments) ++ (uint32 opcode ++ arguments))
