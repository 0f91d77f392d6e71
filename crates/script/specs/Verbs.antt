-- The table of the format's page: the first word of each line, and what the words behind it are. Assumes nothing.
use Rattle.std.specs.Prelude.{ℕ, ◌+◌, Bool, true, false, cond, List, [], ◌∷◌, ◌++◌, map, get_or, slice_get, Option as Maybe}
use Prim.Native.String.{String}
use Rattle.std.specs.Borrow.{Bor}
use Rattle.std.proofs.Math.Option.{Option, none, some}
use Rattle.script.specs.declared.verb.Verb.{Verb}
use Rattle.script.specs.declared.verb.Verb.TheVariants.{Now, Out, Buffer, Start, HandshakeHandshakeVersion, HandshakeName, HandshakeContextType, HandshakeInterfaceVersion, HandshakeFinish, ConnectionSync, ConnectionDisconnect, PingpongDone, SeatRelease, SeatBind, SeatRequestDevice, DeviceRelease, DeviceStartEmulating, DeviceStopEmulating, DeviceFrame, DeviceReady, PointerRelease, PointerMotionRelative, PointerAbsoluteRelease, PointerAbsoluteMotionAbsolute, ScrollRelease, ScrollScroll, ScrollScrollDiscrete, ScrollScrollStop, ButtonRelease, ButtonButton, KeyboardRelease, KeyboardKey, TouchscreenRelease, TouchscreenDown, TouchscreenMotion, TouchscreenUp, TouchscreenCancel, TextRelease, TextKeysym, TextUtf8, NextRequest, AddSeat, AddDevice, RemoveSeat, RemoveDevice, Resumed, Paused, StartEmulating, StopEmulating, Frame, Disconnected, LastSerial, HasInterface, InterfaceVersion, HasCapability, Read, Message, WriteMessage, ReadMessage}
use Rattle.script.specs.declared.verb.Kind.{Kind}
use Rattle.script.specs.declared.verb.Kind.TheVariants.{U64, U32, I32, F32, Text, OptionalText, State, TypeNumber, Reason, Capability, Count, Part, Interface}
use Rattle.eiproto.specs.Interface.{ascii, same_bytes}

-- a line of the table: the first word, its verb, and what the words behind it are, in their order
pub record Entry : Type 0 where
  pub name : List ℕ
  pub verb : Verb
  pub kinds : List Kind

unfoldable pub row : String → Verb → List Kind → Entry
unfolding ascii
row s v ks = record { name = ascii s; verb = v; kinds = ks }

-- "`now N` is the clock for the calls that follow; `out N` the length of the lent `out`; `buffer N` the length of the text buffer"
unfoldable pub settings : List Entry
unfolding row
settings =
    row "now" Now (U64 ∷ [])
    ∷ row "out" Out (U64 ∷ [])
    ∷ row "buffer" Buffer (U64 ∷ [])
    ∷ []

-- The calls of the page, in its order. An object is its id, of 64 bits as a time and a set of capabilities; any other number has 32.
unfoldable pub calls : List Entry
unfolding row
calls =
    row "start" Start (U32 ∷ [])
    ∷ row "handshake.handshake_version" HandshakeHandshakeVersion (U32 ∷ [])
    ∷ row "handshake.name" HandshakeName (Text ∷ [])
    ∷ row "handshake.context_type" HandshakeContextType (TypeNumber ∷ [])
    ∷ row "handshake.interface_version" HandshakeInterfaceVersion (Text ∷ U32 ∷ [])
    ∷ row "handshake.finish" HandshakeFinish []
    ∷ row "connection.sync" ConnectionSync (U64 ∷ U32 ∷ [])
    ∷ row "connection.disconnect" ConnectionDisconnect []
    ∷ row "pingpong.done" PingpongDone []
    ∷ row "seat.release" SeatRelease (U64 ∷ [])
    ∷ row "seat.bind" SeatBind (U64 ∷ U64 ∷ [])
    ∷ row "seat.request_device" SeatRequestDevice (U64 ∷ U64 ∷ [])
    ∷ row "device.release" DeviceRelease (U64 ∷ [])
    ∷ row "device.start_emulating" DeviceStartEmulating (U64 ∷ U32 ∷ U32 ∷ [])
    ∷ row "device.stop_emulating" DeviceStopEmulating (U64 ∷ U32 ∷ [])
    ∷ row "device.frame" DeviceFrame (U64 ∷ U32 ∷ U64 ∷ [])
    ∷ row "device.ready" DeviceReady (U64 ∷ [])
    ∷ row "pointer.release" PointerRelease (U64 ∷ [])
    ∷ row "pointer.motion_relative" PointerMotionRelative (U64 ∷ F32 ∷ F32 ∷ [])
    ∷ row "pointer_absolute.release" PointerAbsoluteRelease (U64 ∷ [])
    ∷ row "pointer_absolute.motion_absolute" PointerAbsoluteMotionAbsolute (U64 ∷ F32 ∷ F32 ∷ [])
    ∷ row "scroll.release" ScrollRelease (U64 ∷ [])
    ∷ row "scroll.scroll" ScrollScroll (U64 ∷ F32 ∷ F32 ∷ [])
    ∷ row "scroll.scroll_discrete" ScrollScrollDiscrete (U64 ∷ I32 ∷ I32 ∷ [])
    ∷ row "scroll.scroll_stop" ScrollScrollStop (U64 ∷ U32 ∷ U32 ∷ U32 ∷ [])
    ∷ row "button.release" ButtonRelease (U64 ∷ [])
    ∷ row "button.button" ButtonButton (U64 ∷ U32 ∷ State ∷ [])
    ∷ row "keyboard.release" KeyboardRelease (U64 ∷ [])
    ∷ row "keyboard.key" KeyboardKey (U64 ∷ U32 ∷ State ∷ [])
    ∷ row "touchscreen.release" TouchscreenRelease (U64 ∷ [])
    ∷ row "touchscreen.down" TouchscreenDown (U64 ∷ U32 ∷ F32 ∷ F32 ∷ [])
    ∷ row "touchscreen.motion" TouchscreenMotion (U64 ∷ U32 ∷ F32 ∷ F32 ∷ [])
    ∷ row "touchscreen.up" TouchscreenUp (U64 ∷ U32 ∷ [])
    ∷ row "touchscreen.cancel" TouchscreenCancel (U64 ∷ U32 ∷ U32 ∷ [])
    ∷ row "text.release" TextRelease (U64 ∷ [])
    ∷ row "text.keysym" TextKeysym (U64 ∷ U32 ∷ State ∷ [])
    ∷ row "text.utf8" TextUtf8 (U64 ∷ Text ∷ [])
    ∷ row "next_request" NextRequest []
    ∷ row "add_seat" AddSeat (OptionalText ∷ U64 ∷ [])
    ∷ row "add_device" AddDevice (U64 ∷ OptionalText ∷ TypeNumber ∷ U64 ∷ [])
    ∷ row "remove_seat" RemoveSeat (U64 ∷ [])
    ∷ row "remove_device" RemoveDevice (U64 ∷ [])
    ∷ row "resumed" Resumed (U64 ∷ [])
    ∷ row "paused" Paused (U64 ∷ [])
    ∷ row "start_emulating" StartEmulating (U64 ∷ U32 ∷ [])
    ∷ row "stop_emulating" StopEmulating (U64 ∷ [])
    ∷ row "frame" Frame (U64 ∷ U64 ∷ [])
    ∷ row "disconnected" Disconnected (Reason ∷ OptionalText ∷ [])
    ∷ row "last_serial" LastSerial []
    ∷ row "has_interface" HasInterface (Text ∷ [])
    ∷ row "interface_version" InterfaceVersion (Text ∷ [])
    ∷ row "has_capability" HasCapability (U64 ∷ Capability ∷ [])
    ∷ row "read" Read (Count ∷ Text ∷ [])
    ∷ row "message" Message (Text ∷ [])
    ∷ row "write_message" WriteMessage (Interface ∷ Text ∷ [])
    ∷ row "read_message" ReadMessage (Interface ∷ Text ∷ [])
    ∷ []

unfoldable pub table : List Entry
unfolding settings calls
table = settings ++ calls

-- the line of a number, counted from 0
unfoldable pub row_at : ℕ → Entry
unfolding table
row_at i = get_or table i (row "" Now [])

-- in a read a part stands for a text
abbrev pub kind_in : (in_read : Bool) → Kind → Kind
kind_in false k = k
kind_in true U64 = U64
kind_in true U32 = U32
kind_in true I32 = I32
kind_in true F32 = F32
kind_in true Text = Part
kind_in true OptionalText = OptionalText
kind_in true State = State
kind_in true TypeNumber = TypeNumber
kind_in true Reason = Reason
kind_in true Capability = Capability
kind_in true Count = Count
kind_in true Part = Part
kind_in true Interface = Interface

-- what the words behind the first are, in a read or outside of one
abbrev pub kinds_of : (in_read : Bool) → Entry → List Kind
kinds_of r e = map (kind_in r) e.kinds

-- the number of the first line with the word, where the lines are numbered from i on
unfoldable pub lookup_from : ℕ → List Entry → List ℕ → Option ℕ
unfolding same_bytes
lookup_from i [] word = none
lookup_from i (e ∷ es) word = cond (same_bytes e.name word) (some i) (lookup_from (i + 1) es word)

unfoldable pub lookup : List ℕ → Option ℕ
unfolding lookup_from table
lookup word = lookup_from 0 table word

-- the kind at a place, and none past the last
abbrev pub kind_at : ℕ → List Kind → Maybe Kind
kind_at i ks = slice_get ks i

-- ---- the table as the code has it

-- a row's first word, its verb, and what the words behind it are
abbrev pub Row : Type 0
Row = Bor (List ℕ) × Verb × Bor (List Kind)

abbrev pub entry_of : Row → Entry
entry_of r = record { name = r.0.now; verb = r.1; kinds = r.2.now }
