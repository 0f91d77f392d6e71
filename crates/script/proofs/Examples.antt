-- Lines of the format's page and what they are, by computation. Assumes nothing.
use Prim.Native.Nat.{◌^◌, ◌-◌}
use Prim.Native.String.{String}
use mathlib.Core.Path.{◌≡◌, refl}
use mathlib.Core.Bool.{true, false}
use mathlib.Core.List.{[], ◌∷◌, map}
use lib.Ieee.{nan, fin, inf}
use lib.IntN.{pos, negsuc}
use lib.ListN.{length}
use Rattle.std.specs.Prelude.{Some, None}
use Rattle.script.specs.declared.verb.Verb.TheVariants.{Now, Out, Start, HandshakeInterfaceVersion, HandshakeFinish, SeatBind, KeyboardKey, ScrollScrollDiscrete, PointerMotionRelative, TextUtf8, AddSeat, AddDevice, Disconnected, HasCapability, Read, Message, WriteMessage, ReadMessage}
use Rattle.eiproto.specs.Interface.{ascii}
use Rattle.script.specs.Words.{words}
use Rattle.script.specs.Verbs.{table}
use Rattle.script.specs.Script.{Reading, number64, number32, signed, float, text, no_text, text_part, blank, setting, call, no_call, reading}
use Rattle.script.specs.Split.{line_end}

abbrev read : String → Reading
read s = reading false (ascii s)

-- a line of a read
abbrev record_of : String → Reading
record_of s = reading true (ascii s)

-- three settings and 56 calls
rows : length table ≡ 59
unfolding table
rows = refl

blanks : map read ("" ∷ "#" ∷ "# start 7" ∷ []) ≡ blank ∷ blank ∷ blank ∷ []
unfolding reading ascii
blanks = refl

clock : read "now 0x1f4" ≡ setting Now (number64 500 ∷ [])
unfolding reading ascii
clock = refl

room : read "out 18446744073709551615" ≡ setting Out (number64 (2 ^ 64 - 1) ∷ [])
unfolding reading ascii
room = refl

begin : read "start 7" ≡ call Start (number32 7 ∷ [])
unfolding reading ascii
begin = refl

version : read "handshake.interface_version t:65695f636f6e6e656374696f6e 1" ≡ call HandshakeInterfaceVersion (text (ascii "ei_connection") ∷ number32 1 ∷ [])
unfolding reading ascii
version = refl

finish : read "handshake.finish" ≡ call HandshakeFinish []
unfolding reading ascii
finish = refl

bind : read "seat.bind 0xff00000000000001 0127" ≡ call SeatBind (number64 0xff00000000000001 ∷ number64 127 ∷ [])
unfolding reading ascii
bind = refl

utf8 : read "text.utf8 1 t:61C3a9" ≡ call TextUtf8 (number64 1 ∷ text (0x61 ∷ 0xc3 ∷ 0xa9 ∷ []) ∷ [])
unfolding reading ascii
utf8 = refl

scroll : read "scroll.scroll_discrete 1 -2147483648 0x7fffffff" ≡ call ScrollScrollDiscrete (number64 1 ∷ signed (negsuc 2147483647) ∷ signed (pos 2147483647) ∷ [])
unfolding reading ascii
scroll = refl

one : read "pointer.motion_relative 1 0x3f800000 nan" ≡ call PointerMotionRelative (number64 1 ∷ float (fin false 1 (pos 0)) ∷ float nan ∷ [])
unfolding reading ascii
one = refl

-- a NaN's pattern with a sign and a payload, and an infinity's
patterns : read "pointer.motion_relative 1 0xffc00001 0x7f800000" ≡ call PointerMotionRelative (number64 1 ∷ float nan ∷ float (inf false) ∷ [])
unfolding reading ascii
patterns = refl

seat : read "add_seat none 4" ≡ call AddSeat (no_text ∷ number64 4 ∷ [])
unfolding reading ascii
seat = refl

device : read "add_device 1 t: 2 4" ≡ call AddDevice (number64 1 ∷ text [] ∷ number32 2 ∷ number64 4 ∷ [])
unfolding reading ascii
device = refl

reason : read "disconnected 5 none" ≡ call Disconnected (number32 5 ∷ no_text ∷ [])
unfolding reading ascii
reason = refl

keyboard : read "has_capability 2 4" ≡ call HasCapability (number64 2 ∷ number64 4 ∷ [])
unfolding reading ascii
keyboard = refl

-- a read's first line, and lines of a read: a part for a text
reads : read "read 65535 t:61" ≡ call Read (number32 65535 ∷ text (0x61 ∷ []) ∷ [])
unfolding reading ascii
reads = refl

-- a client's bytes
message : read "message t:0100" ≡ call Message (text (1 ∷ 0 ∷ []) ∷ [])
unfolding reading ascii
message = refl

-- an event's record and its message, for an interface below 256
write_message : read "write_message 255 t:01" ≡ call WriteMessage (number32 255 ∷ text (1 ∷ []) ∷ [])
unfolding reading ascii
write_message = refl

read-message : read "read_message 0 t:" ≡ call ReadMessage (number32 0 ∷ text [] ∷ [])
unfolding reading ascii
read-message = refl

no_interface : map read ("write_message 256 t:01" ∷ "read_message 0x100 t:" ∷ "write_message 5" ∷ "read_message t:" ∷ "write_message 5 01" ∷ "read_message 5 none" ∷ [])
    ≡ no_call ∷ no_call ∷ no_call ∷ no_call ∷ no_call ∷ no_call ∷ []
unfolding reading ascii
no_interface = refl

part : record_of "text.utf8 1 p:0x2:18446744073709551615" ≡ call TextUtf8 (number64 1 ∷ text_part 2 (2 ^ 64 - 1) ∷ [])
unfolding reading ascii
part = refl

part_first_lem : record_of "handshake.interface_version p:0:1 1" ≡ call HandshakeInterfaceVersion (text_part 0 1 ∷ number32 1 ∷ [])
unfolding reading ascii
part_first_lem = refl

other : record_of "keyboard.key 5 30 1" ≡ call KeyboardKey (number64 5 ∷ number32 30 ∷ number32 1 ∷ [])
unfolding reading ascii
other = refl

no_parts : map record_of
    ("text.utf8 1 t:61" ∷ "text.utf8 1 p:1" ∷ "text.utf8 1 p::1" ∷ "text.utf8 1 p:1:" ∷ "text.utf8 1 p:1:2:3" ∷ "text.utf8 1 p:18446744073709551616:0"
    ∷ "text.utf8 1 p:0:18446744073709551616" ∷ "text.utf8 1 P:0:1" ∷ "text.utf8 1 none" ∷ [])
    ≡ no_call ∷ no_call ∷ no_call ∷ no_call ∷ no_call ∷ no_call ∷ no_call ∷ no_call ∷ no_call ∷ []
unfolding reading ascii
no_parts = refl

outside : map read ("text.utf8 1 p:0:1" ∷ "read 1 p:0:1" ∷ "read 65536 t:" ∷ "read 1 none" ∷ "add_seat p:0:1 4" ∷ []) ≡ no_call ∷ no_call ∷ no_call ∷ no_call ∷ no_call ∷ []
unfolding reading ascii
outside = refl

-- "a press state above 1, a type, reason or mask that has no such value, a number too large for its field", and words that are none
refused : map read
    ("keyboard.key 1 30 2" ∷ "add_device 1 none 3 4" ∷ "disconnected 6 none" ∷ "has_capability 1 3" ∷ "start 4294967296"
    ∷ "now 18446744073709551616" ∷ "scroll.scroll_discrete 1 2147483648 0" ∷ "start -1" ∷ "start 0x" ∷ "start 0X7" ∷ "start" ∷ "start 7 "
    ∷ "start  7" ∷ " start 7" ∷ "Start 7" ∷ "handshake.name none" ∷ "handshake.name t:6" ∷ "handshake.finish 1" ∷ [])
    ≡ no_call ∷ no_call ∷ no_call ∷ no_call ∷ no_call ∷ no_call ∷ no_call ∷ no_call ∷ no_call ∷ no_call ∷ no_call ∷ no_call ∷ no_call ∷ no_call ∷ no_call
    ∷ no_call ∷ no_call ∷ no_call ∷ []
unfolding reading ascii
refused = refl

-- two spaces have an empty word between them
split : words (ascii "a  b ") ≡ ascii "a" ∷ [] ∷ ascii "b" ∷ [] ∷ []
unfolding words ascii
split = refl

-- lines that end with a newline, with a carriage return before it, and not yet
ends : line_end (0x61 ∷ 0x0a ∷ 0x62 ∷ 0x0d ∷ 0x0a ∷ 0x63 ∷ 0x0d ∷ []) 0 7 ≡ Some (record { end = 1; next = 2 })
unfolding line_end
ends = refl

returned : line_end (0x61 ∷ 0x0a ∷ 0x62 ∷ 0x0d ∷ 0x0a ∷ 0x63 ∷ 0x0d ∷ []) 2 7 ≡ Some (record { end = 3; next = 5 })
unfolding line_end
returned = refl

goes_on : line_end (0x61 ∷ 0x0a ∷ 0x62 ∷ 0x0d ∷ 0x0a ∷ 0x63 ∷ 0x0d ∷ []) 2 4 ≡ None
unfolding line_end
goes_on = refl
