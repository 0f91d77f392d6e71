-- The twelve interfaces, their names and the server's versions. Assumes nothing.
use Rattle.std.specs.Prelude.{ℕ, ◌+◌, Bool, true, false, cond, ◌&&◌, List, [], ◌∷◌, eqb, get_or}
use Prim.Native.Char.{code}
use Prim.Native.String.{String, [] as end, ◌∷◌ as ◌then◌}
use Rattle.std.proofs.Math.Option.{Option, none, some}

-- the bytes of an ASCII text
unfoldable pub ascii : String → List ℕ
ascii end = []
ascii (c then s) = code c ∷ ascii s

-- an interface: its NAME and its VERSION
pub record Row : Type 0 where
  pub name : List ℕ
  pub version : ℕ

unfoldable pub row : String → ℕ → Row
unfolding ascii
row s v = record { name = ascii s; version = v }

-- "Interfaces are numbered from 1: connection, callback, pingpong, seat, device, pointer, pointer_absolute, scroll, button, keyboard,
-- touchscreen, text (a constant table with the `ei_` names and the `VERSION` of each in src/eiproto_eis.rs)"
unfoldable pub interfaces : List Row
unfolding row
interfaces =
    row "ei_connection" 1
    ∷ row "ei_callback" 1
    ∷ row "ei_pingpong" 1
    ∷ row "ei_seat" 2
    ∷ row "ei_device" 3
    ∷ row "ei_pointer" 1
    ∷ row "ei_pointer_absolute" 1
    ∷ row "ei_scroll" 1
    ∷ row "ei_button" 1
    ∷ row "ei_keyboard" 1
    ∷ row "ei_touchscreen" 2
    ∷ row "ei_text" 1
    ∷ []

abbrev pub interface_count : ℕ
interface_count = 12

-- their numbers
abbrev pub ei_connection : ℕ
ei_connection = 1

abbrev pub ei_callback : ℕ
ei_callback = 2

abbrev pub ei_pingpong : ℕ
ei_pingpong = 3

abbrev pub ei_seat : ℕ
ei_seat = 4

abbrev pub ei_device : ℕ
ei_device = 5

abbrev pub ei_pointer : ℕ
ei_pointer = 6

abbrev pub ei_pointer_absolute : ℕ
ei_pointer_absolute = 7

abbrev pub ei_scroll : ℕ
ei_scroll = 8

abbrev pub ei_button : ℕ
ei_button = 9

abbrev pub ei_keyboard : ℕ
ei_keyboard = 10

abbrev pub ei_touchscreen : ℕ
ei_touchscreen = 11

abbrev pub ei_text : ℕ
ei_text = 12

-- the rows by number: 0 is no interface's, and its row has no name and version 0
unfoldable pub table : List Row
unfolding interfaces
table = row "" 0 ∷ interfaces

-- the row of a number, and that of 0 for a number past the table
unfoldable pub row_of : ℕ → Row
unfolding table
row_of i = get_or table i (row "" 0)

-- no bytes, and version 0, for a number that is no interface's
unfoldable pub interface_name : ℕ → List ℕ
unfolding row_of
interface_name i = (row_of i).name

unfoldable pub server_version : ℕ → ℕ
unfolding row_of
server_version i = (row_of i).version

-- two names are the same, byte for byte
unfoldable pub same_bytes : List ℕ → List ℕ → Bool
same_bytes [] [] = true
same_bytes [] (y ∷ ys) = false
same_bytes (x ∷ xs) [] = false
same_bytes (x ∷ xs) (y ∷ ys) = eqb x y && same_bytes xs ys

-- the number of the first row with the name, where the rows are numbered from i on
unfoldable pub lookup_from : ℕ → List Row → List ℕ → Option ℕ
unfolding same_bytes
lookup_from i [] name = none
lookup_from i (r ∷ rs) name = cond (same_bytes r.name name) (some i) (lookup_from (i + 1) rs name)

-- the number of the interface that has the name, which may have any length
unfoldable pub lookup : List ℕ → Option ℕ
unfolding lookup_from interfaces
lookup name = lookup_from 1 interfaces name
