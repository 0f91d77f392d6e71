-- Values of the definitions, by computation. Assumes nothing.
use mathlib.Core.Path.{◌≡◌, refl}
use mathlib.Core.Bool.{true, false}
use mathlib.Core.List.{List, [], ◌∷◌, map}
use mathlib.Core.Option.{none, some}
use Prim.Native.Nat.{ℕ, ◌^◌, ◌+◌}
use Prim.Native.String.{String}
use lib.ListN.{length}
use Rattle.eiproto.specs.Bits.{bits_of, lowest_bit, without_lowest, bits_below, contains, common}
use Rattle.eiproto.specs.Interface.{ascii, interfaces, interface_count, interface_name, server_version, lookup}
use Rattle.eiproto.specs.Interface.{ei_connection, ei_callback, ei_pingpong, ei_seat, ei_device, ei_pointer, ei_pointer_absolute, ei_scroll, ei_button, ei_keyboard, ei_touchscreen, ei_text}

-- the numbers by name, and their names
numbers : List ℕ
numbers =
    ei_connection ∷ ei_callback ∷ ei_pingpong ∷ ei_seat ∷ ei_device ∷ ei_pointer ∷ ei_pointer_absolute ∷ ei_scroll ∷ ei_button ∷ ei_keyboard ∷ ei_touchscreen
    ∷ ei_text ∷ []

names : List String
names =
    "ei_connection" ∷ "ei_callback" ∷ "ei_pingpong" ∷ "ei_seat" ∷ "ei_device" ∷ "ei_pointer" ∷ "ei_pointer_absolute" ∷ "ei_scroll" ∷ "ei_button"
    ∷ "ei_keyboard" ∷ "ei_touchscreen" ∷ "ei_text" ∷ []

named : map interface_name numbers ≡ map ascii names
unfolding numbers names interface_name
named = refl

offered : map server_version numbers ≡ 1 ∷ 1 ∷ 1 ∷ 2 ∷ 3 ∷ 1 ∷ 1 ∷ 1 ∷ 1 ∷ 1 ∷ 2 ∷ 1 ∷ []
unfolding numbers server_version
offered = refl

counted : length interfaces ≡ interface_count
unfolding interfaces
counted = refl

found : map lookup (map ascii ("ei_scroll" ∷ "ei_scrol" ∷ "ei_scroll_" ∷ "ei_handshake" ∷ [])) ≡ some 8 ∷ none ∷ none ∷ none ∷ []
unfolding lookup ascii
found = refl

bits : bits_of (2 ^ 63 + 37) ≡ 0 ∷ 2 ∷ 5 ∷ 63 ∷ []
unfolding bits_of
bits = refl

low : (lowest_bit 36 ≡ 2) × ((without_lowest 36 ≡ 32) × (bits_below 37 5 ≡ 2))
unfolding without_lowest bits_below
low = (refl, (refl, refl))

parts : (contains 37 36 ≡ true) × ((contains 37 38 ≡ false) × (common 37 38 ≡ 36))
unfolding contains common
parts = (refl, (refl, refl))
