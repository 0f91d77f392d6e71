-- Capabilities of devices: index, mask and interface (`DeviceCapability` of src/event.rs). Assumes nothing.
use Rattle.std.specs.Prelude.{ℕ, ◌^◌, Bool, List, [], ◌∷◌, leb, Option, Some, None}
use Rattle.eiproto.specs.Variant.{parse}
use Rattle.eiproto.specs.Interface.{ei_pointer, ei_pointer_absolute, ei_scroll, ei_button, ei_keyboard, ei_touchscreen, ei_text}
use Rattle.eiproto.specs.declared.event.DeviceCapability.{DeviceCapability}
use Rattle.eiproto.specs.declared.event.DeviceCapability.TheVariants.{Pointer, PointerAbsolute, Keyboard, Touch, Scroll, Button, Text}

-- in the order of their bits
abbrev pub capabilities : List DeviceCapability
capabilities = Pointer ∷ PointerAbsolute ∷ Keyboard ∷ Touch ∷ Scroll ∷ Button ∷ Text ∷ []

-- the place of its bit
abbrev pub capability_index : DeviceCapability → ℕ
capability_index Pointer = 0
capability_index PointerAbsolute = 1
capability_index Keyboard = 2
capability_index Touch = 3
capability_index Scroll = 4
capability_index Button = 5
capability_index Text = 6

-- the mask of its bit alone: `Pointer = 1 << 0`, `PointerAbsolute = 1 << 1`, and so on
abbrev pub capability_mask : DeviceCapability → ℕ
capability_mask Pointer = 2 ^ 0
capability_mask PointerAbsolute = 2 ^ 1
capability_mask Keyboard = 2 ^ 2
capability_mask Touch = 2 ^ 3
capability_mask Scroll = 2 ^ 4
capability_mask Button = 2 ^ 5
capability_mask Text = 2 ^ 6

-- the interface that `interface_name` gives
abbrev pub capability_interface : DeviceCapability → ℕ
capability_interface Pointer = ei_pointer
capability_interface PointerAbsolute = ei_pointer_absolute
capability_interface Keyboard = ei_keyboard
capability_interface Touch = ei_touchscreen
capability_interface Scroll = ei_scroll
capability_interface Button = ei_button
capability_interface Text = ei_text

-- the capability of which `number` is n, or that there is none
abbrev pub capability_by : (DeviceCapability → ℕ) → ℕ → Option DeviceCapability
capability_by number n = parse number Some None capabilities n

-- the interface of what was found; 0 where nothing was
abbrev pub interface_told : Option DeviceCapability → ℕ
interface_told (Some c) = capability_interface c
interface_told None = 0

-- the interface of the capability at a bit; 0 where the bit is no capability's
unfoldable pub interface_of_bit : ℕ → ℕ
interface_of_bit b = interface_told (capability_by capability_index b)

-- "a bit above bit 6" is set: it is no capability's
abbrev pub unknown_bits : ℕ → Bool
unknown_bits m = leb (2 ^ 7) m
