-- Capabilities by index, mask and interface. Assumes nothing.
use Prim.Native.Nat.{ℕ, ◌^◌}
use mathlib.Core.Path.{◌≡◌, refl, sym, ap, ◌∙◌}
use mathlib.Core.List.{[], ◌∷◌, map}
use Rattle.std.specs.Prelude.{Option, Some, None}
use Rattle.eiproto.proofs.Variant.{parsed}
use Rattle.eiproto.specs.Capability.{capabilities, capability_index, capability_mask, capability_interface, capability_by, interface_of_bit}
use Rattle.eiproto.specs.declared.event.DeviceCapability.{DeviceCapability}
use Rattle.eiproto.specs.declared.event.DeviceCapability.TheVariants.{Pointer, PointerAbsolute, Keyboard, Touch, Scroll, Button, Text}

-- each of its three numbers is read as the capability again, and its mask has its bit alone
pub record Numbered (c : DeviceCapability) : Type 0 where
  pub index : capability_by capability_index (capability_index c) ≡ Some c
  pub mask : capability_by capability_mask (capability_mask c) ≡ Some c
  pub interface : capability_by capability_interface (capability_interface c) ≡ Some c
  pub power : capability_mask c ≡ 2 ^ capability_index c

pub numbered : (c : DeviceCapability) → Numbered c
numbered Pointer = record { index = refl; mask = refl; interface = refl; power = refl }
numbered PointerAbsolute = record { index = refl; mask = refl; interface = refl; power = refl }
numbered Keyboard = record { index = refl; mask = refl; interface = refl; power = refl }
numbered Touch = record { index = refl; mask = refl; interface = refl; power = refl }
numbered Scroll = record { index = refl; mask = refl; interface = refl; power = refl }
numbered Button = record { index = refl; mask = refl; interface = refl; power = refl }
numbered Text = record { index = refl; mask = refl; interface = refl; power = refl }

-- a number that is read as a capability is the capability's
pub capability-number_of : (number : DeviceCapability → ℕ) (n : ℕ) (c : DeviceCapability)
    → capability_by number n ≡ Some c → n ≡ number c
capability-number_of number n c e =
    sym (parsed number Some None n told (λ x. refl) refl capabilities) ∙ ap told e
  where
    told : Option DeviceCapability → ℕ
    told (Some x) = number x
    told None = n

-- the interfaces by bit
pub by_bit : map interface_of_bit (0 ∷ 1 ∷ 2 ∷ 3 ∷ 4 ∷ 5 ∷ 6 ∷ 7 ∷ []) ≡ 6 ∷ 7 ∷ 10 ∷ 11 ∷ 8 ∷ 9 ∷ 12 ∷ 0 ∷ []
unfolding interface_of_bit
by_bit = refl
