-- Ids that are left, and that are not. Assumes nothing.
use Prim.Native.Nat.{ℕ, ◌+◌, ◌^◌, ◌≤◌, ◌<◌}
use mathlib.Core.Path.{◌≡◌, refl, ap}
use mathlib.Core.Bool.{Bool, true, false, cond}
use native.Mathlib.Omega.{arith}
use borrow.Author.Tests.{ltb-true, ltb-false, lt-ltb, le-ltb}
use lib.Dec.{ltb}
use Rattle.wire.specs.Ids.{new_objects}
use Rattle.std.specs.Option.{SomeIff}
use Rattle.std.specs.Prelude.{Option, Some, None}

module _ (next count : ℕ) where
  pub ids-left : {n : ℕ} → new_objects next count ≡ Some n → next + count ≤ 0xffff_ffff_ffff_ffff
  unfolding new_objects
  ids-left {n} e = go (ltb 0xffff_ffff_ffff_ffff (next + count)) refl e
    where
      go : (t : Bool) → ltb 0xffff_ffff_ffff_ffff (next + count) ≡ t → cond t None (Some (next + count)) ≡ Some n
          → next + count ≤ 0xffff_ffff_ffff_ffff
      go true l e = absurd (let z : ◌≡◌ {A = ℕ} 0 1 = cc in omega arith)
      go false l e = ltb-false 0xffff_ffff_ffff_ffff (next + count) l

  pub ids_spent_lem : new_objects next count ≡ None → 0xffff_ffff_ffff_ffff < next + count
  unfolding new_objects
  ids_spent_lem e = go (ltb 0xffff_ffff_ffff_ffff (next + count)) refl e
    where
      go : (t : Bool) → ltb 0xffff_ffff_ffff_ffff (next + count) ≡ t → cond t None (Some (next + count)) ≡ None
          → 0xffff_ffff_ffff_ffff < next + count
      go true l e = ltb-true 0xffff_ffff_ffff_ffff (next + count) l
      go false l e = absurd (let z : ◌≡◌ {A = ℕ} 0 1 = cc in omega arith)

  -- the sum where it stays within 64 bits, and none else
  pub ids_checked : {r : Option ℕ} → SomeIff r (next + count < 2 ^ 64) (next + count) → r ≡ new_objects next count
  unfolding new_objects
  ids_checked {r = None} h = simp (lt-ltb 0xffff_ffff_ffff_ffff (next + count) (omega (arith, h)))
  ids_checked {r = Some n} h = simp (le-ltb 0xffff_ffff_ffff_ffff (next + count) (omega (arith, h.0))) (ap Some h.1)
