-- Signed amounts of 32 bits. A local holds a signed number's bits, so the code's numbers are met as `held`. Assumes nothing.
use Prim.Native.Nat.{ℕ, zero, suc, ◌-◌, ◌<◌, ◌≤◌, ◌%◌, ◌^◌}
use mathlib.Core.Path.{◌≡◌, refl, sym, ap, ◌∙◌, subst⁻¹}
use mathlib.Core.Bool.{true, false}
use native.Mathlib.Omega.{arith}
use borrow.Author.Tests.{ltb-true, le-ltb}
use lib.Dec.{T}
use lib.IntN.{ℤ, pos, negsuc, ◌-ℤ◌, nat_abs}
use lib.Signed.{lt_z, non_neg}
use mir.Facts.{to_z-of_z, to_z_pos, to_z-neg}
use mir.Syntax.{w32, w64}
use mir.Val.{SFits, Fits, to_z, of_z}
use Rattle.requests.specs.Row.{amount_of}

-- the number of z's bits
abbrev pub held : ℤ → ℤ
held z = to_z w32 (of_z w32 z)

pub held_is : (z : ℤ) → SFits w32 z → held z ≡ z
held_is z f = to_z-of_z f

-- minus 1 less z, which turns the sign over
abbrev turned : ℤ → ℤ
turned z = negsuc 0 -ℤ z

turned_negsuc : (k : ℕ) → turned (negsuc k) ≡ pos k
turned_negsuc k = rw (le-ltb (suc k) 1 (omega arith)) (ap pos (omega arith))

turned_pos : (k : ℕ) → turned (pos k) ≡ negsuc k
turned_pos zero = refl
turned_pos (suc k) = ap negsuc (omega arith)

-- the amounts of both halves of the bits
amount_pos : (k : ℕ) → k < 2147483648 → amount_of k ≡ pos k
unfolding amount_of
amount_pos k h = let e : k % 4294967296 ≡ k = omega arith in rw e (to_z_pos w32 h)

amount_negsuc : (k : ℕ) → k < 2147483648 → amount_of (4294967295 - k) ≡ negsuc k
unfolding amount_of
amount_negsuc k h = let e : (4294967295 - k) % 4294967296 ≡ 2 ^ 32 - suc k = omega arith in rw e (to_z-neg w32 k h)

-- a number of 32 bits by its sign
record Negative (x : ℤ) : Type 0 where
  k : ℕ
  is : x ≡ negsuc k
  small : k < 2147483648

record Natural (x : ℤ) : Type 0 where
  k : ℕ
  is : x ≡ pos k
  small : k < 2147483648

negative : (x : ℤ) → SFits w32 x → lt_z x (pos 0) ≡ true → Negative x
negative (pos k) f h = absurd (omega (arith, ltb-true k 0 h))
negative (negsuc k) f h = record { k = k; is = refl; small = f.sfits }

natural : (x : ℤ) → SFits w32 x → lt_z x (pos 0) ≡ false → Natural x
natural (pos k) f h = record { k = k; is = refl; small = f.sfits }
natural (negsuc k) f h = let z : true ≡ false = h in let w : ◌≡◌ {A = ℕ} 0 1 = cc in absurd (omega arith)

-- what the bits of a negative x ask
module _ (x : ℤ) (f : SFits w32 x) (h : lt_z (held x) (pos 0) ≡ true) where
  n : Negative x
  n = negative x f (ap (λ (z : ℤ). lt_z z (pos 0)) (sym (to_z-of_z f)) ∙ h)

  turned_is : turned (held x) ≡ pos n.k
  turned_is = ap turned (to_z-of_z f ∙ n.is) ∙ turned_negsuc n.k

  pub turned-fits : SFits w32 (turned (held x))
  turned-fits = subst⁻¹ (λ (z : ℤ). SFits w32 z) turned_is (record { sfits = n.small })

  turned-held : held (turned (held x)) ≡ pos n.k
  turned-held = ap held turned_is ∙ to_z_pos w32 n.small

  pub turned_cast : T (non_neg (held (turned (held x)))) × Fits w64 (nat_abs (held (turned (held x))))
  turned_cast = subst⁻¹ (λ (z : ℤ). T (non_neg z) × Fits w64 (nat_abs z)) turned-held (tt, record { fits = omega (arith, n.small) })

  pub turned-small : nat_abs (held (turned (held x))) < 2147483648
  turned-small = subst⁻¹ (λ (z : ℤ). nat_abs z < 2147483648) turned-held n.small

  pub negative_bits : amount_of (4294967295 - nat_abs (held (turned (held x)))) ≡ x
  negative_bits = ap (λ (z : ℤ). amount_of (4294967295 - nat_abs z)) turned-held ∙ amount_negsuc n.k n.small ∙ sym n.is

-- and of one that is not
module _ (x : ℤ) (f : SFits w32 x) (h : lt_z (held x) (pos 0) ≡ false) where
  m : Natural x
  m = natural x f (ap (λ (z : ℤ). lt_z z (pos 0)) (sym (to_z-of_z f)) ∙ h)

  held_pos : held x ≡ pos m.k
  held_pos = to_z-of_z f ∙ m.is

  pub natural_cast : T (non_neg (held x)) × Fits w64 (nat_abs (held x))
  natural_cast = subst⁻¹ (λ (z : ℤ). T (non_neg z) × Fits w64 (nat_abs z)) held_pos (tt, record { fits = omega (arith, m.small) })

  pub natural_bits : amount_of (nat_abs (held x)) ≡ x
  natural_bits = ap (λ (z : ℤ). amount_of (nat_abs z)) held_pos ∙ amount_pos m.k m.small ∙ sym m.is

-- what the amount of bits in the upper half asks
module _ (n : ℕ) (h : 2147483648 ≤ n % 4294967296) where
  upper : turned (to_z w32 (4294967295 - n % 4294967296)) ≡ negsuc (4294967295 - n % 4294967296)
  upper = ap turned (to_z_pos w32 {n = 4294967295 - n % 4294967296} (omega arith)) ∙ turned_pos (4294967295 - n % 4294967296)

  pub upper_fits : SFits w32 (turned (to_z w32 (4294967295 - n % 4294967296)))
  upper_fits = subst⁻¹ (λ (z : ℤ). SFits w32 z) upper (record { sfits = omega arith })

  pub upper_is : held (turned (to_z w32 (4294967295 - n % 4294967296))) ≡ amount_of n
  unfolding amount_of
  upper_is =
      let e : 2 ^ 32 - suc (4294967295 - n % 4294967296) ≡ n % 4294967296 = omega arith in
      ap held upper ∙ ap (to_z w32) e
