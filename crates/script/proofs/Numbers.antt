-- Numbers read digit by digit. Assumes nothing.
use Prim.Native.Nat.{ℕ, ◌+◌, ◌*◌, ◌^◌, ◌≤◌, ◌<◌}
use mathlib.Core.Path.{◌≡◌, refl, sym, ap, ◌∙◌}
use mathlib.Core.Bool.{Bool, true, false, cond}
use mathlib.Core.List.{List, [], ◌∷◌}
use mathlib.Core.Option.{none, some}
use native.Mathlib.Nat.{mul-le-mul_left, mul-one}
use native.Mathlib.Omega.{arith}
use native.Mathlib.Numerals.{add-one}
use borrow.Author.Tests.{lt-ltb, le-ltb}
use lib.Dec.{ltb}
use lib.ListN.{length, get_or, drop, drop_of_length-le}
use lib.Seq.{drop-cons}
use Rattle.eiproto.specs.Interface.{ascii}
use Rattle.script.specs.Words.{starts_with}
use Rattle.script.specs.Number.{digit, digits_from, digits, number, that, fits64}

-- ---- decimal or hexadecimal

module _ (w : List ℕ) where
  pub hexadecimal : starts_with (ascii "0x") w ≡ true → that fits64 (digits 16 (drop 2 w)) ≡ that fits64 (number w)
  unfolding number
  hexadecimal e = rw e

  pub decimal : starts_with (ascii "0x") w ≡ false → that fits64 (digits 10 w) ≡ that fits64 (number w)
  unfolding number
  decimal e = rw e

-- ---- digit by digit

-- a number that is too large stays so, whatever digits follow
too_large : (base v : ℕ) (l : List ℕ) → 1 ≤ base → 2 ^ 64 ≤ v → none ≡ that fits64 (digits_from base v l)
unfolding digits_from
too_large base v [] b h = rw (le-ltb v (2 ^ 64) h)
too_large base v (c ∷ l) b h =
    go (ltb (digit c) base)
    (too_large base (v * base + digit c) l b (let m = mul-le-mul_left v b in omega (arith, m, mul-one v)))
  where
    go : (t : Bool) → none ≡ that fits64 (digits_from base (v * base + digit c) l)
        → none ≡ that fits64 (cond t (digits_from base (v * base + digit c) l) none)
    go true e = e
    go false e = refl

module _ (w : List ℕ) (base : ℕ) where
  pub digits-none : length w ≡ 0 → none ≡ that fits64 (digits base w)
  unfolding digits
  digits-none h = go w h
    where
      go : (w : List ℕ) → length w ≡ 0 → none ≡ that fits64 (digits base w)
      go [] h = refl
      go (c ∷ l) h = absurd (omega arith)

  pub digits-start : (length w ≡ 0 → ⊥) → digits base w ≡ digits_from base 0 w
  unfolding digits
  digits-start h = go w h
    where
      go : (w : List ℕ) → (length w ≡ 0 → ⊥) → digits base w ≡ digits_from base 0 w
      go [] h = absurd (h refl)
      go (c ∷ l) h = refl

  module _ (n i : ℕ) (inv : digits base w ≡ digits_from base n (drop i w)) where
    pub digits-end : length w ≤ i → n < 2 ^ 64 → some n ≡ that fits64 (digits base w)
    unfolding digits_from
    digits-end h k = sym (rw (inv, drop_of_length-le w h, lt-ltb n (2 ^ 64) k))

    module _ (h : i < length w) where
      pub digits-stop : base ≤ digit (get_or w i 0) → none ≡ that fits64 (digits base w)
      unfolding digits_from
      digits-stop k = sym (rw (inv, drop-cons w i 0 h, le-ltb (digit (get_or w i 0)) base k))

      pub digits_step : digit (get_or w i 0) < base
          → digits base w ≡ digits_from base (n * base + digit (get_or w i 0)) (drop (i + 1) w)
      unfolding digits_from
      digits_step k = inv ∙ rw (drop-cons w i 0 h, lt-ltb (digit (get_or w i 0)) base k, add-one)

      pub digits-over : 1 ≤ base → digit (get_or w i 0) < base → 2 ^ 64 ≤ n * base + digit (get_or w i 0)
          → none ≡ that fits64 (digits base w)
      digits-over b k o =
          too_large base (n * base + digit (get_or w i 0)) (drop (i + 1) w) b o ∙ ap (that fits64) (sym (digits_step k))
