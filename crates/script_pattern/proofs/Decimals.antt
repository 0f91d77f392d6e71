-- Decimal digits, made from the last to the first in a list of their number. Assumes nothing.
use Prim.Native.Nat.{ℕ, suc, ◌+◌, ◌/◌, ◌%◌, ◌≤◌}
use mathlib.Core.Path.{◌≡◌, refl, sym, ap, ◌∙◌}
use mathlib.Core.Bool.{cond}
use mathlib.Core.List.{List, [], ◌∷◌, ◌++◌, append_assoc, append-nil}
use native.Mathlib.Omega.{arith}
use lib.Dec.{eqb}
use lib.ListN.{length, drop, set, length-set, drop_of_length-le}
use lib.Seq.{drop-cons, get_or-set_same, drop-set-lt}
use Rattle.script_pattern.specs.Digits.{decimal_in, decimal}

-- no digit is made yet
pub decimal-start : (n : ℕ) (digits : List ℕ) → length digits ≡ 20 → decimal n ≡ decimal_in 20 n ++ drop 20 digits
unfolding decimal
decimal-start n digits h = rw (drop_of_length-le digits {i = 20} (omega arith), append-nil)

module _ (w digits : List ℕ) (v i j : ℕ) (e : i ≡ j + 1) (h : i ≤ length digits) (made : w ≡ decimal_in i v ++ drop i digits) where
  kept : (d : ℕ) → drop j (set digits j d) ≡ d ∷ drop i digits
  kept d =
      let s : i ≡ suc j = omega arith in
      let n = length-set digits j d in
      rw (drop-cons (set digits j d) j 0 (omega arith), get_or-set_same digits j d 0 (omega arith), ← s, drop-set-lt i digits j d (omega arith))

  -- one more, and what is left of the number
  pub decimal_on : w ≡ cond (eqb (v / 10) 0) [] (decimal_in j (v / 10)) ++ drop j (set digits j (0x30 + v % 10))
  unfolding decimal_in
  decimal_on =
      let s : i ≡ suc j = omega arith in
      made ∙ ap (λ (k : ℕ). decimal_in k v ++ drop i digits) s
      ∙ append_assoc (cond (eqb (v / 10) 0) [] (decimal_in j (v / 10))) ((0x30 + v % 10) ∷ []) (drop i digits)
      ∙ ap (λ (l : List ℕ). cond (eqb (v / 10) 0) [] (decimal_in j (v / 10)) ++ l) (sym (kept (0x30 + v % 10)))

pub decimal-end : (v : ℕ) (digits : List ℕ) → decimal_in 0 v ++ drop 0 digits ≡ digits
unfolding decimal_in
decimal-end v digits = refl
