-- Words read as numbers of a kind. Assumes nothing.
use Prim.Native.Nat.{ℕ, zero, suc, ◌+◌, ◌-◌, ◌^◌, ◌≤◌, ◌<◌}
use mathlib.Core.Path.{◌≡◌, refl, sym, ap, ap₂, ◌∙◌}
use mathlib.Core.Logic.{◌⊎◌, inl, inr}
use mathlib.Core.Bool.{Bool, true, false, cond, ◌&&◌, false≢true}
use mathlib.Core.List.{List, [], ◌∷◌}
use mathlib.Core.Option.{Option, none, some, map}
use native.Mathlib.Omega.{arith}
use borrow.Author.Tests.{ltb-true, ltb-false, le-leb, lt-leb, leb-true, ne_eqb}
use lib.Dec.{leb, ltb}
use lib.Ieee.{nan, of_bits, binary32}
use lib.IntN.{pos, neg_ℤ}
use lib.ListN.{length, take, drop, drop_of_length-le}
use Rattle.script.specs.declared.verb.Kind.{Kind}
use Rattle.eiproto.specs.Interface.{ascii, same_bytes}
use Rattle.script.specs.Words.{starts_with, before}
use Rattle.script.specs.Number.{digits, number, that, within, fits64}
use Rattle.script.specs.Script.{Arg, signed, float, no_text, text_part, one_of_seven, signed_of, float_of, text_of, both_of, part_of, read_as}
use Rattle.script.specs.Told.{one}
use Rattle.script.proofs.Words.{take-before, rest}

-- ---- tests on numbers

module _ (least most n : ℕ) where
  pub within_yes : least ≤ n → n ≤ most → within least most n ≡ true
  within_yes a b = rw (le-leb least n a, le-leb n most b)

  pub within_low : n < least → within least most n ≡ false
  within_low a = rw (lt-leb least n a)

  pub within_high : most < n → within least most n ≡ false
  within_high a = go (leb least n)
    where
      go : (t : Bool) → (t && leb n most) ≡ false
      go true = lt-leb n most a
      go false = refl

-- a test passes only numbers of 64 bits
abbrev pub Small : (ℕ → Bool) → Type 0
Small f = (n : ℕ) → f n ≡ true → n < 2 ^ 64

pub small-within : (least most : ℕ) → most < 2 ^ 64 → Small (within least most)
small-within least most h n e = omega (arith, leb-true n most (last (leb least n) e))
  where
    last : (t : Bool) → (t && leb n most) ≡ true → leb n most ≡ true
    last true e = e
    last false e = absurd (false≢true e)

pub small64 : Small fits64
small64 n e = go (ltb n (2 ^ 64)) refl e
  where
    go : (t : Bool) → ltb n (2 ^ 64) ≡ t → t ≡ true → n < 2 ^ 64
    go true q e = ltb-true n (2 ^ 64) q
    go false q e = absurd (false≢true e)

-- ---- what the number of 64 bits, or that there is none, says of a number that passes a test

module _ (g : ℕ → Arg) (f : ℕ → Bool) (s : Small f) (o : Option ℕ) where
  pub given-none : none ≡ that fits64 o → none ≡ one (map g (that f o))
  given-none = go o
    where
      test : (m : ℕ) (t u : Bool) → ltb m (2 ^ 64) ≡ t → f m ≡ u → none ≡ cond t (some m) none → none ≡ one (map g (cond u (some m) none))
      test m true u p q e = absurd (let z : ◌≡◌ {A = ℕ} 0 1 = cc in omega arith)
      test m false true p q e = absurd (omega (arith, s m q, ltb-false m (2 ^ 64) p))
      test m false false p q e = refl

      go : (o : Option ℕ) → none ≡ that fits64 o → none ≡ one (map g (that f o))
      go none e = refl
      go (some m) e = test m (ltb m (2 ^ 64)) (f m) refl refl e

  module _ (n : ℕ) (e : some n ≡ that fits64 o) where
    is : o ≡ some n
    is = go o e
      where
        test : (m : ℕ) (t : Bool) → some n ≡ cond t (some m) none → some m ≡ some n
        test m true e = sym e
        test m false e = absurd (let z : ◌≡◌ {A = ℕ} 0 1 = cc in omega arith)

        go : (o : Option ℕ) → some n ≡ that fits64 o → o ≡ some n
        go none e = absurd (let z : ◌≡◌ {A = ℕ} 0 1 = cc in omega arith)
        go (some m) e = test m (ltb m (2 ^ 64)) e

    pub given-some : f n ≡ true → some (g n ∷ []) ≡ one (map g (that f o))
    given-some t = sym (rw (is, t))

    pub given-not : f n ≡ false → none ≡ one (map g (that f o))
    given-not t = sym (rw (is, t))

-- ---- one of the seven bits

pub seven_low : (n : ℕ) → n < 1 → one_of_seven n ≡ false
seven_low zero h = refl
seven_low (suc n) h = absurd (omega arith)

pub seven_two : (n : ℕ) → 1 ≤ n → n ≤ 2 → one_of_seven n ≡ true
seven_two zero h k = absurd (omega arith)
seven_two (suc zero) h k = refl
seven_two (suc (suc zero)) h k = refl
seven_two (suc (suc (suc n))) h k = absurd (omega arith)

abbrev pub Others : ℕ → Type 0
Others n = (n ≡ 4) ⊎ ((n ≡ 8) ⊎ ((n ≡ 16) ⊎ ((n ≡ 32) ⊎ (n ≡ 64))))

pub seven_others : (n : ℕ) → Others n → one_of_seven n ≡ true
seven_others n (inl e) = ap one_of_seven e
seven_others n (inr (inl e)) = ap one_of_seven e
seven_others n (inr (inr (inl e))) = ap one_of_seven e
seven_others n (inr (inr (inr (inl e)))) = ap one_of_seven e
seven_others n (inr (inr (inr (inr e)))) = ap one_of_seven e

pub seven_not : (n : ℕ) → 2 < n → (Others n → ⊥) → one_of_seven n ≡ false
seven_not n h k =
    rw (
      ne_eqb n 1 (λ e. omega arith),
      ne_eqb n 2 (λ e. omega arith),
      ne_eqb n 4 (λ e. k (inl e)),
      ne_eqb n 8 (λ e. k (inr (inl e))),
      ne_eqb n 16 (λ e. k (inr (inr (inl e)))),
      ne_eqb n 32 (λ e. k (inr (inr (inr (inl e))))),
      ne_eqb n 64 (λ e. k (inr (inr (inr (inr e))))),
    )

pub small_seven : Small one_of_seven
small_seven n e = go (ltb n (2 ^ 64)) refl
  where
    go : (t : Bool) → ltb n (2 ^ 64) ≡ t → n < 2 ^ 64
    go true q = ltb-true n (2 ^ 64) q
    go false q =
        let h = ltb-false n (2 ^ 64) q in
        absurd (false≢true (sym (seven_not n (omega arith) (λ o. large n h o)) ∙ e))
      where
        large : (n : ℕ) → 2 ^ 64 ≤ n → Others n → ⊥
        large n h (inl e) = omega arith
        large n h (inr (inl e)) = omega arith
        large n h (inr (inr (inl e))) = omega arith
        large n h (inr (inr (inr (inl e)))) = omega arith
        large n h (inr (inr (inr (inr e)))) = omega arith

-- ---- signed numbers and floats

module _ (w : List ℕ) where
  pub minus_sign : starts_with (ascii "-") w ≡ true
      → one (map (λ n. signed (neg_ℤ (pos n))) (that (within 0 (2 ^ 31)) (digits 10 (drop 1 w)))) ≡ one (signed_of w)
  unfolding signed_of
  minus_sign e = rw e

  pub no_sign : starts_with (ascii "-") w ≡ false
      → one (map (λ n. signed (pos n)) (that (within 0 (2 ^ 31 - 1)) (number w))) ≡ one (signed_of w)
  unfolding signed_of
  no_sign e = rw e

  pub is_nan_lem : same_bytes w (ascii "nan") ≡ true → some (float nan ∷ []) ≡ one (float_of w)
  unfolding float_of
  is_nan_lem e = rw e

  module _ (n : same_bytes w (ascii "nan") ≡ false) where
    pub no_bits : starts_with (ascii "0x") w ≡ false → none ≡ one (float_of w)
    unfolding float_of
    no_bits e = rw (n, e)

    pub bits : starts_with (ascii "0x") w ≡ true
        → one (map (λ n. float (of_bits binary32 n)) (that (within 0 (2 ^ 32 - 1)) (number w))) ≡ one (float_of w)
    unfolding float_of
    bits e = rw (n, e)

  -- `none`, where a text may be missing
  pub is_none : same_bytes w (ascii "none") ≡ true → some (no_text ∷ []) ≡ one (read_as Kind.OptionalText w)
  unfolding read_as
  is_none e = rw e

  pub not_none : same_bytes w (ascii "none") ≡ false → one (text_of w) ≡ one (read_as Kind.OptionalText w)
  unfolding read_as
  not_none e = rw e

  pub as_kind : (k k' : Kind) → k ≡ k' → one (read_as k' w) ≡ one (read_as k w)
  as_kind k k' e = ap (λ (x : Kind). one (read_as x w)) (sym e)

-- ---- a part of a read's texts

module _ (w : List ℕ) where
  pub no_part : starts_with (ascii "p:") w ≡ false → none ≡ one (part_of w)
  unfolding part_of
  no_part e = rw e

  module _ (p : starts_with (ascii "p:") w ≡ true) (colon : ℕ) (e : colon ≡ 2 + length (before 0x3a (drop 2 w))) where
    start : that fits64 (number (take (colon - 2) (drop 2 w))) ≡ that fits64 (number (before 0x3a (drop 2 w)))
    start =
        let z : colon - 2 ≡ length (before 0x3a (drop 2 w)) = omega arith in
        ap (λ (n : ℕ). that fits64 (number (take n (drop 2 w)))) z ∙ ap (λ (l : List ℕ). that fits64 (number l)) (take-before 0x3a (drop 2 w))

    behind : that fits64 (number (drop (colon + 1) w)) ≡ that fits64 (number (drop (3 + length (before 0x3a (drop 2 w))) w))
    behind = let z : colon + 1 ≡ 3 + length (before 0x3a (drop 2 w)) = omega arith in ap (λ (n : ℕ). that fits64 (number (drop n w))) z

    is_part : one (both_of (that fits64 (number (take (colon - 2) (drop 2 w)))) (that fits64 (number (drop (colon + 1) w)))) ≡ one (part_of w)
    unfolding part_of
    is_part = rw (p, start, behind)

    bad-length : (o : Option ℕ) → none ≡ one (both_of o none)
    bad-length none = refl
    bad-length (some n) = refl

    pub part_open : length w ≤ colon → none ≡ one (part_of w)
    unfolding number digits starts_with ascii
    part_open h =
        let z : length w ≤ colon + 1 = omega arith in
        bad-length (that fits64 (number (take (colon - 2) (drop 2 w))))
        ∙ ap (λ (l : List ℕ). one (both_of (that fits64 (number (take (colon - 2) (drop 2 w)))) (that fits64 (number l)))) (sym (drop_of_length-le w z))
        ∙ is_part

    pub part-start : none ≡ that fits64 (number (take (colon - 2) (drop 2 w))) → none ≡ one (part_of w)
    part-start f = ap (λ (o : Option ℕ). one (both_of o (that fits64 (number (drop (colon + 1) w))))) f ∙ is_part

    pub part_length : none ≡ that fits64 (number (take (length w - (colon + 1)) (drop (colon + 1) w))) → none ≡ one (part_of w)
    part_length f =
        bad-length (that fits64 (number (take (colon - 2) (drop 2 w))))
        ∙ ap (λ (o : Option ℕ). one (both_of (that fits64 (number (take (colon - 2) (drop 2 w)))) o)) (rw (rest (colon + 1) w) at f) ∙ is_part

    pub part-given : (m n : ℕ) → some m ≡ that fits64 (number (take (colon - 2) (drop 2 w))) → some n ≡ that fits64 (number (take (length w - (colon + 1)) (drop (colon + 1) w)))
        → some (text_part m n ∷ []) ≡ one (part_of w)
    part-given m n f g = ap₂ (λ (o o' : Option ℕ). one (both_of o o')) f (rw (rest (colon + 1) w) at g) ∙ is_part
