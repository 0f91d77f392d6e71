-- How the test goes along a text: what is left to it behind each octet. Assumes nothing.
use Prim.Native.Nat.{ℕ, zero, suc, ◌+◌, ◌-◌, ◌<◌, ◌≤◌}
use mathlib.Core.Path.{◌≡◌, refl, sym, ◌∙◌}
use mathlib.Core.Bool.{Bool, true, false, ◌&&◌, not}
use mathlib.Core.List.{List, [], ◌∷◌}
use mathlib.Core.Option.{none, some}
use mathlib.Core.Logic.{dite}
use native.Mathlib.Omega.{arith}
use native.Mathlib.Decide.{dec_lt}
use native.Mathlib.Nat.{le_refl}
use native.Mathlib.Numerals.{add-one}
use borrow.Author.Tests.{not-true, not-false}
use lib.Bits.{bit_or, and_le_l, and_le_r, or_add_and}
use lib.ListN.{length, get_or, drop, replicate, drop_of_length-le}
use lib.Seq.{drop-cons, drop-drop}
use Rattle.utf8.specs.Rfc3629.{Range, utf8_tail, utf8_char, after, goes_on, is_utf8}
use Rattle.utf8.specs.Lead.{begins}
use Rattle.utf8.proofs.Rules.{never, decides, decided}

module _ (t : List ℕ) (i : ℕ) (h : i < length t) (v : is_utf8 t ≡ is_utf8 (drop i t)) where
  -- a first octet
  pub first : (rs : List Range) → some rs ≡ after utf8_char (get_or t i 0) → is_utf8 t ≡ goes_on rs (drop (i + 1) t)
  unfolding is_utf8
  first rs e = v ∙ rw (add-one, drop-cons t i 0, ← e)

  -- an octet that no character begins with
  pub none_first : none ≡ after utf8_char (get_or t i 0) → false ≡ is_utf8 t
  unfolding is_utf8
  none_first e = sym (v ∙ rw (drop-cons t i 0, ← e))

-- the next octet, where the text has one
next_of : (r : Range) (rs : List Range) (l : List ℕ) → goes_on (r ∷ rs) l ≡ begins r l && goes_on rs (drop 1 l)
unfolding goes_on begins
next_of r rs [] = refl
next_of r rs (x ∷ l) = refl

-- the same, from the code's test for an octet: `found` says whether there is one
module _ (t : List ℕ) (i : ℕ) (r : Range) (found : Bool) (b : found ≡ begins r (drop i t)) where
  pub there : not found ≡ false → i < length t
  unfolding begins
  there f = dite (dec_lt i (length t)) (λ h. h) past
    where
      past : (i < length t → ⊥) → i < length t
      past n = let h : length t ≤ i = omega arith in never (sym (sym (not-false found f) ∙ b ∙ rw drop_of_length-le))

  module _ (rs : List Range) (v : is_utf8 t ≡ goes_on (r ∷ rs) (drop i t)) where
    pub next : not found ≡ false → is_utf8 t ≡ goes_on rs (drop (i + 1) t)
    next f = let e = sym (not-false found f) ∙ b in v ∙ rw (next_of, ← e, drop-drop)

    pub none-next : not found ≡ true → false ≡ is_utf8 t
    none-next f = let e = sym (not-true found f) ∙ b in sym (v ∙ rw (next_of, ← e))

-- the octets that are left
pub tails-left : (n : ℕ) → 0 < n → replicate n utf8_tail ≡ utf8_tail ∷ replicate (n - 1) utf8_tail
tails-left zero h = absurd (omega (arith, h))
tails-left (suc n) h = let e : suc n - 1 ≡ n = omega arith in rw e

-- the end of the text
pub at_end : (t : List ℕ) (i : ℕ) → length t ≤ i → is_utf8 (drop i t) ≡ true
unfolding is_utf8
at_end t i h = rw drop_of_length-le

-- octets that are ASCII, from i on
pub ascii_run : (t : List ℕ) (i n : ℕ) → i + n ≤ length t → ((k : ℕ) → k < n → get_or t (i + k) 0 < 128) → is_utf8 t ≡ is_utf8 (drop i t) → is_utf8 t ≡ is_utf8 (drop (i + n) t)
unfolding is_utf8 decides
ascii_run t i zero h a v = let e : i + 0 ≡ i = omega arith in rw e v
ascii_run t i (suc n) h a v =
    let b = a n (omega arith) in
    let e : i + suc n ≡ i + n + 1 = omega arith in
    let f = decided 0 127 (get_or t (i + n) 0) (omega arith) (omega arith) (some []) utf8_char refl in
    rw e (first t (i + n) (omega arith) (ascii_run t i n (omega arith) (λ k l. a k (omega arith)) v) [] (sym f))

or_left : (a b : ℕ) → a ≤ bit_or a b
or_left a b =
    let e = or_add_and a b in
    let l = and_le_r a b in
    omega arith

or_right : (a b : ℕ) → b ≤ bit_or a b
or_right a b =
    let e = or_add_and a b in
    let l = and_le_l a b in
    omega arith

-- the octet at i and n more, in one
abbrev pub ors : List ℕ → ℕ → ℕ → ℕ
ors t i zero = get_or t i 0
ors t i (suc n) = bit_or (ors t i n) (get_or t (i + suc n) 0)

-- none of them is more than that
pub within-ors : (t : List ℕ) (i n k : ℕ) → k < suc n → get_or t (i + k) 0 ≤ ors t i n
within-ors t i zero k h = let e : i + k ≡ i = omega arith in rw e (le_refl (get_or t i 0))
within-ors t i (suc n) k h = dite (dec_lt k (suc n)) (λ l. before (within-ors t i n k l)) last
  where
    before : get_or t (i + k) 0 ≤ ors t i n → get_or t (i + k) 0 ≤ ors t i (suc n)
    before a = let b = or_left (ors t i n) (get_or t (i + suc n) 0) in omega arith

    last : (k < suc n → ⊥) → get_or t (i + k) 0 ≤ ors t i (suc n)
    last l = let e : k ≡ suc n = omega arith in rw e (or_right (ors t i n) (get_or t (i + suc n) 0))
