-- The set bits of a mask: how many, the lowest, those of a part, and those that two masks share. Assumes nothing.
use Prim.Native.Nat.{ℕ, zero, suc, ◌+◌, ◌-◌, ◌*◌, ◌/◌, ◌%◌, ◌^◌, ◌≤◌, ◌<◌, min}
use mathlib.Core.Path.{◌≡◌, refl, ap, ap₂, sym, ◌∙◌}
use mathlib.Core.Bool.{Bool, true, false, cond, ◌&&◌, false≢true}
use mathlib.Core.List.{List, [], ◌∷◌, ◌++◌}
use native.Mathlib.Nat.{add-zero, mul_assoc, pow-succ', mod-le, mod-eq_of_lt, div-eq_of_lt}
use mathlib.Core.Logic.{dite}
use native.Mathlib.Decide.{dec_lt}
use native.Mathlib.Omega.{arith}
use borrow.Author.Tests.{eqb-true, eqb-false, eq-eqb, ne_eqb, lt-ltb}
use lib.Bits.{bit_and, and_step, and_shr, and_le_l, and_self}
use lib.Count.{count_trailing_zeros, under, ones, ones_step, trailing_of_zero}
use lib.Dec.{eqb, ltb}
use lib.ListN.{length, get_or}
use lib.Pow.{pow_pos, pow_mono, shl_exact, shr-shr, field, mod-mod-pow}
use Rattle.eiproto.specs.Bits.{bit, bits_from, bits_of, mask_from, lowest_bit, without_lowest, bits_below, every, contains, common_in, common}

-- ---- how many

length_from : (k p m : ℕ) → m < 2 ^ k → length (bits_from k p m) ≡ ones m
unfolding bits_from ones
length_from zero p m h = let z : 0 ≡ m = omega arith in ap ones z
length_from (suc k) p m h = go (m % 2) refl (λ x. length_from k (p + 1) (m / 2) x) ∙ sym (ones_step m)
  where
    go : (r : ℕ) → m % 2 ≡ r → (m / 2 < 2 ^ k → length (bits_from k (p + 1) (m / 2)) ≡ ones (m / 2))
        → length (cond (eqb r 1) (p ∷ []) [] ++ bits_from k (p + 1) (m / 2)) ≡ m % 2 + ones (m / 2)
    go zero e f = let z = pow-succ' 2 k in omega (arith, f (omega arith))
    go (suc zero) e f = let z = pow-succ' 2 k in omega (arith, f (omega arith))
    go (suc (suc r)) e f = absurd (omega arith)

pub bits-length : (m : ℕ) → m < 2 ^ 64 → length (bits_of m) ≡ ones m
unfolding bits_of
bits-length m h = length_from 64 0 m h

-- ---- the lowest

pub bits_none : bits_of 0 ≡ []
unfolding bits_of
bits_none = refl

even_bits : (k p m h : ℕ) → m % 2 ≡ 0 → m / 2 ≡ h → bits_from (suc k) p m ≡ bits_from k (p + 1) h
unfolding bits_from
even_bits k p m h a b = rw (a, b)

-- of a mask's k lowest bits, the first that is set is at p + t, and the others are those of the mask without it
abbrev First : (k p m t : ℕ) (bits : List ℕ) → Type 0
First k p m t bits = (t < k) × ((2 ^ t ≤ m) × (bits ≡ (p + t) ∷ bits_from k p (m - 2 ^ t)))

first_from : (k p m : ℕ) → 0 < m → m < 2 ^ k → First k p m (count_trailing_zeros k m) (bits_from k p m)
unfolding bits_from count_trailing_zeros
first_from zero p m a b = absurd (omega arith)
first_from (suc k) p m a b = go (m % 2) refl (λ x y. first_from k (p + 1) (m / 2) x y)
  where
    go : (r : ℕ) → m % 2 ≡ r → (0 < m / 2 → m / 2 < 2 ^ k → First k (p + 1) (m / 2) (count_trailing_zeros k (m / 2)) (bits_from k (p + 1) (m / 2)))
        → First (suc k) p m (under r (count_trailing_zeros k (m / 2))) (cond (eqb r 1) (p ∷ []) [] ++ bits_from k (p + 1) (m / 2))
    go zero e f =
        let z = pow-succ' 2 k in
        let t : ℕ = count_trailing_zeros k (m / 2) in
        let ih = f (omega arith) (omega arith) in
        let q = pow-succ' 2 t in
        let s : p + 1 + t ≡ p + suc t = omega arith in (
          omega (arith, ih.0),
          (
            omega (arith, ih.1.0),
            ih.1.1 ∙ ap₂ (λ (x : ℕ) (l : List ℕ). x ∷ l) s (sym (even_bits k p (m - 2 ^ suc t) (m / 2 - 2 ^ t) (omega arith) (omega arith))),
          ),
        )
    go (suc zero) e f = (
      omega arith,
      (omega arith, ap₂ (λ (x : ℕ) (l : List ℕ). x ∷ l) (sym (add-zero p)) (sym (even_bits k p (m - 1) (m / 2) (omega arith) (omega arith)))),
    )
    go (suc (suc r)) e f = absurd (omega arith)

pub lowest_is : (m : ℕ) → m < 2 ^ 64 → count_trailing_zeros 64 m ≡ lowest_bit m
unfolding lowest_bit
lowest_is zero h = trailing_of_zero 64
lowest_is (suc m) h =
    let f = first_from 64 0 (suc m) (omega arith) h in
    let z : count_trailing_zeros 64 (suc m) ≡ 0 + count_trailing_zeros 64 (suc m) = omega arith in
    z ∙ ap (λ (l : List ℕ). get_or l 0 64) (sym f.1.1)

-- the bits of a mask that is not 0: the lowest, then those of the mask without it
pub record Lowest (m : ℕ) : Type 0 where
  pub small : lowest_bit m < 64
  pub fits : 2 ^ lowest_bit m ≤ m
  pub less : without_lowest m < m
  pub bits : bits_of m ≡ lowest_bit m ∷ bits_of (without_lowest m)

pub without_is : (m : ℕ) → m - 2 ^ lowest_bit m ≡ without_lowest m
unfolding without_lowest
without_is m = refl

pub without-none : without_lowest 0 ≡ 0
unfolding without_lowest
without-none = refl

first_of : (m : ℕ) → 0 < m → m < 2 ^ 64 → First 64 0 m (count_trailing_zeros 64 m) (bits_of m)
unfolding bits_of
first_of m a h = first_from 64 0 m a h

rest_of : (t m : ℕ) → (0 + t) ∷ bits_from 64 0 m ≡ t ∷ bits_of m
unfolding bits_of
rest_of t m = let z : 0 + t ≡ t = omega arith in ap (λ (x : ℕ). x ∷ bits_from 64 0 m) z

pub lowest : (m : ℕ) → 0 < m → m < 2 ^ 64 → Lowest m
lowest m a h =
    let f : First 64 0 m (lowest_bit m) (bits_of m) = rw (lowest_is m h) at (first_of m a h) in
    record {
      small = f.0;
      fits = f.1.0;
      less = omega (arith, f.1.0, without_is m, pow_pos (lowest_bit m));
      bits = f.1.1 ∙ rest_of (lowest_bit m) (m - 2 ^ lowest_bit m) ∙ ap (λ (x : ℕ). lowest_bit m ∷ bits_of x) (without_is m);
    }

-- one by one: none is left at 0, else the lowest is first
pub bits_zero : (m : ℕ) → m ≡ 0 → bits_of m ≡ []
bits_zero m e = rw e bits_none

pub bits_next : (m b r : ℕ) → (m ≡ 0 → ⊥) → m < 2 ^ 64 → b ≡ lowest_bit m → r ≡ without_lowest m → bits_of m ≡ b ∷ bits_of r
bits_next m b r n h p q = rw (p, q) (lowest m (omega arith) h).bits

-- ---- those that two masks share, and those of a part

bit_product : (x y : ℕ) → x < 2 → y < 2 → min x y ≡ x * y
bit_product zero y h l = omega arith
bit_product (suc zero) zero h l = refl
bit_product (suc zero) (suc zero) h l = refl
bit_product (suc zero) (suc (suc y)) h l = absurd (omega arith)
bit_product (suc (suc x)) y h l = absurd (omega arith)

and_from : (k a b : ℕ) → a < 2 ^ k → bit_and a b ≡ common_in k a b
unfolding common_in
and_from zero a b h = let z : a ≡ 0 = omega arith in ap (λ (x : ℕ). bit_and x b) z
and_from (suc k) a b h =
    let z = pow-succ' 2 k in
    let c = and_from k (a / 2) (b / 2) (omega arith) in
    let p = bit_product (a % 2) (b % 2) (omega arith) (omega arith) in
    and_step a b ∙ (let e : bit_and (a / 2) (b / 2) * 2 + min (a % 2) (b % 2) ≡ (a % 2) * (b % 2) + 2 * common_in k (a / 2) (b / 2) = omega arith in e)

pub and-common : (a b : ℕ) → a < 2 ^ 64 → bit_and a b ≡ common a b
unfolding common
and-common a b h = and_from 64 a b h

pub common-le : (a b : ℕ) → a < 2 ^ 64 → common a b ≤ a
common-le a b h = omega (arith, and-common a b h, and_le_l a b)

pub common_self : (a : ℕ) → a < 2 ^ 64 → common a a ≡ a
common_self a h = sym (and-common a a h) ∙ and_self a

pub every_append : {A : Type 0} (f : A → Bool) (xs ys : List A) → every f (xs ++ ys) ≡ every f xs && every f ys
unfolding every
every_append f [] ys = refl
every_append f (x ∷ xs) ys = go (f x) (every_append f xs ys)
  where
    go : (t : Bool) → every f (xs ++ ys) ≡ every f xs && every f ys → t && every f (xs ++ ys) ≡ (t && every f xs) && every f ys
    go true e = e
    go false e = refl

pub every_at : {A : Type 0} (f : A → Bool) (xs : List A) (i : ℕ) (d : A) → every f xs ≡ true → i < length xs → f (get_or xs i d) ≡ true
unfolding every
every_at f [] i d e h = absurd (omega arith)
every_at f (x ∷ xs) i d e h = go (f x) refl e i h (λ k r l. every_at f xs k d r l)
  where
    go : (t : Bool) → f x ≡ t → t && every f xs ≡ true → (i : ℕ) → i < suc (length xs)
        → ((k : ℕ) → every f xs ≡ true → k < length xs → f (get_or xs k d) ≡ true) → f (get_or (x ∷ xs) i d) ≡ true
    go true q e zero h r = q
    go true q e (suc k) h r = r k e (omega arith)
    go false q e k h r = absurd (false≢true e)

same_test : (x y u v : ℕ) → (x ≡ y → u ≡ v) → (u ≡ v → x ≡ y) → eqb x y ≡ eqb u v
same_test x y u v f g = go (eqb u v) refl
  where
    go : (t : Bool) → eqb u v ≡ t → eqb x y ≡ t
    go true e = eq-eqb x y (g (eqb-true u v e))
    go false e = ne_eqb x y (λ z. eqb-false u v e (f z))

-- bitwise and leaves a part as it is, and changes what is none
contains_from : (k p whole part : ℕ) → part < 2 ^ k → every (λ b. bit b whole) (bits_from k p part) ≡ eqb (common_in k part (whole / 2 ^ p)) part
unfolding bits_from every common_in
contains_from zero p whole part h = sym (eq-eqb 0 part (omega arith))
contains_from (suc k) p whole part h =
    every_append (λ b. bit b whole) (cond (eqb (part % 2) 1) (p ∷ []) []) (bits_from k (p + 1) (part / 2))
    ∙ ap (λ (t : Bool). every (λ b. bit b whole) (cond (eqb (part % 2) 1) (p ∷ []) []) && t)
    (contains_from k (p + 1) whole (part / 2) (let z = pow-succ' 2 k in omega arith) ∙ ap (λ (x : ℕ). eqb (common_in k (part / 2) x) (part / 2)) (sym (shr-shr whole p 1)))
    ∙ go (part % 2) (whole / 2 ^ p % 2) (common_in k (part / 2) (whole / 2 ^ p / 2)) refl refl
  where
    go : (r s c : ℕ) → part % 2 ≡ r → whole / 2 ^ p % 2 ≡ s
        → every (λ b. bit b whole) (cond (eqb r 1) (p ∷ []) []) && eqb c (part / 2) ≡ eqb (r * s + 2 * c) part
    go zero s c e f = same_test c (part / 2) (0 * s + 2 * c) part (λ z. omega arith) (λ z. omega arith)
    go (suc zero) zero c e f = rw f (sym (ne_eqb (1 * 0 + 2 * c) part (λ z. omega arith)))
    go (suc zero) (suc zero) c e f = rw f (same_test c (part / 2) (1 * 1 + 2 * c) part (λ z. omega arith) (λ z. omega arith))
    go (suc zero) (suc (suc s)) c e f = absurd (omega arith)
    go (suc (suc r)) s c e f = absurd (omega arith)

pub contains_is : (whole part : ℕ) → part < 2 ^ 64 → contains whole part ≡ eqb (common part whole) part
unfolding contains common
contains_is whole part h =
    let z : whole / 2 ^ 0 ≡ whole = omega arith in
    contains_from 64 0 whole part h ∙ ap (λ (x : ℕ). eqb (common_in 64 part x) part) z

-- a part is what it shares with the whole
pub contains-common : (whole part : ℕ) → part < 2 ^ 64 → contains whole part ≡ true → common part whole ≡ part
contains-common whole part h e = eqb-true (common part whole) part (sym (contains_is whole part h) ∙ e)

-- the lowest bit and the others of what two masks share
common-step : (k a b : ℕ) → (common_in (suc k) a b % 2 ≡ (a % 2) * (b % 2)) × (common_in (suc k) a b / 2 ≡ common_in k (a / 2) (b / 2))
unfolding common_in
common-step k a b = go (a % 2) (b % 2) (common_in k (a / 2) (b / 2)) (omega arith) (omega arith)
  where
    go : (x y r : ℕ) → x < 2 → y < 2 → ((x * y + 2 * r) % 2 ≡ x * y) × ((x * y + 2 * r) / 2 ≡ r)
    go zero y r h l = (omega arith, omega arith)
    go (suc zero) zero r h l = (omega arith, omega arith)
    go (suc zero) (suc zero) r h l = (omega arith, omega arith)
    go (suc zero) (suc (suc y)) r h l = absurd (omega arith)
    go (suc (suc x)) y r h l = absurd (omega arith)

common_in-small : (k a b : ℕ) → common_in k a b < 2 ^ k
unfolding common_in
common_in-small zero a b = omega arith
common_in-small (suc k) a b =
    let s = common-step k a b in
    let r = common_in-small k (a / 2) (b / 2) in
    let z = pow-succ' 2 k in
    omega (arith, s.1)

common_in_assoc : (k a b c : ℕ) → common_in k (common_in k a b) c ≡ common_in k a (common_in k b c)
unfolding common_in
common_in_assoc zero a b c = refl
common_in_assoc (suc k) a b c = joined (common_in (suc k) a b) (common_in (suc k) b c) (common-step k a b) (common-step k b c) (common_in_assoc k (a / 2) (b / 2) (c / 2))
  where
    joined : (x y : ℕ) → (x % 2 ≡ (a % 2) * (b % 2)) × (x / 2 ≡ common_in k (a / 2) (b / 2)) → (y % 2 ≡ (b % 2) * (c % 2)) × (y / 2 ≡ common_in k (b / 2) (c / 2))
        → common_in k (common_in k (a / 2) (b / 2)) (c / 2) ≡ common_in k (a / 2) (common_in k (b / 2) (c / 2)) → common_in (suc k) x c ≡ common_in (suc k) a y
    joined x y p q e = rw (p.0, p.1, q.0, q.1, e, mul_assoc (a % 2) (b % 2) (c % 2))

common_assoc : (a b c : ℕ) → common (common a b) c ≡ common a (common b c)
unfolding common
common_assoc a b c = common_in_assoc 64 a b c

pub common-small : (a b : ℕ) → common a b < 2 ^ 64
unfolding common
common-small a b = common_in-small 64 a b

-- what two masks share is a part of the second
pub common-part : (a b : ℕ) → b < 2 ^ 64 → common (common a b) b ≡ common a b
common-part a b h = common_assoc a b b ∙ ap (common a) (common_self b h)

pub part_contained : (whole part : ℕ) → common part whole ≡ part → contains whole part ≡ true
part_contained whole part e =
    contains_is whole part (let z = common-small part whole in omega (arith, e)) ∙ eq-eqb (common part whole) part e

-- what a part contains, the whole contains
pub contains-more : (whole part small : ℕ) → common part whole ≡ part → small < 2 ^ 64 → contains part small ≡ true → contains whole small ≡ true
contains-more whole part small e l q =
    let s = contains-common part small l q in
    part_contained whole small (ap (λ (x : ℕ). common x whole) (sym s) ∙ common_assoc small part whole ∙ ap (common small) e ∙ s)

-- ---- those that pass a test

pub mask-small : (k p : ℕ) (test : ℕ → Bool) → mask_from k p test < 2 ^ k
unfolding mask_from
mask-small zero p test = omega arith
mask-small (suc k) p test = go (test p) (mask-small k (p + 1) test)
  where
    go : (t : Bool) → mask_from k (p + 1) test < 2 ^ k → cond t 1 0 + 2 * mask_from k (p + 1) test < 2 ^ suc k
    go true h = let z = pow-succ' 2 k in omega arith
    go false h = let z = pow-succ' 2 k in omega arith

-- a bit that is set passed the test
pub mask_tested : (k p b : ℕ) (test : ℕ → Bool) → bit b (mask_from k p test) ≡ true → test (p + b) ≡ true
unfolding mask_from
mask_tested zero p b test h = absurd (false≢true (sym (ap (λ (x : ℕ). eqb (x % 2) 1) (div-eq_of_lt (pow_pos b))) ∙ h))
mask_tested (suc k) p zero test h = ap test (add-zero p) ∙ go (test p) h
  where
    go : (t : Bool) → bit 0 (cond t 1 0 + 2 * mask_from k (p + 1) test) ≡ true → t ≡ true
    go true e = refl
    go false e = absurd (false≢true (sym (ne_eqb ((0 + 2 * mask_from k (p + 1) test) / 2 ^ 0 % 2) 1 (λ z. omega arith)) ∙ e))
mask_tested (suc k) p (suc b) test h =
    let z : p + suc b ≡ p + 1 + b = omega arith in
    let y : 1 + b ≡ suc b = omega arith in
    let shifted = shr-shr (mask_from (suc k) p test) 1 b ∙ ap (λ (x : ℕ). mask_from (suc k) p test / 2 ^ x) y in
    ap test z ∙ mask_tested k (p + 1) b test (ap (λ (x : ℕ). eqb (x % 2) 1) (ap (λ (x : ℕ). x / 2 ^ b) (sym (go (test p))) ∙ shifted) ∙ h)
  where
    go : (t : Bool) → (cond t 1 0 + 2 * mask_from k (p + 1) test) / 2 ^ 1 ≡ mask_from k (p + 1) test
    go true = omega arith
    go false = omega arith

-- a bit is shared if both masks have it
pub common-bit : (a b p : ℕ) → a < 2 ^ 64 → bit p (common a b) ≡ bit p a && bit p b
common-bit a b p h =
    ap (bit p) (sym (and-common a b h)) ∙ ap (λ (x : ℕ). eqb (x % 2) 1) (and_shr a b p ∙ and_step (a / 2 ^ p) (b / 2 ^ p))
    ∙ go (a / 2 ^ p % 2) (b / 2 ^ p % 2) (bit_and (a / 2 ^ p / 2) (b / 2 ^ p / 2)) (omega arith) (omega arith)
  where
    go : (x y c : ℕ) → x < 2 → y < 2 → eqb ((c * 2 + min x y) % 2) 1 ≡ eqb x 1 && eqb y 1
    go zero y c h l = ne_eqb ((c * 2 + min 0 y) % 2) 1 (λ z. omega arith)
    go (suc zero) zero c h l = ne_eqb ((c * 2 + 0) % 2) 1 (λ z. omega arith)
    go (suc zero) (suc zero) c h l = eq-eqb ((c * 2 + 1) % 2) 1 (omega arith)
    go (suc zero) (suc (suc y)) c h l = absurd (omega arith)
    go (suc (suc x)) y c h l = absurd (omega arith)

-- ---- those below a bit

none_from : (k p : ℕ) → bits_from k p 0 ≡ []
unfolding bits_from
none_from zero p = refl
none_from (suc k) p = none_from k (p + 1)

small_from : (k p m j n : ℕ) → m < 2 ^ j → p + j ≤ n → every (λ b. ltb b n) (bits_from k p m) ≡ true
unfolding bits_from every
small_from zero p m j n h l = refl
small_from (suc k) p m zero n h l =
    let z : m ≡ 0 = omega arith in ap (λ (x : ℕ). every (λ b. ltb b n) (bits_from (suc k) p x)) z ∙ ap (every (λ b. ltb b n)) (none_from (suc k) p)
small_from (suc k) p m (suc j) n h l =
    every_append (λ b. ltb b n) (cond (eqb (m % 2) 1) (p ∷ []) []) (bits_from k (p + 1) (m / 2))
    ∙ ap (λ (t : Bool). every (λ b. ltb b n) (cond (eqb (m % 2) 1) (p ∷ []) []) && t)
    (small_from k (p + 1) (m / 2) j n (let z = pow-succ' 2 j in omega arith) (omega arith))
    ∙ go (eqb (m % 2) 1)
  where
    go : (t : Bool) → every (λ b. ltb b n) (cond t (p ∷ []) []) && true ≡ true
    go true = rw (lt-ltb p n (omega arith))
    go false = refl

-- the bits of a mask below 2 ^ n are below n
pub bits_small : (n m : ℕ) → m < 2 ^ n → every (λ b. ltb b n) (bits_of m) ≡ true
unfolding bits_of
bits_small n m h = small_from 64 0 m n n h (omega arith)

-- the lowest bit of such a mask as well
pub lowest_below : (n m : ℕ) → 0 < m → m < 2 ^ n → m < 2 ^ 64 → lowest_bit m < n
lowest_below n m a h l =
    let f = lowest m a l in
    dite (dec_lt (lowest_bit m) n) (λ q. q) (λ q. absurd (omega (arith, f.fits, pow_mono {i = n} {j = lowest_bit m} (omega arith))))

pub below_is : (m b : ℕ) → m < 2 ^ 64 → ones (m % 2 ^ b) ≡ bits_below m b
unfolding bits_below
below_is m b h = sym (bits-length (m % 2 ^ b) (omega (arith, mod-le m (2 ^ b))))

-- past the last bit, all bits are below
pub below_all : (m b : ℕ) → m < 2 ^ 64 → 64 ≤ b → ones m ≡ bits_below m b
below_all m b h l = ap ones (sym (mod-eq_of_lt (omega (arith, pow_mono {i = 64} {j = b} l)))) ∙ below_is m b h

ones_mod : (m t : ℕ) → ones (m % 2 ^ (t + 1)) ≡ m % 2 + ones (m / 2 % 2 ^ t)
ones_mod m t = ones_step (m % 2 ^ (t + 1)) ∙ ap₂ (λ (x y : ℕ). x + ones y) (mod-mod-pow m t 1) (field m t 1)

-- the bit at place i of the list has i bits below it
abbrev Place : (p m i b : ℕ) → Type 0
Place p m i b = (t : ℕ) × ((b ≡ p + t) × (ones (m % 2 ^ t) ≡ i))

place_from : (k p m i : ℕ) → i < length (bits_from k p m) → Place p m i (get_or (bits_from k p m) i 0)
unfolding bits_from ones
place_from zero p m i h = absurd (omega arith)
place_from (suc k) p m i h = go (m % 2) refl i h (λ j l. place_from k (p + 1) (m / 2) j l)
  where
    later : (r i j b : ℕ) → m % 2 ≡ r → r + j ≡ i → Place (p + 1) (m / 2) j b → Place p m i b
    later r i j b e f q = (q.0 + 1, (omega (arith, q.1.0), omega (arith, q.1.1, ones_mod m q.0)))

    go : (r : ℕ) → m % 2 ≡ r → (i : ℕ) → i < length (cond (eqb r 1) (p ∷ []) [] ++ bits_from k (p + 1) (m / 2))
        → ((j : ℕ) → j < length (bits_from k (p + 1) (m / 2)) → Place (p + 1) (m / 2) j (get_or (bits_from k (p + 1) (m / 2)) j 0))
        → Place p m i (get_or (cond (eqb r 1) (p ∷ []) [] ++ bits_from k (p + 1) (m / 2)) i 0)
    go zero e i h f = later 0 i i (get_or (bits_from k (p + 1) (m / 2)) i 0) e (omega arith) (f i h)
    go (suc zero) e zero h f = (0, (omega arith, (let z : m % 2 ^ 0 ≡ 0 = omega arith in ap ones z)))
    go (suc zero) e (suc i) h f = later 1 (suc i) i (get_or (bits_from k (p + 1) (m / 2)) i 0) e (omega arith) (f i (omega arith))
    go (suc (suc r)) e i h f = absurd (omega arith)

place_of : (m i : ℕ) → i < length (bits_of m) → Place 0 m i (get_or (bits_of m) i 0)
unfolding bits_of
place_of m i h = place_from 64 0 m i h

pub bits_place : (m i : ℕ) → m < 2 ^ 64 → i < length (bits_of m) → bits_below m (get_or (bits_of m) i 0) ≡ i
bits_place m i h l =
    let q = place_of m i l in
    let e : get_or (bits_of m) i 0 ≡ q.0 = omega (arith, q.1.0) in
    ap (bits_below m) e ∙ sym (below_is m q.0 h) ∙ q.1.1

-- 1, moved up within 64 bits
pub one_shl : (b : ℕ) → b < 64 → 1 * 2 ^ b % 2 ^ 64 ≡ 2 ^ b
one_shl b h = let e : 1 * 2 ^ b ≡ 2 ^ b = omega arith in shl_exact {a = 1} 1 b 64 (omega arith) (omega arith) ∙ e

pub lowest_power : (m b : ℕ) → 0 < m → m < 2 ^ 64 → b ≡ lowest_bit m → 1 * 2 ^ b % 2 ^ 64 ≡ 2 ^ lowest_bit m
lowest_power m b a h e = ap (λ (x : ℕ). 1 * 2 ^ x % 2 ^ 64) e ∙ one_shl (lowest_bit m) (lowest m a h).small
