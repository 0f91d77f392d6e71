-- Records, one behind another. Assumes nothing.
use Prim.Native.Nat.{ℕ, zero, suc, ◌+◌, ◌-◌, ◌*◌, ◌%◌, ◌≤◌, ◌<◌}
use mathlib.Core.Path.{◌≡◌, refl, sym, ap, ◌∙◌}
use mathlib.Core.Bool.{Bool, true, false, cond, ◌&&◌}
use mathlib.Core.List.{List, [], ◌∷◌, ◌++◌}
use mathlib.Core.Logic.{dite}
use native.Mathlib.Decide.{dec_le}
use native.Mathlib.Omega.{arith}
use borrow.Author.Tests.{lt-ltb, le-ltb, eq-eqb, ne_eqb, eqb-true, leb-true}
use lib.Dec.{eqb, leb, ltb}
use lib.ListN.{length, get_or, take, drop}
use Rattle.eiproto.specs.Interface.{ascii}
use Rattle.event_messages.specs.Shape.{shape_of, width}
use Rattle.event_messages.proofs.Tests.{both_hold}
use Rattle.event_messages.proofs.Tables.{at}
use Rattle.script_show.specs.Records.{size_within, record_size, each_from, each_record, sizes, record_bytes, trail}

-- ---- a record's size

within : (said all : ℕ) → 0 < all → (1 ≤ size_within said all) × (size_within said all ≤ all)
within said all h =
    dite (dec_le said 0)
    (λ z. rw (eq-eqb said 0 (omega arith)) (omega arith, omega arith))
    (λ z.
    let n = ne_eqb said 0 (λ e. omega arith) in
    dite (dec_le said all)
    (λ q. rw (n, le-ltb all said q) (omega arith, omega arith))
    (λ q. rw (n, lt-ltb all said (omega arith)) (omega arith, omega arith)))

pub size_bounds : (l : List ℕ) → 0 < length l → (1 ≤ record_size l) × (record_size l ≤ length l)
unfolding record_size
size_bounds l h =
    elim (ltb (length l) 2) as (λ (b : Bool). (1 ≤ cond b (length l) (size_within (get_or l 0 0 % 8 * 256 + get_or l 1 0) (length l))) × (cond b (length l) (size_within (get_or l 0 0 % 8 * 256 + get_or l 1 0) (length l)) ≤ length l)) [
      | true ↦ (omega arith, omega arith)
      | false ↦ within (get_or l 0 0 % 8 * 256 + get_or l 1 0) (length l) h
    ]

-- ---- each record

skip : (f : List ℕ → List ℕ) (n : ℕ) (l : List ℕ) → each_from f n l ≡ each_from f 0 (drop n l)
unfolding each_from
skip f zero l = refl
skip f (suc n) [] = refl
skip f (suc n) (b ∷ bs) = skip f n bs

-- the first, and those behind it
pub begun : (f : List ℕ → List ℕ) (l : List ℕ) → 0 < length l → each_record f l ≡ f (take (record_size l) l) ++ each_record f (drop (record_size l) l)
unfolding each_record each_from
begun f [] h = absurd (omega arith)
begun f (b ∷ bs) h =
    let n = size_bounds (b ∷ bs) (omega arith) in
    let e : record_size (b ∷ bs) ≡ suc (record_size (b ∷ bs) - 1) = omega arith in
    ap (λ (r : List ℕ). f (take (record_size (b ∷ bs)) (b ∷ bs)) ++ r)
    (skip f (record_size (b ∷ bs) - 1) bs ∙ ap (λ (k : ℕ). each_from f 0 (drop k (b ∷ bs))) (sym e))

pub each-none : (f : List ℕ → List ℕ) (l : List ℕ) → length l ≡ 0 → each_record f l ≡ []
unfolding each_record each_from
each-none f [] h = refl
each-none f (b ∷ bs) h = absurd (omega arith)

pub trail-none : (l : List ℕ) → length l ≡ 0 → [] ≡ trail l
unfolding trail
trail-none [] h = refl
trail-none (b ∷ bs) h = absurd (omega arith)

pub trail-some : (l : List ℕ) → (length l ≡ 0 → ⊥) → ascii " |" ++ each_record (record_bytes false) l ≡ trail l
unfolding trail
trail-some [] h = absurd (h refl)
trail-some (b ∷ bs) h = refl

-- ---- the sizes of the numbers of a kind are those of its values in a record

same_sizes : ℕ → Bool
same_sizes k =
    eqb (get_or sizes (3 * k) 0) (width (shape_of k).first)
    && (eqb (get_or sizes (3 * k + 1) 0) (width (shape_of k).second)
    && eqb (get_or sizes (3 * k + 2) 0) (width (shape_of k).third))

pub record Sized (k : ℕ) : Type 0 where
  pub first : get_or sizes (3 * k) 0 ≡ width (shape_of k).first
  pub second : get_or sizes (3 * k + 1) 0 ≡ width (shape_of k).second
  pub third : get_or sizes (3 * k + 2) 0 ≡ width (shape_of k).third

pub sizes_are : (k : ℕ) → k < 19 → Sized k
unfolding shape_of same_sizes
sizes_are k h =
    let t : same_sizes k ≡ true = at same_sizes 19 refl k h in
    let a = both_hold t in
    let b = both_hold a.1 in
    record { first = eqb-true _ _ a.0; second = eqb-true _ _ b.0; third = eqb-true _ _ b.1 }

-- ---- the sizes of numbers are at most 8

abbrev small : List ℕ → Bool
small [] = true
small (x ∷ xs) = leb x 8 && small xs

small_at : (l : List ℕ) → small l ≡ true → (i : ℕ) → get_or l i 0 ≤ 8
small_at [] t i = omega arith
small_at (x ∷ xs) t zero = leb-true x 8 (both_hold t).0
small_at (x ∷ xs) t (suc i) = small_at xs (both_hold t).1 i

pub size-most : (i : ℕ) → get_or sizes i 0 ≤ 8
size-most i = small_at sizes refl i
