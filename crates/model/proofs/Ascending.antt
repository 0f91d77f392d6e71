-- Numbers that ascend between two bounds: such lists join where their bounds meet, and a list that leaves some of them out ascends between the same
-- bounds. Assumes nothing.
use Prim.Native.Nat.{ℕ, ◌+◌, ◌≤◌, ◌<◌}
use mathlib.Core.Path.{◌≡◌, refl}
use mathlib.Core.Bool.{Bool, true, false, cond}
use mathlib.Core.List.{List, [], ◌∷◌, ◌++◌, Sublistᴰ}
use native.Mathlib.Nat.{le_trans}
use native.Mathlib.Omega.{arith}
use lib.Dec.{eqb}
use borrow.Author.Tests.{lt-ltb, le-leb, ne_eqb, eqb-true}
use Rattle.model.specs.Reachable.{ascends_from, all_below, count_of}

-- from `low` on, and below `high`
pub data Between : ℕ → List ℕ → ℕ → Type 0 where
  end : {low high : ℕ} → low ≤ high → Between low [] high
  next : {low x high : ℕ} {xs : List ℕ} → low ≤ x → Between (x + 1) xs high → Between low (x ∷ xs) high

pub bounds : {low high : ℕ} {xs : List ℕ} → Between low xs high → low ≤ high
bounds (end h) = h
bounds (next h b) = omega (arith, bounds b)

pub lower : {low low' high : ℕ} {xs : List ℕ} → low' ≤ low → Between low xs high → Between low' xs high
lower h (end k) = end (le_trans h k)
lower h (next k b) = next (le_trans h k) b

pub higher : {low high high' : ℕ} {xs : List ℕ} → high ≤ high' → Between low xs high → Between low xs high'
higher h (end k) = end (le_trans k h)
higher h (next k b) = next k (higher h b)

pub joined : {low mid high : ℕ} {xs ys : List ℕ} → Between low xs mid → Between mid ys high → Between low (xs ++ ys) high
joined (end h) c = lower h c
joined (next h b) c = next h (joined b c)

pub left_out : {low high : ℕ} {xs ys : List ℕ} → Sublistᴰ xs ys → Between low ys high → Between low xs high
left_out Sublistᴰ.slnil b = b
left_out {low = low} {high = high} (Sublistᴰ.cons {a = a} s) (next h b) = lower (omega arith) (left_out {low = a + 1} s b)
left_out (Sublistᴰ.cons-cons e s) (next h b) = rw e (next h (left_out s b))

pub ascends : {low high : ℕ} {xs : List ℕ} → Between low xs high → ascends_from low xs ≡ true
unfolding ascends_from
ascends (end h) = refl
ascends (next h b) = rw le-leb (ascends b)

pub below : {low high : ℕ} {xs : List ℕ} → Between low xs high → all_below high xs ≡ true
unfolding all_below
below (end h) = refl
below (next {x = x} {high = high} h b) = rw (lt-ltb x high (omega (arith, bounds b))) (below b)

-- what stands below the first is not there, so none is there twice
absent : {low high : ℕ} {xs : List ℕ} (id : ℕ) → id < low → Between low xs high → count_of id xs ≡ 0
unfolding count_of
absent id k (end h) = refl
absent id k (next {x = x} h b) = rw (ne_eqb x id (omega arith)) (omega (arith, absent id (omega arith) b))

one_more : (t : Bool) (n : ℕ) → (t ≡ true → n ≡ 0) → n ≤ 1 → cond t 1 0 + n ≤ 1
one_more true n h k = omega (arith, h refl)
one_more false n h k = omega arith

pub once : {low high : ℕ} {xs : List ℕ} (id : ℕ) → Between low xs high → count_of id xs ≤ 1
unfolding count_of
once id (end h) = omega arith
once id (next {x = x} {xs = xs} h b) = one_more (eqb x id) (count_of id xs) (λ e. absent id (omega (arith, eqb-true x id e)) b) (once id b)
