-- Laws of `member` and `without`, by the place of the first id, and of a list cut at a count. Assumes nothing.
use Prim.Native.Nat.compare
use Prim.Native.Nat.{ℕ, zero, suc, ◌+◌, ◌≤◌, ◌<◌}
use mathlib.Core.Path.{◌≡◌, refl, sym, ◌∙◌}
use mathlib.Core.Bool.{Bool, true, false, ◌||◌, cond, not}
use mathlib.Core.List.{List, [], ◌∷◌, ◌++◌}
use native.Mathlib.Omega.{arith}
use borrow.Author.Tests.{lt-ltb, ltb-true}
use lib.Dec.{eqb, ltb}
use lib.ListN.{length, get_or, take, length-take}
use lib.Seq.{take-suc, get_or-take}
use Rattle.std.specs.Prelude.{Some, None}
use Rattle.std.specs.Option.{is_some}
use Rattle.std.specs.List.{position, position_or_len}
use Rattle.touches.specs.declared.DownTouchIds.{DownTouchIds}
use Rattle.touches.specs.Touches.{held, member, without}

pub held_bound : (d : DownTouchIds) → length (held d) ≤ length d.ids
held_bound d = omega (arith, length-take d.count d.ids)

pub held_at : (d : DownTouchIds) (i : ℕ) → i < length (held d) → get_or (held d) i 0 ≡ get_or d.ids i 0
held_at d i h = get_or-take d.count d.ids i 0 (omega (arith, length-take d.count d.ids))

-- the place of the first x; the list's length where there is none
abbrev pub place : ℕ → List ℕ → ℕ
place x l = position_or_len (λ y. eqb x y) l

pub place-member : (x : ℕ) (l : List ℕ) → ltb (place x l) (length l) ≡ member x l
unfolding member
place-member x [] = refl
place-member x (y ∷ ys) = go (eqb x y) (place-member x ys)
  where
    go : (b : Bool) → ltb (place x ys) (length ys) ≡ member x ys → ltb (cond (not b) (1 + place x ys) 0) (suc (length ys)) ≡ (b || member x ys)
    go true r = lt-ltb 0 (suc (length ys)) (omega arith)
    go false r = let z : 1 + place x ys ≡ suc (place x ys) = omega arith in rw (z, compare.suc-suc) r

-- what `position` of a slice tells
pub position_none : (x : ℕ) (l : List ℕ) → position (λ y. eqb x y) l ≡ None → member x l ≡ false
position_none x l e = sym (place-member x l) ∙ go (ltb (place x l) (length l)) e
  where
    go : (b : Bool) → cond b (Some (place x l)) None ≡ None → b ≡ false
    go true e = cc
    go false e = refl

pub position-member : (x : ℕ) (l : List ℕ) → is_some (position (λ y. eqb x y) l) ≡ member x l
position-member x l = go (ltb (place x l) (length l)) ∙ place-member x l
  where
    go : (b : Bool) → is_some (cond b (Some (place x l)) None) ≡ b
    go true = refl
    go false = refl

pub position_some : (x : ℕ) (l : List ℕ) (k : ℕ) → position (λ y. eqb x y) l ≡ Some k → (place x l ≡ k) × (place x l < length l)
position_some x l k e = go (ltb (place x l) (length l)) refl e
  where
    go : (b : Bool) → ltb (place x l) (length l) ≡ b → cond b (Some (place x l)) None ≡ Some k → (place x l ≡ k) × (place x l < length l)
    go true t e = (cc, ltb-true (place x l) (length l) t)
    go false t e = cc

-- up to and with the first x, only x is left out
pub without-first : (x : ℕ) (l : List ℕ) → place x l < length l → without x (take (suc (place x l)) l) ≡ take (place x l) l
unfolding without
without-first x [] h = refl
without-first x (y ∷ ys) h = at (eqb x y) refl h (λ g. without-first x ys g)
  where
    at : (b : Bool) → eqb x y ≡ b → cond (not b) (1 + place x ys) 0 < suc (length ys)
        → (place x ys < length ys → without x (take (suc (place x ys)) ys) ≡ take (place x ys) ys)
        → without x (take (suc (cond (not b) (1 + place x ys) 0)) (y ∷ ys)) ≡ take (cond (not b) (1 + place x ys) 0) (y ∷ ys)
    at true e h r = rw e
    at false e h r = let z : 1 + place x ys ≡ suc (place x ys) = omega arith in rw (z, e, r (omega arith))

-- and what comes behind it stays
pub without-next : (x : ℕ) (l : List ℕ) (k : ℕ) → place x l ≤ k → suc k < length l → without x (take (suc (suc k)) l) ≡ without x (take (suc k) l) ++ (get_or l (suc k) 0 ∷ [])
unfolding without
without-next x [] k h g = absurd (omega arith)
without-next x (y ∷ ys) k h g = at (eqb x y) refl k h g (λ j. without-next x ys j)
  where
    at : (b : Bool) → eqb x y ≡ b → (k : ℕ) → cond (not b) (1 + place x ys) 0 ≤ k → suc k < suc (length ys)
        → ((j : ℕ) → place x ys ≤ j → suc j < length ys → without x (take (suc (suc j)) ys) ≡ without x (take (suc j) ys) ++ (get_or ys (suc j) 0 ∷ []))
        → without x (take (suc (suc k)) (y ∷ ys)) ≡ without x (take (suc k) (y ∷ ys)) ++ (get_or ys k 0 ∷ [])
    at true e k h g r = rw (e, take-suc ys k 0 (omega arith))
    at false e zero h g r = absurd (omega arith)
    at false e (suc j) h g r = rw (e, r j (omega arith) (omega arith))
