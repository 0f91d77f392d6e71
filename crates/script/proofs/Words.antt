-- Words of a line: where one ends, and whether two are the same. Assumes nothing.
use Prim.Native.Nat.{ℕ, ◌+◌, ◌-◌, ◌≤◌}
use mathlib.Core.Path.{◌≡◌, refl, sym, ap, ap₂, ◌∙◌}
use mathlib.Core.Bool.{Bool, true, false, cond, ◌&&◌, false≢true}
use mathlib.Core.List.{List, [], ◌∷◌}
use native.Mathlib.Omega.{arith}
use borrow.Author.Tests.{eqb-true, ltb-false}
use lib.Dec.{eqb, ltb}
use lib.ListN.{length, take, drop, length-take, length-drop}
use lib.Seq.{take_all}
use Rattle.eiproto.specs.Interface.{same_bytes}
use Rattle.std.specs.Str.{bytes_eq}
use Rattle.std.specs.Prelude.{not, position, Option, Some, None}
use Rattle.std.specs.List.{position_or_len}
use Rattle.script.specs.Words.{starts_with, before}

-- ---- what stands in an `Option`

pub some_eq : {A : Type 0} {x y : A} → Some x ≡ Some y → x ≡ y
some_eq e = cc

pub none_some : {A : Type 0} {x : A} → ◌≡◌ {A = Option A} None (Some x) → ⊥
none_some e = let z : ◌≡◌ {A = ℕ} 0 1 = cc in omega arith

-- ---- the first such byte

before_position : (b : ℕ) (l : List ℕ) → length (before b l) ≡ position_or_len (λ c. eqb c b) l
unfolding before
before_position b [] = refl
before_position b (c ∷ l) = go (eqb c b) (before_position b l)
  where
    go : (t : Bool) → length (before b l) ≡ position_or_len (λ c. eqb c b) l
        → length (cond t [] (c ∷ before b l)) ≡ cond (not t) (1 + position_or_len (λ c. eqb c b) l) 0
    go true e = refl
    go false e = omega (arith, e)

pub take-before : (b : ℕ) (l : List ℕ) → take (length (before b l)) l ≡ before b l
unfolding before
take-before b [] = refl
take-before b (c ∷ l) = go (eqb c b) (take-before b l)
  where
    go : (t : Bool) → take (length (before b l)) l ≡ before b l
        → take (length (cond t [] (c ∷ before b l))) (c ∷ l) ≡ cond t [] (c ∷ before b l)
    go true e = refl
    go false e = ap (λ (r : List ℕ). c ∷ r) e

pub before-le : (b : ℕ) (l : List ℕ) → length (before b l) ≤ length l
before-le b l = omega (arith, ap length (take-before b l), length-take (length (before b l)) l)

-- a slice from a place on
pub rest : (from : ℕ) (s : List ℕ) → take (length s - from) (drop from s) ≡ drop from s
rest from s = take_all (length s - from) (drop from s) (omega (arith, length-drop from s))

module _ (b : ℕ) (l : List ℕ) where
  pub before_found : (k : ℕ) → position (λ c. eqb c b) l ≡ Some k → length (before b l) ≡ k
  before_found k e = go (ltb (position_or_len (λ c. eqb c b) l) (length l)) e
    where
      go : (t : Bool) → cond t (Some (position_or_len (λ c. eqb c b) l)) None ≡ Some k → length (before b l) ≡ k
      go true f = before_position b l ∙ some_eq f
      go false f = absurd (none_some f)

  pub before_none : position (λ c. eqb c b) l ≡ None → length (before b l) ≡ length l
  before_none e = go (ltb (position_or_len (λ c. eqb c b) l) (length l)) refl e
    where
      go : (t : Bool) → ltb (position_or_len (λ c. eqb c b) l) (length l) ≡ t
          → cond t (Some (position_or_len (λ c. eqb c b) l)) None ≡ None → length (before b l) ≡ length l
      go true q f = absurd (none_some (sym f))
      go false q f = omega (arith, ltb-false (position_or_len (λ c. eqb c b) l) (length l) q, before_position b l, before-le b l)

-- ---- words that are the same

pub same_eq : (a b : List ℕ) → same_bytes a b ≡ true → a ≡ b
unfolding same_bytes
same_eq [] [] e = refl
same_eq [] (y ∷ ys) e = absurd (false≢true e)
same_eq (x ∷ xs) [] e = absurd (false≢true e)
same_eq (x ∷ xs) (y ∷ ys) e = go (eqb x y) refl e (λ f. same_eq xs ys f)
  where
    go : (t : Bool) → eqb x y ≡ t → t && same_bytes xs ys ≡ true → (same_bytes xs ys ≡ true → xs ≡ ys) → x ∷ xs ≡ y ∷ ys
    go true q e f = ap₂ (λ (z : ℕ) (l : List ℕ). z ∷ l) (eqb-true x y q) (f e)
    go false q e f = absurd (false≢true e)

-- as `==` of slices says it
pub same_is : (a b : List ℕ) → bytes_eq a b ≡ same_bytes a b
unfolding same_bytes
same_is [] [] = refl
same_is [] (y ∷ ys) = refl
same_is (x ∷ xs) [] = refl
same_is (x ∷ xs) (y ∷ ys) = ap (λ (t : Bool). eqb x y && t) (same_is xs ys)

-- what a test of `==`, or of `starts_with`, has told
pub same_told : (a b : List ℕ) (r v : Bool) → r ≡ bytes_eq a b → r ≡ v → same_bytes a b ≡ v
same_told a b r v e f = sym (same_is a b) ∙ sym e ∙ f

module _ (p w : List ℕ) where
  pub starts_told : (r v : Bool) → r ≡ bytes_eq p (take (length p) w) → r ≡ v → starts_with p w ≡ v
  unfolding starts_with
  starts_told r v e f = same_told p (take (length p) w) r v e f

  pub starts-length : starts_with p w ≡ true → length p ≤ length w
  unfolding starts_with
  starts-length e = omega (arith, ap length (same_eq p (take (length p) w) e), length-take (length p) w)
