-- Values and their numbers: what reading a number finds. Assumes nothing.
use Prim.Native.Nat.{ℕ}
use mathlib.Core.Path.{◌≡◌, refl, sym, ◌∙◌}
use mathlib.Core.Bool.{Bool, true, false, cond}
use mathlib.Core.List.{List, [], ◌∷◌}
use borrow.Author.Tests.{eqb-true, ne_eqb}
use lib.Dec.{eqb}
use Rattle.eiproto.specs.Variant.{parse}

module _ {A R : Type 0} (number : A → ℕ) (found : A → R) (none : R) (n : ℕ) where
  -- n is the number of no value of the list, in the form in which the last arm of a `match` knows it
  abbrev pub Missed : Type 0 → List A → Type 0
  Missed N [] = N
  Missed N (x ∷ xs) = Missed (N × (n ≡ number x → ⊥)) xs

  missed : (N : Type 0) (xs : List A) → Missed N xs → N × (none ≡ parse number found none xs n)
  missed N [] m = (m, refl)
  missed N (x ∷ xs) m =
      let r = missed (N × (n ≡ number x → ⊥)) xs m in
      (r.0.0, rw (ne_eqb n (number x) r.0.1) r.1)

  pub unparsed : (xs : List A) → Missed (Unit {0}) xs → none ≡ parse number found none xs n
  unparsed xs m = (missed (Unit {0}) xs m).1

  -- what was read tells n again
  pub parsed : (tells : R → ℕ) → ((x : A) → tells (found x) ≡ number x) → tells none ≡ n → (xs : List A)
      → tells (parse number found none xs n) ≡ n
  parsed tells f g [] = g
  parsed tells f g (x ∷ xs) = go (eqb n (number x)) refl (parsed tells f g xs)
    where
      go : (t : Bool) → eqb n (number x) ≡ t → tells (parse number found none xs n) ≡ n
          → tells (cond t (found x) (parse number found none xs n)) ≡ n
      go true e r = f x ∙ sym (eqb-true n (number x) e)
      go false e r = r
