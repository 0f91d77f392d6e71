-- Lists read off a table in two parts, and without their first; what a frame queues of a table of devices. Assumes nothing.
use Prim.Native.Nat.{ℕ, zero, suc, ◌+◌, ◌<◌}
use native.Mathlib.Nat.{zero-add, suc-add}
use native.Mathlib.Omega.{arith}
use mathlib.Core.Path.{◌≡◌, refl, ap, ◌∙◌}
use mathlib.Core.List.{List, [], ◌∷◌, ◌++◌}
use Rattle.model.specs.Session.{Item, Untimed, Queued, Device}
use Rattle.model.specs.Edit.{framed, framed_at, rest}
use Rattle.control.specs.Table.{tab}
use Rattle.control.proofs.Tables.{tab_ext, tab-map}

pub tab-add : {A : Type 0} (n m : ℕ) (f : ℕ → A) → tab (n + m) f ≡ tab n f ++ tab m (λ j. f (n + j))
unfolding tab
tab-add zero m f = rw zero-add (tab_ext m f (λ j. f (0 + j)) (λ j l. ap f (omega arith)))
tab-add {A} (suc n) m f =
    rw suc-add
    (ap (λ (xs : List A). f 0 ∷ xs)
    (tab-add n m (λ j. f (suc j))
    ∙ ap (λ (xs : List A). tab n (λ j. f (suc j)) ++ xs) (tab_ext m (λ j. f (suc (n + j))) (λ j. f (suc n + j)) (λ j l. ap f (omega arith)))))

module _ {P : Type 0} where
  pub tab-rest : (n m : ℕ) (f : ℕ → Queued P) → n ≡ m + 1 → rest (tab n f) ≡ tab m (λ j. f (suc j))
  unfolding tab rest
  tab-rest zero m f e = absurd (omega arith)
  tab-rest (suc n) m f e = let q : n ≡ m = omega arith in ap (λ (k : ℕ). tab k (λ j. f (suc j))) q

  -- what a frame queues, where something is pending
  pub framed-tab : (d s t n : ℕ) (f : ℕ → Item P) → 0 < n
      → framed d s t (tab n f) ≡ tab n (λ j. Queued.timed d t (f j)) ++ (Queued.untimed (Untimed.Frame d s t) ∷ [])
  unfolding tab framed
  framed-tab d s t zero f l = absurd (omega arith)
  framed-tab d s t (suc n) f l =
      ap (λ (rs : List (Queued P)). rs ++ (Queued.untimed (Untimed.Frame d s t) ∷ [])) (tab-map (λ x. Queued.timed d t x) (suc n) f)

  pub framed-slot : (s t n k : ℕ) (f : ℕ → Device P) → k < n → framed_at k s t (tab n f) ≡ framed (f k).id s t (f k).pending
  unfolding tab framed_at
  framed-slot s t zero k f l = absurd (omega arith)
  framed-slot s t (suc n) zero f l = refl
  framed-slot s t (suc n) (suc k) f l = framed-slot s t n k (λ j. f (suc j)) (omega arith)
