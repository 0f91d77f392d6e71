-- Tables as functions of the place. Assumes nothing.
use Rattle.std.specs.Prelude.{ℕ, zero, suc, Bool, cond, List, [], ◌∷◌}
use Rattle.std.proofs.Math.Option.{Option, none, some}

-- the first n values of a function of the place
unfoldable pub tab : {A : Type 0} → ℕ → (ℕ → A) → List A
tab zero f = []
tab (suc n) f = f zero ∷ tab n (λ k. f (suc k))

-- the list without the value at place k, those behind it moved down
unfoldable pub cut_at : {A : Type 0} → ℕ → List A → List A
cut_at k [] = []
cut_at zero (x ∷ xs) = xs
cut_at (suc k) (x ∷ xs) = x ∷ cut_at k xs

unfoldable pub map_option : {A B : Type 0} → (A → B) → Option A → Option B
map_option f none = none
map_option f (some x) = some (f x)

-- the place of the first value of which a test holds
unfoldable pub first : {A : Type 0} → (A → Bool) → List A → Option ℕ
unfolding map_option
first test [] = none
first test (x ∷ xs) = cond (test x) (some zero) (map_option (λ k. suc k) (first test xs))
