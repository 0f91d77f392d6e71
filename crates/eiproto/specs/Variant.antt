-- Values and the numbers that stand for them. Assumes nothing.
use Rattle.std.specs.Prelude.{ℕ, cond, List, [], ◌∷◌, eqb}

-- what `found` makes of the first value of the list that has the number n; `none` where no value has it
abbrev pub parse : {A R : Type 0} → (A → ℕ) → (A → R) → R → List A → ℕ → R
parse number found none [] n = none
parse number found none (x ∷ xs) n = cond (eqb n (number x)) (found x) (parse number found none xs n)
