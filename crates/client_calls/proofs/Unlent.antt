-- A slice of no element has none when it comes back; so a call that is lent an empty `out` leaves it empty. Assumes nothing.
use Rattle.answers.specs.declared.Error.{Error}
use Rattle.std.specs.Prelude.{Result}
use Prim.Native.Nat.{ℕ}
use mathlib.Core.Path.{◌≡◌}
use mathlib.Core.List.{List, [], ◌∷◌}
use native.Mathlib.Omega.{arith}
use lib.ListN.{length}
use Rattle.model.specs.Call.{Input, Call}
use Rattle.session.specs.View.{Store}
use Rattle.answers.specs.Meets.{Handled}
use Rattle.answers.specs.declared.Answer.{Answer}

pub emptied : (P : List ℕ → Type 0) {xs : List ℕ} → length xs ≡ 0 → P xs → P []
emptied P {xs = []} l h = h
emptied P {xs = x ∷ xs} l h = absurd (omega arith)

pub no_out : {s e : Store} {later : List ℕ} (call : Call Input) (clock : ℕ) {r : Result Answer Error} → length later ≡ 0 → Handled s e [] later call clock r
    → Handled s e [] [] call clock r
no_out {s} {e} {later} call clock {r} l h = emptied (λ (xs : List ℕ). Handled s e [] xs call clock r) l h
