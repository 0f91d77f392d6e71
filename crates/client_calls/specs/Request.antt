-- What is promised of a client's request that is lent no `out`, which is an empty one: the model's answer, or 21, by what it is lent.
-- Assumes nothing.
use Rattle.answers.specs.declared.Error.{Error}
use Rattle.std.specs.Prelude.{ℕ, List, [], Float, Result}
use Rattle.model.specs.Call.{Input, Call}
use Rattle.session.specs.View.{store, Lending}
use Rattle.session.specs.Slices.{Numbers, SharedNumbers, Reals, before, after, rows_before, rows_after}
use Rattle.answers.specs.Meets.{Answered}
use Rattle.answers.specs.declared.Answer.{Answer}

-- the control words alone, whatever the requests and the texts are, at any clock
abbrev pub AsksControl : (control : SharedNumbers) → Call Input → Result Answer Error → Type 0
AsksControl c call a =
    (clock : ℕ) (w : List ℕ) (r : List Float) (t : List ℕ)
    → Answered Lending.control (store c.entry.now w r t) (store c.entry.now w r t) [] [] call clock a

-- the rows of requests too, at the clock that the call is given
abbrev pub AsksRowsAt : (control words : Numbers) (reals : Reals) → Call Input → (clock : ℕ) → Result Answer Error → Type 0
AsksRowsAt c w r call clock a = (t : List ℕ) → Answered Lending.rows (rows_before c w r t) (rows_after c w r t) [] [] call clock a

-- at any clock
abbrev pub AsksRows : (control words : Numbers) (reals : Reals) → Call Input → Result Answer Error → Type 0
AsksRows c w r call a = (clock : ℕ) → AsksRowsAt c w r call clock a

-- all four slices
abbrev pub AsksAll : (control words : Numbers) (reals : Reals) (texts : Numbers) → Call Input → Result Answer Error → Type 0
AsksAll c w r t call a = (clock : ℕ) → Answered Lending.all (before c w r t) (after c w r t) [] [] call clock a
