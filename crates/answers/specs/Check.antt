-- What is tested of the slices of a session and of a text that a call is lent. Assumes nothing.
use Rattle.std.specs.Prelude.{ℕ, ◌≡◌, Bool, true, false, List, Result, Ok, Err}
use Rattle.std.proofs.Math.Option.{Option}
use Rattle.model.specs.Plan.{Plan, answer}
use Rattle.model.specs.Decide.{check_optional}
use Rattle.answers.specs.Answer.{error_of}
use Rattle.answers.specs.declared.Error.{Error}

-- 21's test: 21 where what is lent is damaged, and nothing else
abbrev pub Tests : (intact : Bool) → Result (Unit {0}) Error → Type 0
Tests intact (Ok _) = intact ≡ true
Tests intact (Err e) = (intact ≡ false) × (e ≡ Error.BadState)

-- what a call comes to once its text is checked: its plan, or the refusal
abbrev pub on_checked : Result (Unit {0}) Error → Plan → Plan
on_checked (Ok fine) plan = plan
on_checked (Err e) plan = answer (error_of e)

-- "10 BAD_UTF8", "11 NAME_LONG": as the model tests it, whatever the plan
abbrev pub Checks : Option (List ℕ) → Result (Unit {0}) Error → Type 0
Checks text r = (plan : Plan) → check_optional text plan ≡ on_checked r plan
