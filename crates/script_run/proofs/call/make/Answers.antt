-- The call of the station, whatever the texts are. Assumes nothing.
use Rattle.script_run.proofs.call.make.Goals as goal

pub returns : goal.returns
returns c =
    λ t. record { answer = c.make-a.result; meets = record { later = c.make-a.ensures.later; holds = λ clock. c.make-a.ensures.holds clock t; rest = c.make-a.ensures.rest }; told = c.answered.ensures }
