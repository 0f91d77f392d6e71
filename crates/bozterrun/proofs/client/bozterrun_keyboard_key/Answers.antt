-- A state of 0 or 1 makes a request, which waits as it came; any other is refused. Assumes nothing.
use mathlib.Core.Path.{refl}
use native.Mathlib.Omega.{arith}
use Rattle.model.specs.Call.{Input, sight}
use Rattle.model.specs.Decide.{handler}
use Rattle.bozterrun.proofs.client.bozterrun_keyboard_key.Goals as goal

pub returns-then-state-gt1 : goal.returns-then-state-gt1
returns-then-state-gt1 c = (λ low. absurd (omega arith), λ high. (refl, refl))

pub returns : goal.returns
unfolding handler sight
returns c =
    (λ low. c.queue.ensures (Input.Key _ _) (record { by = refl; valid = refl }) c.keyboard_key-request.ensures, λ high. absurd (omega arith))
