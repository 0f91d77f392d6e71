-- The request waits as it came. Assumes nothing.
use mathlib.Core.Path.{refl}
use Rattle.model.specs.Call.{Input, sight}
use Rattle.model.specs.Decide.{handler}
use Rattle.bozterrun.proofs.client.bozterrun_pointer_motion_relative.Goals as goal

pub returns : goal.returns
unfolding handler sight
returns c = c.queue.ensures (Input.MotionRelative _ _) (record { by = refl; valid = refl }) c.pointer_motion-request.ensures
