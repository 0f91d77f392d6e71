-- The request waits as it came. Assumes nothing.
use mathlib.Core.Path.{refl}
use Rattle.model.specs.Call.{Input, sight}
use Rattle.model.specs.Decide.{handler}
use Rattle.bozterrun.proofs.client.bozterrun_pointer_absolute_motion_absolute.Goals as goal

pub returns : goal.returns
unfolding handler sight
returns c = c.queue.ensures (Input.MotionAbsolute _ _) (record { by = refl; valid = refl }) c.pointer_motion_absolute-request.ensures
