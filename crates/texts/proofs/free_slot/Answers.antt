-- The lowest place that the mask lacks. Assumes nothing.
use Rattle.std.proofs.Common.{arith}
use Rattle.texts.proofs.Marks.{free_is}
use Rattle.texts.proofs.free_slot.Goals as goal

pub returns : goal.returns
returns c = rw c.trailing_ones.ensures (free_is c.args.used (omega arith) c.requires)
