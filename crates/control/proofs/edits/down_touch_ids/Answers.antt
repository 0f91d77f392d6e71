-- The ids before j are read. Assumes nothing.
use Rattle.std.proofs.Common.{arith}
use Rattle.control.proofs.Touches.{touches-read}
use Rattle.control.proofs.edits.down_touch_ids.Goals as goal

pub returns : goal.returns
returns c =
    let a = c.args in
    let read = c.loop-j.invariant.1 in touches-read a.control.now c.requires.0 a.k c.requires.1 c.loop-j.ids read.0 (λ i l. read.1 i (omega arith))
