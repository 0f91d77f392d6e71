-- Each count is at most all of them joined bit by bit, and these are below a power of two that is no limit yet. Assumes nothing.
use Rattle.control.proofs.Sounds.{row-true}
use lib.Bits.{or_add_and, and_le_l, and_le_r}
use Rattle.std.proofs.Common.{arith, below_more, ltb-true}
use Rattle.control.specs.Control.{pending_at, held_at}
use Rattle.control.proofs.rows_low.Goals as goal

pub loop-k-init : goal.loop-k-init
loop-k-init c =
    λ j l. absurd (omega arith)

pub loop-k-preserved : goal.loop-k-preserved
loop-k-preserved c =
    let a = c.args.control.now in
    let l = c.loop-k in
    let p = pending_at a l.k in
    let h = held_at a l.k in
    let pended = or_add_and l.pending p in
    let holds = or_add_and l.held h in
    below_more _ _
    (λ j m. (omega (arith, (l.invariant j m).0, pended, and_le_r l.pending p), omega (arith, (l.invariant j m).1, holds, and_le_r l.held h)))
    (omega (arith, pended, and_le_l l.pending p), omega (arith, holds, and_le_l l.held h))

pub returns-then-pending : goal.returns-then-pending
returns-then-pending c low k l =
    let bounds = c.loop-k.invariant k (omega arith) in
    row-true _ k (omega (arith, bounds.0)) (omega (arith, bounds.1, ltb-true c.loop-k.held 16 low))

pub returns-else-pending : goal.returns-else-pending
returns-else-pending c low = absurd (omega (arith, ltb-true c.loop-k.pending 64 low))
