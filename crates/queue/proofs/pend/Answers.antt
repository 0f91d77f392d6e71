-- A row that is none of the live ones, then one more is pending. Assumes nothing.
use native.Mathlib.Omega.{arith}
use Rattle.queue.proofs.Room.{pending_is}
use Rattle.queue.proofs.Edits.{enacted, pended-more}
use Rattle.queue.proofs.pend.Goals as goal

pub returns-clause-step : goal.returns-clause-step
returns-clause-step c =
    λ texts sight load what.
    let a = c.args in
    enacted c.set_pending.ensures.sound
    (pended-more c.args.session.now.lent.sound c.put_cell.ensures c.set_pending.ensures c.requires.0 c.pending_count-n.ensures (omega (arith, c.pending_count-n.ensures, pending_is a.session.now.control.now a.k, c.requires.1)) (omega arith) (omega arith) texts sight load
    what)
