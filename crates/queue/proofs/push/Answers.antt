-- A row that is none of the queue's, then the queue is longer. Assumes nothing.
use native.Mathlib.Omega.{arith}
use Rattle.queue.proofs.Entries.{untimed-request}
use Rattle.queue.proofs.Edits.{enacted, pushed}
use Rattle.queue.proofs.push.Goals as goal

pub returns-clause-step : goal.returns-clause-step
returns-clause-step c =
    λ u what texts load.
    enacted c.set_queue.ensures.sound
    (pushed c.args.session.now.lent.sound c.put.ensures c.set_queue.ensures c.of-ring.ensures.0 c.of-ring.ensures.1 (omega (arith, c.of-ring.ensures.1, c.requires))
    (omega (arith, c.row.ensures.0)) (omega arith) texts u load (untimed-request texts c.args.request _ u what))
