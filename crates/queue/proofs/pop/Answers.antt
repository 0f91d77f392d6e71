-- The ring from one place on. Assumes nothing.
use native.Mathlib.Omega.{arith}
use Rattle.requests.specs.Row.{row_at}
use Rattle.queue.proofs.Edits.{enacted, popped}
use Rattle.queue.proofs.pop.Goals as goal

pub returns : goal.returns
returns c =
    λ words reals texts load.
    enacted c.set_queue.ensures.sound
    (popped c.requires.0 c.set_queue.ensures (omega (arith, c.of-ring.ensures.0)) (omega (arith, c.of-ring.ensures.1, c.requires.1)) (row_at words reals) texts load)
