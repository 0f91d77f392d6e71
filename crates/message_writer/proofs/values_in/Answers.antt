-- Three numbers, each behind the one before. Assumes nothing.
use Rattle.message_writer.specs.Number.{values_in}
use Rattle.message_writer.proofs.values_in.Goals as goal

pub returns : goal.returns
unfolding values_in
returns c =
    let w1 = c.width-a.ensures.0 in
    let w2 = c.width-b.ensures.0 in
    let w3 = c.width-c.ensures.0 in
    rw (c.number_at.ensures, c.number_at-2.ensures, c.number_at-3.ensures, w1, w2, w3)
