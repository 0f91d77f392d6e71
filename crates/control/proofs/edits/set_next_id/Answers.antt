-- One word, read again. Assumes nothing.
use Rattle.control.proofs.Changes.{next-set}
use Rattle.control.proofs.edits.set_next_id.Goals as goal

pub returns : goal.returns
returns c =
    next-set c.args.control.now c.requires c.args.id
