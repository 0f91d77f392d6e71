-- One word of the row, read again. Assumes nothing.
use Rattle.control.proofs.Changes.{pending-set}
use Rattle.control.proofs.edits.set_pending.Goals as goal

pub returns : goal.returns
returns c =
    pending-set c.args.control.now c.requires.0 c.args.k c.requires.1.0 c.args.pending c.requires.1.1
