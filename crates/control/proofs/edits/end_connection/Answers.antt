-- One word, read again. Assumes nothing.
use Rattle.control.proofs.Changes.{gone-set}
use Rattle.control.proofs.edits.end_connection.Goals as goal

pub returns : goal.returns
returns c =
    gone-set c.args.control.now c.requires
