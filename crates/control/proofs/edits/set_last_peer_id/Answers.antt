-- One word, read again. Assumes nothing.
use Rattle.control.proofs.Changes.{peer_set}
use Rattle.control.proofs.edits.set_last_peer_id.Goals as goal

pub returns : goal.returns
returns c =
    peer_set c.args.control.now c.requires c.args.id
