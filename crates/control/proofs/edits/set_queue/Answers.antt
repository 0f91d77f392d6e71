-- Two words, read again. Assumes nothing.
use Rattle.control.proofs.Changes.{queue-set}
use Rattle.control.proofs.edits.set_queue.Goals as goal

pub returns : goal.returns
returns c =
    queue-set c.args.control.now c.requires.0 c.args.head c.args.queued c.requires.1.0 c.requires.1.1
