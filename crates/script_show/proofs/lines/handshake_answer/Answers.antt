-- The line of the outcome. Assumes nothing.
use Rattle.script_show.specs.Answer.{handshake_line}
use Rattle.script_show.proofs.lines.handshake_answer.Goals as goal

pub returns : goal.returns
unfolding handshake_line
returns c =
    rw c.handshake_outcome.ensures at c.whole.ensures
