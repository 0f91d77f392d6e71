-- The line of the outcome. Assumes nothing.
use Rattle.script_message.specs.Shown.{handshake_message_line}
use Rattle.script_message.proofs.show.handshake_message_answer.Goals as goal

pub returns : goal.returns
unfolding handshake_message_line
returns c = rw c.handshake_taken.ensures at c.whole.ensures
