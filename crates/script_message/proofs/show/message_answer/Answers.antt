-- The line of what is shown. Assumes nothing.
use Rattle.script_message.specs.Shown.{message_line}
use Rattle.script_message.proofs.show.message_answer.Goals as goal

pub returns : goal.returns
unfolding message_line
returns c = rw (c.message_shown.ensures, c.message_count.ensures) at c.whole.ensures
