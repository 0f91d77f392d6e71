-- What is shown, with the text that begins the buffer. Assumes nothing.
use borrow.Author.Rules.{rules}
use Rattle.script_show.specs.Answer.{next_line}
use Rattle.script_show.proofs.lines.next.Goals as goal

pub returns : goal.returns
unfolding next_line
returns c = let written = rw (c.next_shown.ensures, c.next_length.ensures) at c.ended_first.ensures in search rules
