-- The line in its pattern. Assumes nothing.
use borrow.Author.Rules.{rules}
use Rattle.script_show.specs.Answer.{call_line}
use Rattle.script_show.proofs.lines.call_line.Goals as goal

pub returns : goal.returns
unfolding call_line
returns c = let written = rw c.single.ensures at c.ended.ensures in search rules
