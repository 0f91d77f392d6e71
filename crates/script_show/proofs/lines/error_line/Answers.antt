-- The line in its pattern. Assumes nothing.
use borrow.Author.Rules.{rules}
use Rattle.script_show.specs.Answer.{error_line}
use Rattle.script_show.proofs.lines.error_line.Goals as goal

pub returns : goal.returns
unfolding error_line
returns c = let written = rw c.single.ensures at c.ended.ensures in search rules
