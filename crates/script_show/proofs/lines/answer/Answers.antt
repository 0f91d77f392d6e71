-- The line of the outcome. Assumes nothing.
use Rattle.script_show.specs.Answer.{answer_line}
use Rattle.script_show.proofs.lines.answer.Goals as goal

pub returns : goal.returns
unfolding answer_line
returns c =
    rw (c.outcome.ensures, c.count.ensures) at c.whole.ensures
