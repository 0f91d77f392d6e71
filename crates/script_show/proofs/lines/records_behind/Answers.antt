-- The records and the end of the line, one behind the other; then the records in words. Assumes nothing.
use Rattle.script_pattern.proofs.Lines.{written_then, written_is}
use Rattle.script_show.specs.Answer.{behind_outcome}
use Rattle.script_show.proofs.lines.records_behind.Goals as goal

pub returns-then-explained : goal.returns-then-explained
unfolding behind_outcome
returns-then-explained c =
    written_is (written_then c.trail.ensures (written_then c.byte.ensures c.each.ensures)) (rw c.if-explained.true)

pub returns-else-explained : goal.returns-else-explained
unfolding behind_outcome
returns-else-explained c =
    written_is (written_then c.trail.ensures c.byte.ensures) (rw c.if-explained.false)
