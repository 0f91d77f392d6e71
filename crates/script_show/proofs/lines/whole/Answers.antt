-- The outcome, and what stands behind it. Assumes nothing.
use borrow.Author.Rules.{rules}
use Rattle.script_pattern.proofs.Lines.{written_then}
use Rattle.script_show.specs.Answer.{line_of}
use Rattle.script_show.proofs.lines.whole.Goals as goal

pub returns : goal.returns
unfolding line_of
returns c =
    let records = rw c.first.ensures at c.records_behind.ensures in
    let written = written_then c.show.ensures records in
    search rules
