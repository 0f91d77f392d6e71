-- How many were accepted, the refusal, and what stands behind an outcome. Assumes nothing.
use borrow.Author.Rules.{rules}
use Rattle.script_pattern.proofs.Lines.{written_then}
use Rattle.script_show.specs.Answer.{read_line}
use Rattle.script_show.proofs.lines.read_answer.Goals as goal

pub returns : goal.returns
unfolding read_line
returns c =
    let records = rw c.first.ensures at c.records_behind.ensures in
    let counted = rw c.single.ensures at c.show.ensures in
    let written = written_then counted (written_then c.read_refusal.ensures records) in
    search rules
