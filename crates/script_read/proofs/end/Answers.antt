-- Where the trail has ended, where no read is open, and inside of one. Assumes nothing.
use mathlib.Core.Path.{sym, ap, ◌∙◌}
use Rattle.script_run.specs.declared.call.Why.{Why}
use Rattle.script_run.specs.Take.{no_call}
use Rattle.script_read.proofs.Gathering.{closing-ended, closing-none, closing-within}
use Rattle.script_read.proofs.end.Goals as goal

pub returns-then-run : goal.returns-then-run
returns-then-run c = let a = c.args in c.quiet.ensures ∙ sym (closing-ended a.run a.reading c.if-run.true)

pub returns-then-reading-eq0 : goal.returns-then-reading-eq0
returns-then-reading-eq0 c = let a = c.args in c.quiet-then-reading-eq0.ensures ∙ sym (closing-none a.run a.reading c.if-run.false c.if-reading-eq0.true)

pub returns : goal.returns
returns c =
    let a = c.args in
    c.no_call.ensures ∙ ap (no_call Why.Within) c.counted.ensures ∙ sym (closing-within a.run a.reading c.if-run.false c.if-reading-eq0.false)
