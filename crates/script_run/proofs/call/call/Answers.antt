-- What is lent is the line's text, where it has one. Assumes nothing.
use Rattle.std.proofs.Common.{ap, ◌∙◌, rules}
use Rattle.script_run.specs.Line.{lent_text}
use Rattle.script_run.proofs.Doings.{text-lent, lent_where}
use Rattle.script_run.proofs.call.call.Goals as goal

pub returns : goal.returns
returns c =
    let a = c.args in
    let t = lent_where a.line.now a.args _ c.is_given.ensures (text-lent {m = 32768} (search rules) c.text_into-n.ensures ∙ ap (lent_text a.line.now) c.text_of.ensures) c.then_some-text.ensures in
    rw (t.0, t.1) at c.carry_out.ensures
