-- `none`, or a text. Assumes nothing.
use mathlib.Core.Path.{◌∙◌}
use Rattle.script.proofs.Words.{same_told}
use Rattle.eiproto.specs.Interface.{ascii}
use Rattle.script.specs.Told.{part, value_told}
use Rattle.script.proofs.Values.{is_none, not_none}
use Rattle.script.proofs.value.optional_text.Goals as goal

pub returns-then-eq : goal.returns-then-eq
unfolding ascii value_told
returns-then-eq c =
    let a = c.args in
    is_none (part a.from a.end a.line.now) (same_told (part a.from a.end a.line.now) (ascii "none") _ _ (rw c.as_slice.ensures at c.eq.ensures) c.if-eq.true)

pub returns : goal.returns
unfolding ascii
returns c =
    let a = c.args in
    c.text_in.ensures ∙ not_none (part a.from a.end a.line.now) (same_told (part a.from a.end a.line.now) (ascii "none") _ _ (rw c.as_slice.ensures at c.eq.ensures) c.if-eq.false)
