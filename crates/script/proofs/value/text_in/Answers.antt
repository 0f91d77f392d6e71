-- The digits behind `t:` are those at the place that the text names. Assumes nothing.
use mathlib.Core.Path.{◌≡◌, sym, ◌∙◌}
use mathlib.Core.Bool.{true}
use borrow.Author.Tests.{not-false}
use Rattle.script.specs.Text.{is_text}
use Rattle.script.specs.Told.{part, value_told}
use Rattle.script.proofs.Texts.{text-long, text-given}
use Rattle.std.proofs.lemmas.Bool.{not_from_true}
use Rattle.script.proofs.value.text_in.Goals as goal

pub overflow_sub-result-2 : goal.overflow_sub-result-2
overflow_sub-result-2 c =
    let a = c.args in
    let t : is_text (part a.from a.end a.line.now) ≡ true = sym c.is_text.ensures ∙ not-false c.is_text.result (not_from_true _ c.if-not-is_text.false) in
    text-long a.line.now a.from a.end c.requires.0 c.requires.1 t

pub returns : goal.returns
unfolding value_told
returns c =
    let a = c.args in
    let t : is_text (part a.from a.end a.line.now) ≡ true = sym c.is_text.ensures ∙ not-false c.is_text.result (not_from_true _ c.if-not-is_text.false) in
    text-given a.line.now a.from a.end c.requires.0 c.requires.1 t
