-- No string, or one. Assumes nothing.
use native.Mathlib.Omega.{arith}
use mathlib.Core.Path.{sym, ◌∙◌}
use Rattle.message_reader.proofs.Steps.{no_string, some-string}
use Rattle.message_reader.proofs.with_explanation.Goals as goal

pub returns-then-word_at-eq0 : goal.returns-then-word_at-eq0
returns-then-word_at-eq0 c =
    record { is = sym (no_string _ _ (sym c.word_at.ensures ∙ c.if-word_at-eq0.true)); near = omega arith; inside = omega arith }

pub returns : goal.returns
returns c =
    record { is = c.with_text.ensures.is ∙ sym (some-string _ _ (λ z. c.if-word_at-eq0.false (c.word_at.ensures ∙ z))); near = c.with_text.ensures.near; inside = c.with_text.ensures.inside }
