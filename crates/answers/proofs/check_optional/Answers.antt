-- Each answer is what the model tests: 10, then 11. Assumes nothing.
use Rattle.session.specs.Slices.{given}
use mathlib.Core.Path.{sym, ap, ◌∙◌}
use native.Mathlib.Omega.{arith}
use borrow.Author.Tests.{not-true, not-false}
use Rattle.answers.proofs.Checks.{checks_none, checks_utf8, checks_long, checks_fine}
use Rattle.std.proofs.lemmas.Bool.{not_from_false, not_from_true}
use Rattle.answers.proofs.check_optional.Goals as goal

pub returns-in_default : goal.returns-in_default
returns-in_default c = checks_none (ap given c.in_default.is)

pub returns-then-not-valid : goal.returns-then-not-valid
returns-then-not-valid c =
    checks_utf8 c.in-Some.text.now (ap given c.in-Some.is) (sym c.valid.ensures ∙ not-true _ (not_from_false _ c.if-not-valid.true))

pub returns-then-text-gt-NAME_LENGTH_LIMIT : goal.returns-then-text-gt-NAME_LENGTH_LIMIT
returns-then-text-gt-NAME_LENGTH_LIMIT c =
    checks_long c.in-Some.text.now (ap given c.in-Some.is) (sym c.valid.ensures ∙ not-false _ (not_from_true _ c.if-not-valid.false)) (omega arith)

pub returns : goal.returns
returns c =
    checks_fine c.in-Some.text.now (ap given c.in-Some.is) (sym c.valid.ensures ∙ not-false _ (not_from_true _ c.if-not-valid.false)) (omega arith)
