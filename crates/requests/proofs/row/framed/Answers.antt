-- The kinds that pass the test are timed, and no others. Assumes nothing.
use borrow.Author.Tests.{not-true, not-false}
use mathlib.Core.Path.{sym, ◌∙◌}
use Rattle.requests.proofs.Cells.{framed_row_lem, lost-row}
use Rattle.std.proofs.lemmas.Bool.{not_from_false, not_from_true}
use Rattle.requests.proofs.row.framed.Goals as goal

pub returns-then-not-is_timed : goal.returns-then-not-is_timed
returns-then-not-is_timed c = let a = c.args in c.scroll_stop.ensures ∙ lost-row a.c a.device a.time (sym c.is_timed.ensures ∙ not-true _ (not_from_false _ c.if-not-is_timed.true))

pub returns : goal.returns
returns c = let a = c.args in framed_row_lem a.c a.device a.time (sym c.is_timed.ensures ∙ not-false _ (not_from_true _ c.if-not-is_timed.false))
