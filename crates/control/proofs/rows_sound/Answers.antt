-- Low counts are within their limits; the loop passes rows whose test holds. Assumes nothing.
use Rattle.std.proofs.Common.{sym, ◌∙◌, arith, rules}
use borrow.Author.Tests.{not-true}
use Rattle.std.proofs.lemmas.Bool.{not_from_false}
use Rattle.control.proofs.Sounds.{rows_all, rows_unsound}
use Rattle.control.proofs.rows_sound.Goals as goal

pub returns-then-rows_low : goal.returns-then-rows_low
returns-then-rows_low c = sym (rows_all _ _ (c.rows_low.ensures c.if-rows_low.true))

pub returns-then-not-row_sound : goal.returns-then-not-row_sound
returns-then-not-row_sound c = sym (rows_unsound _ _ c.loop-k.k (search rules) (sym c.row_sound.ensures ∙ not-true _ (not_from_false _ c.if-not-row_sound.true)))

pub returns : goal.returns
returns c = sym (rows_all _ _ (λ j l. c.loop-k.invariant j (omega arith)))
