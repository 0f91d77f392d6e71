-- The texts are the cells of their kind. Assumes nothing.
use borrow.Author.Tests.{eq-eqb, ne_eqb}
use Rattle.requests.specs.Row.{row_of, entry}
use Rattle.requests.proofs.Cells.{kind-text}
use Rattle.requests.proofs.row.slot_of.Goals as goal

pub returns-then-c-eq-TEXT_UTF8 : goal.returns-then-c-eq-TEXT_UTF8
unfolding row_of entry
returns-then-c-eq-TEXT_UTF8 c = rw (kind-text c.args.c, eq-eqb _ _ c.if-c-eq-TEXT_UTF8.true)

pub returns-else-c-eq-TEXT_UTF8 : goal.returns-else-c-eq-TEXT_UTF8
unfolding row_of entry
returns-else-c-eq-TEXT_UTF8 c = rw (kind-text c.args.c, ne_eqb _ _ c.if-c-eq-TEXT_UTF8.false)
