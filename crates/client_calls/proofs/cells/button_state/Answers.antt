-- 1 is a press. Assumes nothing.
use borrow.Author.Tests.{eq-eqb, ne_eqb}
use Rattle.client_calls.proofs.cells.button_state.Goals as goal

pub returns-then-n-eq1 : goal.returns-then-n-eq1
returns-then-n-eq1 c = rw (eq-eqb _ _ c.if-n-eq1.true)

pub returns-else-n-eq1 : goal.returns-else-n-eq1
returns-else-n-eq1 c = rw (ne_eqb _ _ c.if-n-eq1.false)
