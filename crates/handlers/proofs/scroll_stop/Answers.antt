-- What waits is ScrollCancel where `is_cancel` is not 0. Assumes nothing.
use mathlib.Core.Path.{refl}
use native.Mathlib.Omega.{arith}
use borrow.Author.Tests.{eq-eqb, ne_eqb}
use Rattle.handlers.proofs.Timed.{stop-waits, cancel-waits}
use Rattle.handlers.proofs.scroll_stop.Goals as goal

pub returns-then-is_cancel-ne0 : goal.returns-then-is_cancel-ne0
returns-then-is_cancel-ne0 c =
    let a = c.args in
    λ texts. cancel-waits a.x a.y a.is_cancel refl refl texts c.scroll_cancel.ensures (ne_eqb a.is_cancel 0 (λ z. omega arith))

pub returns-else-is_cancel-ne0 : goal.returns-else-is_cancel-ne0
returns-else-is_cancel-ne0 c =
    let a = c.args in
    λ texts. stop-waits a.x a.y a.is_cancel refl refl texts c.scroll_stop.ensures (eq-eqb a.is_cancel 0 (omega arith))
