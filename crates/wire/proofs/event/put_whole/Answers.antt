-- `wire::event::put_whole` meets its contract: the tests by differences are the definition's test by a sum. Assumes nothing.
use native.Mathlib.Omega.{arith}
use Rattle.wire.proofs.Records.{whole-none, whole_all}
use Rattle.wire.proofs.event.put_whole.Goals.{then-out-at-via-then-out-at, then-out-at-via-else-out-at+then-out-at-2}
use Rattle.wire.proofs.event.put_whole.Goals as goal

pub returns : goal.returns
returns c =
    let a = c.args in
    whole_all a.object a.f c.fixed.ensures c.put_start-behind.ensures c.put_text.ensures (omega arith)

pub returns-then-out-at : goal.returns-then-out-at
returns-then-out-at c =
    let a = c.args in
    whole-none a.out.now a.at a.object a.f a.text.now
    (elim c.then-out-at.branch [ then-out-at-via-then-out-at w ↦ omega arith | then-out-at-via-else-out-at+then-out-at-2 w ↦ omega (arith, c.fixed.ensures) ])
