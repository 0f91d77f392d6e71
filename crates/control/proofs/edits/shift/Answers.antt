-- The values before i are moved. Assumes nothing.
use Rattle.std.proofs.Common.{ℕ, subst, arith}
use Rattle.control.specs.Shift.{value_at, Shifted}
use Rattle.control.proofs.Shifts.{shifted_none, shifted_step}
use Rattle.control.proofs.edits.shift.Goals as goal

pub loop-i-init : goal.loop-i-init
loop-i-init g c d = shifted_none d c.args.a.now c.args.a.now c.args.to c.args.from

pub loop-i-preserved : goal.loop-i-preserved
loop-i-preserved g c d =
    let a = c.args in
    let l = c.loop-i in
    shifted_step d a.a.now l.a a.to a.from l.i c.index-a-from.result c.index-a-from.is (omega arith) (omega arith) (l.invariant d)

pub returns : goal.returns
returns g c d = subst (λ (k : ℕ). Shifted (value_at d c.args.a.now) (value_at d c.loop-i.a) c.args.to c.args.from k) (omega arith) (c.loop-i.invariant d)
