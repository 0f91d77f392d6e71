-- A device more in each turn. Assumes nothing.
use Rattle.std.proofs.Common.{ℕ, subst, arith}
use Rattle.bench_calls.specs.Begun.{Added}
use Rattle.bench_calls.proofs.start.add_devices.Goals as goal

pub loop-added-init : goal.loop-added-init
loop-added-init c = Added.nothing

pub loop-added-preserved : goal.loop-added-preserved
loop-added-preserved c = Added.added c.loop-added.invariant c.add_device.ensures

pub returns : goal.returns
returns c = subst (λ (n : ℕ). Added c.args.capabilities n c.args.control.now c.loop-added.control) (omega arith) c.loop-added.invariant
