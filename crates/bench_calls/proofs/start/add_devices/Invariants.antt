-- A device more in each turn. Assumes nothing.
use Rattle.bench_calls.specs.Begun.{Added}
use Rattle.bench_calls.proofs.start.add_devices.Given as goal

abbrev pub invariant-loop-added : goal.invariant-loop-added
invariant-loop-added l =
    Added l.capabilities l._added l.initial.control l.control
