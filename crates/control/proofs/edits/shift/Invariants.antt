-- The values before i are moved. Assumes nothing.
use Rattle.control.specs.Shift.{value_at, Shifted}
use Rattle.control.proofs.edits.shift.Given as goal

abbrev pub invariant-loop-i : goal.invariant-loop-i
invariant-loop-i g l = (d : _) → Shifted (value_at d l.initial.a) (value_at d l.a) l.to l.from l.i
