-- The loop's invariant: what puts the rest puts it all. Assumes nothing.
use lib.ListN.{drop}
use Rattle.script_pattern.proofs.Lines.{Rest}
use Rattle.script_pattern.proofs.line.Line.bytes.Given as goal

abbrev pub invariant-loop-b : goal.invariant-loop-b
invariant-loop-b l = Rest l.initial.self l.s l.self (drop l.b-index l.s)
