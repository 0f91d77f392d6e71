-- The loop's invariant: what puts the rest of the text puts it all. Assumes nothing.
use lib.ListN.{drop}
use Rattle.script_pattern.specs.Digits.{each, escape}
use Rattle.script_pattern.proofs.Lines.{Rest}
use Rattle.script_pattern.proofs.line.Line.escaped.Given as goal

abbrev pub invariant-loop-b : goal.invariant-loop-b
invariant-loop-b l = Rest l.initial.self (each escape l.s) l.self (each escape (drop l.b-index l.s))
