-- The loop's invariant: what puts the digits of the rest puts those of all. Assumes nothing.
use lib.ListN.{drop}
use Rattle.script_pattern.specs.Digits.{each, pair}
use Rattle.script_pattern.proofs.Lines.{Rest}
use Rattle.script_pattern.proofs.line.Line.hexadecimal.Given as goal

abbrev pub invariant-loop-b : goal.invariant-loop-b
invariant-loop-b l = Rest l.initial.self (each pair l.s) l.self (each pair (drop l.b-index l.s))
