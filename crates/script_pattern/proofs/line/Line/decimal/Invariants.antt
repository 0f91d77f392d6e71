-- The loop's invariant: the number is what is left of it, with the digits behind it that are made. Assumes nothing.
use mathlib.Core.Path.{◌≡◌}
use mathlib.Core.List.{◌++◌}
use lib.ListN.{length, drop}
use Rattle.script_pattern.specs.Digits.{decimal_in, decimal}
use Rattle.script_pattern.proofs.line.Line.decimal.Given as goal

abbrev pub invariant-loop-i : goal.invariant-loop-i
invariant-loop-i l =
    (l.self ≡ l.initial.self) × (length l.digits ≡ 20) × (decimal l.n ≡ decimal_in l.i l.v ++ drop l.i l.digits)
