-- The loop's invariant: what puts the rest of the pattern puts it all. Assumes nothing.
use Prim.Native.Nat.{◌≤◌}
use lib.ListN.{drop}
use Rattle.script_pattern.specs.Pattern.{values, patterned}
use Rattle.script_pattern.proofs.Lines.{Rest}
use Rattle.script_pattern.proofs.table.patterned.Given as goal

abbrev pub invariant-loop-c : goal.invariant-loop-c
invariant-loop-c l =
    (l.place ≤ l.c-index) × Rest l.initial.line (patterned l.pattern (values l.s) l.text) l.line (patterned (drop l.c-index l.pattern) (drop l.place (values l.s)) l.text)
