-- What is left is a part of the text, and shorter with each line. Assumes nothing.
use Rattle.std.proofs.Common.{◌≤◌, length}
use Rattle.script_cases.proofs.lines.Given as goal

abbrev pub invariant-loop-end : goal.invariant-loop-end
invariant-loop-end g l = length l.rest ≤ length l.text

abbrev pub decreases-loop-end : goal.decreases-loop-end
decreases-loop-end g l = length l.rest
