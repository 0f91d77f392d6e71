-- What is begun has room in the line, and what was not written again begins no later than the next character.
use Rattle.std.proofs.Common.{length, ◌≤◌}
use Rattle.utf8_cases.proofs.lines.Given as goal

abbrev pub invariant-loop-at : goal.invariant-loop-at
invariant-loop-at g l = (l.from ≤ l.at) × (l.begun ≤ length l.line)
