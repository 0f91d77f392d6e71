-- What is begun has room in the line.
use Rattle.std.proofs.Common.{length, ◌≤◌}
use Rattle.utf8_cases.proofs.read_all.Given as goal

abbrev pub invariant-loop : goal.invariant-loop
invariant-loop g l = l.n ≤ length l.line
