-- What is filled lies in the buffer, which keeps its length. Assumes nothing.
use Rattle.std.proofs.Common.{◌≡◌, ◌≤◌, length}
use Rattle.script_cases.proofs.read_all.Given as goal

abbrev pub invariant-loop : goal.invariant-loop
invariant-loop g l =
    (l.kept.filled ≤ length l.buf) × (length l.buf ≡ length l.initial.buf)
