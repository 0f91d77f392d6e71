-- `script_play::lines::read_all` ends with its turns, and what is filled stays within the buffer. Assumes nothing.
use Rattle.std.specs.Prelude.{◌≤◌, ◌≡◌, length}
use Rattle.script_read.specs.Read.{Fits}
use Rattle.script_play.proofs.lines.read_all.Given as goal

abbrev pub invariant-loop : goal.invariant-loop
invariant-loop g l =
    (l.kept.filled ≤ length l.buf) × (length l.buf ≡ length l.initial.buf) × Fits l.kept.play.reading l.memory.records l.memory.points l.memory.lent
