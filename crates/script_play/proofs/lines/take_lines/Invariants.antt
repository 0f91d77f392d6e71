-- `script_play::lines::take_lines` is safe and ends: what is left is a part of the text, and shorter with each line. Assumes nothing.
use Rattle.std.specs.Prelude.{◌≤◌, length}
use Rattle.script_read.specs.Read.{Fits}
use Rattle.script_play.proofs.lines.take_lines.Given as goal

abbrev pub invariant-loop-end : goal.invariant-loop-end
invariant-loop-end g l =
    (length l.rest ≤ length l.text) × Fits l.play.reading l.memory.records l.memory.points l.memory.lent

abbrev pub decreases-loop-end : goal.decreases-loop-end
decreases-loop-end g l = length l.rest
