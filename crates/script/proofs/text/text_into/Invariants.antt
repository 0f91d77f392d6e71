-- The loop's invariant: the first i bytes of the text stand at the start. Assumes nothing.
use mathlib.Core.Path.{◌≡◌}
use lib.ListN.{length}
use lib.Seq.{paste}
use Rattle.script.specs.Text.{text_bytes}
use Rattle.script.proofs.text.text_into.Given as goal

abbrev pub invariant-loop-i : goal.invariant-loop-i
invariant-loop-i l =
    (length l.out ≡ length l.initial.out) × (l.out ≡ paste l.initial.out 0 (text_bytes l.line l.t) l.i)
