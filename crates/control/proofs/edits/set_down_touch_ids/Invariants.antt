-- The count, then the ids before j are written. Assumes nothing.
use Rattle.std.proofs.Common.{◌+◌, get_or}
use Rattle.control.specs.Control.{device_place}
use Rattle.control.proofs.Changes.{Wrote}
use Rattle.control.proofs.edits.set_down_touch_ids.Given as goal

abbrev pub invariant-loop-j : goal.invariant-loop-j
invariant-loop-j l = Wrote l.initial.control l.control (device_place l.k + 6) l.j (λ i. get_or l.touches.ids i 0)
