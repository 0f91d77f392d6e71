-- The ids before j are read. Assumes nothing.
use Rattle.std.proofs.Common.{◌≡◌, ℕ, ◌+◌, ◌%◌, ◌^◌, ◌<◌, ◌≤◌, length, get_or}
use Rattle.touches.specs.Touches.{touches_limit}
use Rattle.control.specs.Control.{device_word}
use Rattle.control.proofs.edits.down_touch_ids.Given as goal

abbrev pub invariant-loop-j : goal.invariant-loop-j
invariant-loop-j l =
    (l.count ≤ touches_limit) × ((length l.ids ≡ touches_limit) × ((i : ℕ) → i < l.j → get_or l.ids i 0 ≡ device_word l.control l.k (6 + i) % 2 ^ 32))
