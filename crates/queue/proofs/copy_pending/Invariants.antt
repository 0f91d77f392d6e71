-- The first j rows are copied. Assumes nothing.
use Rattle.std.proofs.Common.{◌≡◌, length}
use Rattle.requests.specs.Row.{row_at}
use Rattle.queue.specs.Queue.{Copied}
use Rattle.queue.proofs.copy_pending.Given as goal

abbrev pub invariant-loop-j : goal.invariant-loop-j
invariant-loop-j l =
    (length l.words ≡ length l.initial.words) × ((length l.reals ≡ length l.initial.reals) × Copied (row_at l.initial.words l.initial.reals) (row_at l.words l.reals) l.k l.j l.ring.head l.ring.length l.device l.time)
