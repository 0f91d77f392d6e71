-- The loop has counted the objects of the devices that it passed. Assumes nothing.
use Rattle.std.proofs.Common.{◌≡◌, ◌+◌, ◌*◌, ◌≤◌, length}
use Rattle.events.proofs.Objects.{up_to, of_seat}
use Rattle.events.proofs.seat_objects.Given as goal

abbrev pub invariant-loop-k : goal.invariant-loop-k
invariant-loop-k l =
    (l.total ≡ length (up_to l.k (of_seat l.control l.seat)) + 1) × (l.total ≤ 8 * l.k + 1)
