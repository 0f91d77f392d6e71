-- The loop has counted the objects of the seats that it passed. Assumes nothing.
use Rattle.std.proofs.Common.{◌≡◌, ◌*◌, ◌≤◌, length}
use Rattle.events.proofs.Objects.{up_to, of_place}
use Rattle.events.proofs.seats_objects.Given as goal

abbrev pub invariant-loop-place : goal.invariant-loop-place
invariant-loop-place l =
    (l.total ≡ length (up_to l.place (of_place l.control))) × (l.total ≤ 65 * l.place)
