-- The loop has written the objects of the seats that it passed. Assumes nothing.
use Rattle.events.specs.Events.{Destroys}
use Rattle.events.proofs.Objects.{up_to, of_place}
use Rattle.events.proofs.destroy_seats.Given as goal

abbrev pub invariant-loop-place : goal.invariant-loop-place
invariant-loop-place l =
    Destroys l.initial.out l.out l.initial.so_far (up_to l.place (of_place l.control)) l.so_far
