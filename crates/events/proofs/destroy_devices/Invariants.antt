-- The loop has written the objects of the devices that it passed. Assumes nothing.
use Rattle.events.specs.Events.{Destroys}
use Rattle.events.proofs.Objects.{up_to, of_seat}
use Rattle.events.proofs.destroy_devices.Given as goal

abbrev pub invariant-loop-slot : goal.invariant-loop-slot
invariant-loop-slot l =
    Destroys l.initial.out l.out l.initial.so_far (up_to l.slot (of_seat l.control l.seat)) l.so_far
