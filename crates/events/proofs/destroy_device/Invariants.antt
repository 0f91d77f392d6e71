-- The objects are those written, then those of the bits that are left, then the device. Assumes nothing.
use Rattle.model.specs.Decide.{objects_of}
use Rattle.control.specs.Control.{core_at}
use Rattle.events.specs.Events.{bare}
use Rattle.events.proofs.Writes.{Going}
use Rattle.events.proofs.Objects.{ids_of}
use Rattle.events.proofs.destroy_device.Given as goal

abbrev pub invariant-loop-bit : goal.invariant-loop-bit
invariant-loop-bit l =
    Going l.initial.out l.out l.initial.so_far l.so_far (objects_of (bare (core_at l.control l.k))) (ids_of l.id l.made l.bit-iterator.0)
