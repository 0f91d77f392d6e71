-- The events are those written, then those of the bits that are left. Assumes nothing.
use Rattle.events.proofs.Writes.{Partly}
use Rattle.events.proofs.Announced.{announced}
use Rattle.events.proofs.announce_capabilities.Given as goal

abbrev pub invariant-loop-bit : goal.invariant-loop-bit
invariant-loop-bit l =
    Partly l.initial.out l.out l.from l.at (announced l.seat l.capabilities) (announced l.seat l.bit-iterator.0)
