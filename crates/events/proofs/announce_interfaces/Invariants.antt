-- The events are those written, then those of the bits that are left, with the ids from here on. Assumes nothing.
use Rattle.std.proofs.Common.{◌+◌, ◌≤◌, length}
use Rattle.eiproto.specs.Bits.{bits_of}
use Rattle.model.specs.Edit.{new_interfaces}
use Rattle.model.specs.Decide.{interface_events}
use Rattle.control.specs.Control.{connection_of}
use Rattle.events.proofs.Writes.{Partly}
use Rattle.events.proofs.Announced.{coming}
use Rattle.events.proofs.announce_interfaces.Given as goal

abbrev pub invariant-loop-bit : goal.invariant-loop-bit
invariant-loop-bit l =
    (l.id + length (bits_of l.bit-iterator.0) ≤ 0xffff_ffff_ffff_ffff)
    × Partly l.initial.out l.out l.from l.at (interface_events (connection_of l.control) l.device (new_interfaces l.device l.capabilities)) (coming (connection_of l.control) l.device l.id l.bit-iterator.0)
