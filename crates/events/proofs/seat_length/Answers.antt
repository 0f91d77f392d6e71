-- The bytes of each event, added up. Assumes nothing.
use Rattle.std.proofs.Common.{arith}
use Rattle.eiproto.specs.Bits.{bits_of}
use Rattle.session.specs.Slices.{given}
use Rattle.events.proofs.Announced.{capabilities-length}
use Rattle.events.proofs.NewSeat.{seat-bytes}
use Rattle.events.proofs.seat_length.Goals as goal

pub returns : goal.returns
returns c =
    λ k.
    omega (arith, c.name_length.ensures.0 c.args.new.id, c.fixed_length-seat.ensures, c.count.ensures, c.fixed_length-done.ensures, capabilities-length c.args.new.id (bits_of c.args.new.capabilities), seat-bytes k c.args.new.id c.args.new.version (given c.args.new.name) c.args.new.capabilities)
