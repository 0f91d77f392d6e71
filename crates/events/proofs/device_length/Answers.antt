-- The bytes of each event, added up. Assumes nothing.
use Rattle.std.proofs.Common.{arith}
use Rattle.session.specs.Slices.{given}
use Rattle.events.proofs.Announced.{interfaces-length}
use Rattle.events.proofs.NewDevice.{device-bytes}
use Rattle.events.proofs.device_length.Goals as goal

pub returns : goal.returns
returns c =
    λ k seat kind made.
    omega (arith, interfaces-length k c.args.new.id c.args.new.capabilities made, c.name_length.ensures.0 c.args.new.id, c.fixed_length-device.ensures, c.fixed_length-kind.ensures, c.count.ensures, c.fixed_length-done.ensures, device-bytes k seat c.args.new.id c.args.new.version (given c.args.new.name) kind c.args.new.capabilities)
