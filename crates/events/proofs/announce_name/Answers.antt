-- One event, or none. Assumes nothing.
use Rattle.std.proofs.Common.{ap, arith}
use Rattle.session.specs.Slices.{given}
use Rattle.events.proofs.Writes.{sends_none}
use Rattle.events.proofs.Named.{name-none, name-given, given-length}
use Rattle.events.proofs.announce_name.Goals as goal

pub send-requires : goal.send-requires
send-requires c =
    omega (arith, c.requires, given-length c.args.object c.in-Some.name.now (ap given c.in-Some.is))

pub returns-in-Some : goal.returns-in-Some
returns-in-Some c =
    rw (name-given c.args.object c.in-Some.name.now (ap given c.in-Some.is)) c.send.ensures

pub returns-in-None : goal.returns-in-None
returns-in-None c =
    rw (name-none c.args.object (ap given c.in-None.is)) (sends_none c.args.out.now c.args.at)
