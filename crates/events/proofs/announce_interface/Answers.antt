-- One event, or none, by what the lookup says. Assumes nothing.
use Rattle.std.proofs.Common.{◌≡◌, sym, ap, ◌∙◌}
use mathlib.Core.Option.{some}
use Rattle.model.specs.Decide.{version}
use Rattle.eiproto.specs.Told.{told}
use Rattle.control.specs.Control.{connection_of}
use Rattle.events.proofs.Writes.{sends_none}
use Rattle.events.proofs.Announced.{offer-some, offer-none, offer-room}
use Rattle.events.proofs.announce_interface.Goals as goal

pub send-requires : goal.send-requires
send-requires c =
    let told_at : some c.in-Some.version ≡ version (connection_of c.args.control.now) c.interface_of_bit-interface.result = ap told (sym c.in-Some.is) ∙ c.version.ensures in
    let a = c.args in
    offer-room (connection_of a.control.now) a.device a.bit a.id c.interface_of_bit-interface.ensures _ a.at _ _ (told_at) c.requires.1

pub returns : goal.returns
returns c =
    let told_at : some c.in-Some.version ≡ version (connection_of c.args.control.now) c.interface_of_bit-interface.result = ap told (sym c.in-Some.is) ∙ c.version.ensures in
    let a = c.args in
    rw (offer-some (connection_of a.control.now) a.device a.bit a.id c.interface_of_bit-interface.ensures (told_at)) c.send.ensures

pub returns-in_default : goal.returns-in_default
returns-in_default c =
    let a = c.args in
    rw (offer-none (connection_of a.control.now) a.device a.bit a.id c.interface_of_bit-interface.ensures (ap told (sym c.in_default.is) ∙ c.version.ensures))
    (sends_none a.out.now a.at)
