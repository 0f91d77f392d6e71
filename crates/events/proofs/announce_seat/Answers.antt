-- Four writers, each where the one before it ended. Assumes nothing.
use Rattle.events.proofs.NewSeat.{seat-room, name-room, capabilities-room, done-room, seat-sends}
use Rattle.events.proofs.announce_seat.Goals as goal

pub send-seat-requires : goal.send-seat-requires
send-seat-requires c = seat-room c.requires _

pub announce_name-named-requires : goal.announce_name-named-requires
announce_name-named-requires c =
    name-room c.requires c.connection_id-connection.ensures c.send-seat.ensures c.send-seat.auto.out

pub announce_capabilities-announced-requires : goal.announce_capabilities-announced-requires
announce_capabilities-announced-requires c =
    capabilities-room c.requires c.connection_id-connection.ensures c.send-seat.ensures c.send-seat.auto.out c.announce_name-named.ensures c.announce_name-named.auto.out

pub send-requires : goal.send-requires
send-requires c =
    done-room c.requires c.connection_id-connection.ensures c.send-seat.ensures c.send-seat.auto.out c.announce_name-named.ensures
    c.announce_name-named.auto.out c.announce_capabilities-announced.ensures c.announce_capabilities-announced.auto.out _

pub returns : goal.returns
returns c =
    seat-sends c.requires c.connection_id-connection.ensures c.send-seat.ensures c.send-seat.auto.out c.announce_name-named.ensures
    c.announce_name-named.auto.out c.announce_capabilities-announced.ensures c.announce_capabilities-announced.auto.out c.send.ensures
