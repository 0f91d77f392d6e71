-- Five writers, each where the one before it ended. Assumes nothing.
use Rattle.events.proofs.NewDevice.{device-room, name-room, type-room, interfaces-room, done-room, device-sends}
use Rattle.events.proofs.announce_device.Goals as goal

pub send-device-requires : goal.send-device-requires
send-device-requires c = device-room c.requires _

pub announce_name-named-requires : goal.announce_name-named-requires
announce_name-named-requires c =
    name-room c.requires c.send-device.ensures c.send-device.auto.out

pub send-typed-requires : goal.send-typed-requires
send-typed-requires c =
    type-room c.requires c.send-device.ensures c.send-device.auto.out c.announce_name-named.ensures c.announce_name-named.auto.out _

pub announce_interfaces-listed-requires : goal.announce_interfaces-listed-requires
announce_interfaces-listed-requires c =
    interfaces-room c.requires c.send-device.ensures c.send-device.auto.out c.announce_name-named.ensures c.announce_name-named.auto.out
    c.send-typed.ensures c.send-typed.auto.out

pub send-requires : goal.send-requires
send-requires c =
    done-room c.requires c.send-device.ensures c.send-device.auto.out c.announce_name-named.ensures c.announce_name-named.auto.out
    c.send-typed.ensures c.send-typed.auto.out c.announce_interfaces-listed.ensures c.announce_interfaces-listed.auto.out _

pub returns : goal.returns
returns c =
    device-sends c.requires c.send-device.ensures c.send-device.auto.out c.announce_name-named.ensures c.announce_name-named.auto.out
    c.send-typed.ensures c.send-typed.auto.out c.announce_interfaces-listed.ensures c.announce_interfaces-listed.auto.out c.send.ensures
