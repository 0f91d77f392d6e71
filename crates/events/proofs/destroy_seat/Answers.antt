-- The devices, then the seat. Assumes nothing.
use Rattle.std.proofs.Common.{arith}
use Rattle.events.specs.Events.{bare_devices}
use Rattle.events.proofs.Writes.{destroys_join}
use Rattle.events.proofs.Objects.{seat_is, seat-more}
use Rattle.events.proofs.destroy_seat.Goals as goal

pub destroy_devices-after_devices-requires : goal.destroy_devices-after_devices-requires
destroy_devices-after_devices-requires c =
    let a = c.args in
    (c.requires.0, omega (arith, c.requires.1, seat-more a.seat (bare_devices a.control.now)))

pub destroy-requires : goal.destroy-requires
destroy-requires c =
    let a = c.args in
    omega (arith, c.requires.1, c.destroy_devices-after_devices.auto.out, c.destroy_devices-after_devices.ensures.at, seat-more a.seat (bare_devices a.control.now))

pub returns : goal.returns
returns c =
    let a = c.args in
    rw (seat_is a.seat (bare_devices a.control.now))
    (destroys_join (omega (arith, c.requires.1, c.destroy_devices-after_devices.ensures.at, seat-more a.seat (bare_devices a.control.now))) c.destroy_devices-after_devices.ensures c.destroy.ensures)
