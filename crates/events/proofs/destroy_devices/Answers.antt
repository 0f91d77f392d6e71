-- The loop has written the objects of the devices that it passed. Assumes nothing.
use Rattle.std.proofs.Common.{◌≡◌, length, sym, ap, ◌∙◌, arith}
use Rattle.control.specs.Control.{device_count}
use Rattle.events.proofs.Writes.{destroys-none, destroys_join}
use Rattle.events.proofs.Objects.{up_none, up_more, up_room, of_seat, seat_hit, miss_more, devices_are}
use Rattle.events.proofs.destroy_devices.Goals as goal
use Rattle.events.proofs.destroy_devices.Goals.{then-device_seat-seat, else-device_seat-seat}

pub loop-slot-init : goal.loop-slot-init
loop-slot-init c =
    let a = c.args in rw (up_none (of_seat a.control.now a.seat)) (destroys-none a.out.now a.mark)

pub destroy_device-so_far-requires : goal.destroy_device-so_far-requires
destroy_device-so_far-requires c =
    let a = c.args in
    let w = a.control.now in
    let o = c.loop-slot in
    let hit = seat_hit w a.seat o.slot (sym c.device_seat.ensures ∙ c.if-device_seat-seat.true) in (
      c.requires.0,
      (
        omega (arith, c.requires.0.devices),
        omega (arith, o.auto.out, o.invariant.at, c.requires.1, ap length (devices_are w a.seat), ap length hit, up_room (of_seat w a.seat) o.slot (device_count w) (omega arith)),
      ),
    )

pub loop-slot-preserved : goal.loop-slot-preserved
loop-slot-preserved c =
    let a = c.args in
    let w = a.control.now in
    let o = c.loop-slot in
    elim c.if-device_seat-seat.branch [
      | then-device_seat-seat v ↦
          let hit = seat_hit w a.seat o.slot (sym c.device_seat.ensures ∙ v.if-device_seat-seat.true) in
          let fits = up_room (of_seat w a.seat) o.slot (device_count w) (omega arith) in
          rw (v.out-is, v.so_far-is, up_more (of_seat w a.seat) o.slot, hit)
          (destroys_join (omega (arith, o.invariant.at, c.requires.1, ap length (devices_are w a.seat), ap length hit, fits)) o.invariant v.destroy_device-so_far.ensures)
      | else-device_seat-seat v ↦
          rw (v.out-is, v.so_far-is, miss_more w a.seat o.slot (λ e. v.if-device_seat-seat.false (c.device_seat.ensures ∙ e))) o.invariant
    ]

pub returns : goal.returns
returns c =
    let a = c.args in
    let w = a.control.now in
    let o = c.loop-slot in
    let e : o.slot ≡ device_count w = omega arith in
    rw (devices_are w a.seat, ← e) o.invariant
