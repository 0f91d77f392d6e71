-- The loop has counted the objects of the devices that it passed. Assumes nothing.
use Rattle.std.proofs.Common.{◌≡◌, ℕ, length, sym, ap, ◌∙◌, arith}
use Rattle.control.specs.Control.{device_count}
use Rattle.events.proofs.Objects.{up_to, up_none, more-length, of_seat, seat_hit, seat_miss, seat-length}
use Rattle.events.proofs.seat_objects.Goals as goal
use Rattle.events.proofs.seat_objects.Goals.{then-device_seat-seat, else-device_seat-seat}

pub loop-k-init : goal.loop-k-init
loop-k-init c =
    let a = c.args in (omega (arith, ap length (up_none (of_seat a.control.now a.seat))), omega arith)

pub loop-k-preserved : goal.loop-k-preserved
loop-k-preserved c =
    let w = c.args.control.now in
    let seat = c.args.seat in
    let o = c.loop-k in
    let more = more-length (of_seat w seat) o.k in
    elim c.if-device_seat-seat.branch [
      | then-device_seat-seat v ↦
          let hit = seat_hit w seat o.k (sym c.device_seat.ensures ∙ v.if-device_seat-seat.true) in (
            omega (arith, more, ap length hit, o.invariant.0, v.total-is, v.device_objects-total.ensures.0),
            omega (arith, o.invariant.1, v.total-is, v.device_objects-total.ensures.1),
          )
      | else-device_seat-seat v ↦
          let miss = seat_miss w seat o.k (λ e. v.if-device_seat-seat.false (c.device_seat.ensures ∙ e)) in
          (omega (arith, more, ap length miss, o.invariant.0, v.total-is), omega (arith, o.invariant.1, v.total-is))
    ]

pub returns : goal.returns
returns c =
    let a = c.args in
    let w = a.control.now in
    let o = c.loop-k in
    let e : o.k ≡ device_count w = omega arith in
    (omega (arith, o.invariant.0, ap (λ (n : ℕ). length (up_to n (of_seat w a.seat))) e, seat-length w a.seat), omega (arith, o.invariant.1))
