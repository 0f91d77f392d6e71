-- The loop has counted the objects of the seats that it passed. Assumes nothing.
use Rattle.std.proofs.Common.{◌≡◌, ℕ, length, ap, arith}
use Rattle.control.specs.Control.{seat_count}
use Rattle.events.proofs.Objects.{up_to, up_none, more-length, of_place, place_is, seats_are_up}
use Rattle.events.proofs.seats_objects.Goals as goal

pub loop-place-init : goal.loop-place-init
loop-place-init c =
    (omega (arith, ap length (up_none (of_place c.args.control.now))), omega arith)

pub loop-place-preserved : goal.loop-place-preserved
loop-place-preserved c =
    let w = c.args.control.now in
    let o = c.loop-place in (
      omega (arith, o.invariant.0, c.seat_objects-total.ensures.0, ap length (place_is w o.place _ c.seat_id.ensures), more-length (of_place w) o.place),
      omega (arith, o.invariant.1, c.seat_objects-total.ensures.1),
    )

pub returns : goal.returns
returns c =
    let w = c.args.control.now in
    let o = c.loop-place in
    let e : o.place ≡ seat_count w = omega arith in
    (omega (arith, o.invariant.0, ap (λ (n : ℕ). length (up_to n (of_place w))) e, ap length (seats_are_up w)), omega (arith, o.invariant.1))
