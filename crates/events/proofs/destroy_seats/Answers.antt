-- The loop has written the objects of the seats that it passed. Assumes nothing.
use Rattle.std.proofs.Common.{◌≡◌, length, ap, arith}
use Rattle.control.specs.Control.{seat_count}
use Rattle.events.proofs.Writes.{destroys-none, destroys_join}
use Rattle.events.proofs.Objects.{up_none, up_more, up_room, of_place, place_is, seats_are_up}
use Rattle.events.proofs.destroy_seats.Goals as goal

pub loop-place-init : goal.loop-place-init
loop-place-init c =
    let a = c.args in rw (up_none (of_place a.control.now)) (destroys-none a.out.now a.mark)

pub destroy_seat-so_far-requires : goal.destroy_seat-so_far-requires
destroy_seat-so_far-requires c =
    let w = c.args.control.now in
    let o = c.loop-place in (
      c.requires.0,
      omega (arith, o.auto.out, o.invariant.at, c.requires.1, ap length (seats_are_up w), ap length (place_is w o.place _ c.seat_id.ensures), up_room (of_place w) o.place (seat_count w) (omega arith)),
    )

pub loop-place-preserved : goal.loop-place-preserved
loop-place-preserved c =
    let w = c.args.control.now in
    let o = c.loop-place in
    let is = place_is w o.place _ c.seat_id.ensures in
    let fits = up_room (of_place w) o.place (seat_count w) (omega arith) in
    rw (up_more (of_place w) o.place, ← is)
    (destroys_join (omega (arith, o.invariant.at, c.requires.1, ap length (seats_are_up w), ap length is, fits)) o.invariant c.destroy_seat-so_far.ensures)

pub returns : goal.returns
returns c =
    let w = c.args.control.now in
    let o = c.loop-place in
    let e : o.place ≡ seat_count w = omega arith in
    rw (seats_are_up w, ← e) o.invariant
