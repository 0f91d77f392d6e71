-- The limits in turn, then the plan carried out. Assumes nothing.
use Prim.Native.Nat.{◌+◌, ◌≤◌, ◌<◌}
use mathlib.Core.Path.{◌≡◌, refl, sym, ap, ◌∙◌}
use native.Mathlib.Omega.{arith}
use Rattle.eiproto.specs.Bits.{common}
use Rattle.eiproto.proofs.Bits.{common-le}
use Rattle.wire.proofs.Ids.{ids-left, ids_spent_lem}
use Rattle.model.specs.Decide.{negotiated_capabilities, seat_version}
use Rattle.control.specs.Control.{seat_count, connection_of}
use Rattle.session.specs.View.{store}
use Rattle.session.specs.Slices.{given}
use Rattle.connection.proofs.Seats.{seat_full, seat_spent, seat-short, seat-done}
use Rattle.connection.proofs.add_seat_at.Goals as goal

-- 14
pub returns-then-seat_count-ge-SEATS_LIMIT : goal.returns-then-seat_count-ge-SEATS_LIMIT
returns-then-seat_count-ge-SEATS_LIMIT c =
    let n = connection_of c.args.control.now in
    λ clock words reals texts whole.
    seat_full (store c.args.control.now words reals texts) whole c.args.out.now clock (given c.args.name) c.args.capabilities c.requires
    n.next_id (seat_version n) (common c.args.capabilities (negotiated_capabilities n)) refl refl refl (omega (arith, c.seat_count.ensures)) (refl, refl)

-- 20
pub returns-in_default : goal.returns-in_default
returns-in_default c =
    let fewer_at : seat_count c.args.control.now < 4 = omega (arith, c.seat_count.ensures, c.if-seat_count-ge-SEATS_LIMIT.false) in
    let n = connection_of c.args.control.now in
    λ clock words reals texts whole.
    seat_spent (store c.args.control.now words reals texts) whole c.args.out.now clock (given c.args.name) c.args.capabilities c.requires
    _ (seat_version n) (common c.args.capabilities (negotiated_capabilities n)) c.next_id-id.ensures refl refl (fewer_at)
    (ids_spent_lem _ 1 (sym c.new_objects.ensures ∙ c.in_default.is)) (refl, refl)

-- 19
pub returns-then-out-seat_length : goal.returns-then-out-seat_length
returns-then-out-seat_length c =
    let fewer_at : seat_count c.args.control.now < 4 = omega (arith, c.seat_count.ensures, c.if-seat_count-ge-SEATS_LIMIT.false) in
    let left_at : c.next_id-id.result + 1 ≤ 0xffff_ffff_ffff_ffff = ids-left _ 1 (sym c.new_objects.ensures ∙ c.in-Some.is) in
    let cut_at : let a = c.args in c.common-set.result ≡ common a.capabilities (negotiated_capabilities (connection_of a.control.now)) = c.common-set.ensures ∙ ap (common c.args.capabilities) c.negotiated_capabilities-negotiated.ensures in
    λ clock words reals texts whole.
    seat-short (store c.args.control.now words reals texts) whole c.args.out.now clock (given c.args.name) c.args.capabilities c.requires
    _ _ _ c.next_id-id.ensures c.seat_version-version.ensures (cut_at) (fewer_at) (left_at)
    (omega (arith, c.seat_length.ensures (connection_of c.args.control.now))) (refl, refl)

pub announce_seat-count-requires : goal.announce_seat-count-requires
announce_seat-count-requires c =
    record { sound = c.requires.sound; room = omega (arith, c.seat_length.ensures (connection_of c.args.control.now), c.if-out-seat_length.false) }

pub add_seat-requires : goal.add_seat-requires
add_seat-requires c =
    let fewer_at : seat_count c.args.control.now < 4 = omega (arith, c.seat_count.ensures, c.if-seat_count-ge-SEATS_LIMIT.false) in
    let left_at : c.next_id-id.result + 1 ≤ 0xffff_ffff_ffff_ffff = ids-left _ 1 (sym c.new_objects.ensures ∙ c.in-Some.is) in
    let cut_at : let a = c.args in c.common-set.result ≡ common a.capabilities (negotiated_capabilities (connection_of a.control.now)) = c.common-set.ensures ∙ ap (common c.args.capabilities) c.negotiated_capabilities-negotiated.ensures in
    let small_at : c.common-set.result < 128 = let a = c.args in
    let known = c.requires.known in
    omega (arith, cut_at, common-le a.capabilities (negotiated_capabilities (connection_of a.control.now)) (omega arith)) in
    (c.requires.sound, (fewer_at, (small_at, omega (arith, left_at, c.next_id-id.ensures))))

-- announced
pub returns : goal.returns
returns c =
    let fewer_at : seat_count c.args.control.now < 4 = omega (arith, c.seat_count.ensures, c.if-seat_count-ge-SEATS_LIMIT.false) in
    let left_at : c.next_id-id.result + 1 ≤ 0xffff_ffff_ffff_ffff = ids-left _ 1 (sym c.new_objects.ensures ∙ c.in-Some.is) in
    let cut_at : let a = c.args in c.common-set.result ≡ common a.capabilities (negotiated_capabilities (connection_of a.control.now)) = c.common-set.ensures ∙ ap (common c.args.capabilities) c.negotiated_capabilities-negotiated.ensures in
    λ clock words reals texts whole.
    seat-done (store c.args.control.now words reals texts) whole c.args.out.now clock (given c.args.name) c.args.capabilities c.requires
    _ _ _ c.next_id-id.ensures c.seat_version-version.ensures (cut_at) (fewer_at) (left_at) c.add_seat.ensures
    (omega (arith, c.seat_length.ensures (connection_of c.args.control.now), c.if-out-seat_length.false)) c.announce_seat-count.ensures
