-- The limits in turn, then the plan carried out. Assumes nothing.
use Prim.Native.Nat.{ℕ, ◌+◌, ◌≤◌, ◌<◌}
use mathlib.Core.Path.{◌≡◌, refl, sym, ◌∙◌}
use mathlib.Core.List.{[]}
use native.Mathlib.Omega.{arith}
use lib.ListN.{length}
use Rattle.eiproto.specs.Bits.{bits_of}
use Rattle.eiproto.specs.Enum.{device_type_number}
use Rattle.wire.proofs.Ids.{ids-left, ids_spent_lem}
use Rattle.model.specs.Plan.{records}
use Rattle.model.specs.Decide.{device_version, device_events}
use Rattle.control.specs.Control.{device_count, connection_of}
use Rattle.session.specs.View.{store}
use Rattle.session.specs.Slices.{given}
use Rattle.session.proofs.Views.{seat_bound}
use Rattle.seat.specs.Seat.{made_with}
use Rattle.seat.proofs.Added.{made-small, made-part, added_full, added_spent, added-short, added-done}
use Rattle.seat.proofs.add_device_at.Goals as goal

-- 15
pub returns-then-device_count-ge-DEVICES_LIMIT : goal.returns-then-device_count-ge-DEVICES_LIMIT
returns-then-device_count-ge-DEVICES_LIMIT c =
    let n = connection_of c.args.control.now in
    λ clock words reals texts whole.
    added_full (store c.args.control.now words reals texts) whole c.args.out.now clock c.args.seat (given c.args.name) c.args.kind c.args.capabilities c.requires
    (made_with c.args.control.now c.args.k c.args.capabilities) n.next_id (device_version n) (device_type_number c.args.kind) refl refl refl refl
    (omega (arith, c.device_count.ensures, c.if-device_count-ge-DEVICES_LIMIT.true)) (refl, refl)

pub made_with-made-requires : goal.made_with-made-requires
made_with-made-requires c =
    let a = c.args in
    (c.requires.sound.long, omega (arith, seat_bound (store a.control.now [] [] []) a.seat c.requires.found, c.requires.sound.seats))

-- 20
pub returns-in_default : goal.returns-in_default
returns-in_default c =
    let fewer_at : device_count c.args.control.now < 8 = omega (arith, c.device_count.ensures, c.if-device_count-ge-DEVICES_LIMIT.false) in
    λ clock words reals texts whole.
    added_spent (store c.args.control.now words reals texts) whole c.args.out.now clock c.args.seat (given c.args.name) c.args.kind c.args.capabilities c.requires
    _ _ _ _ c.made_with-made.ensures c.next_id-id.ensures refl refl (fewer_at)
    (omega (arith, ids_spent_lem _ _ (sym c.new_objects.ensures ∙ c.in_default.is), c.count.ensures)) (refl, refl)

-- 19
pub returns-then-out-device_length : goal.returns-then-out-device_length
returns-then-out-device_length c =
    let fewer_at : device_count c.args.control.now < 8 = omega (arith, c.device_count.ensures, c.if-device_count-ge-DEVICES_LIMIT.false) in
    let left_at : c.next_id-id.result + 1 + length (bits_of c.made_with-made.result) ≤ 0xffff_ffff_ffff_ffff = omega (arith, ids-left _ _ (sym c.new_objects.ensures ∙ c.in-Some.is), c.count.ensures) in
    let bytes_at : (kind : ℕ) → c.device_length.result ≡ length (records (device_events (connection_of c.args.control.now) c.args.seat c.next_id-id.result c.device_version-version.result (given c.args.name) kind c.made_with-made.result)) = λ kind. let a = c.args in
    c.device_length.ensures (connection_of a.control.now) a.seat kind (made-part a.control.now a.k a.capabilities c.made_with-made.ensures) in
    λ clock words reals texts whole.
    added-short (store c.args.control.now words reals texts) whole c.args.out.now clock c.args.seat (given c.args.name) c.args.kind c.args.capabilities c.requires
    _ _ _ _ c.made_with-made.ensures c.next_id-id.ensures c.device_version-version.ensures refl (fewer_at) (left_at)
    (omega (arith, bytes_at (device_type_number c.args.kind), c.if-out-device_length.true)) (refl, refl)

pub announce_device-count-requires : goal.announce_device-count-requires
announce_device-count-requires c =
    let left_at : c.next_id-id.result + 1 + length (bits_of c.made_with-made.result) ≤ 0xffff_ffff_ffff_ffff = omega (arith, ids-left _ _ (sym c.new_objects.ensures ∙ c.in-Some.is), c.count.ensures) in
    let bytes_at : (kind : ℕ) → c.device_length.result ≡ length (records (device_events (connection_of c.args.control.now) c.args.seat c.next_id-id.result c.device_version-version.result (given c.args.name) kind c.made_with-made.result)) = λ kind. let a = c.args in
    c.device_length.ensures (connection_of a.control.now) a.seat kind (made-part a.control.now a.k a.capabilities c.made_with-made.ensures) in
    record { sound = c.requires.sound; ids = left_at; room = omega (arith, bytes_at c.number-number.result, c.if-out-device_length.false) }

pub add_device-requires : goal.add_device-requires
add_device-requires c =
    let fewer_at : device_count c.args.control.now < 8 = omega (arith, c.device_count.ensures, c.if-device_count-ge-DEVICES_LIMIT.false) in
    let small_at : c.made_with-made.result < 128 = let a = c.args in
    made-small a.control.now a.k a.capabilities c.requires.known c.made_with-made.ensures in
    let left_at : c.next_id-id.result + 1 + length (bits_of c.made_with-made.result) ≤ 0xffff_ffff_ffff_ffff = omega (arith, ids-left _ _ (sym c.new_objects.ensures ∙ c.in-Some.is), c.count.ensures) in
    (c.requires.sound, (fewer_at, (small_at, omega (arith, left_at, c.next_id-id.ensures))))

-- announced
pub returns : goal.returns
returns c =
    let fewer_at : device_count c.args.control.now < 8 = omega (arith, c.device_count.ensures, c.if-device_count-ge-DEVICES_LIMIT.false) in
    let left_at : c.next_id-id.result + 1 + length (bits_of c.made_with-made.result) ≤ 0xffff_ffff_ffff_ffff = omega (arith, ids-left _ _ (sym c.new_objects.ensures ∙ c.in-Some.is), c.count.ensures) in
    let bytes_at : (kind : ℕ) → c.device_length.result ≡ length (records (device_events (connection_of c.args.control.now) c.args.seat c.next_id-id.result c.device_version-version.result (given c.args.name) kind c.made_with-made.result)) = λ kind. let a = c.args in
    c.device_length.ensures (connection_of a.control.now) a.seat kind (made-part a.control.now a.k a.capabilities c.made_with-made.ensures) in
    λ clock words reals texts whole.
    added-done (store c.args.control.now words reals texts) whole c.args.out.now clock c.args.seat (given c.args.name) c.args.kind c.args.capabilities c.requires
    _ _ _ _ c.made_with-made.ensures c.next_id-id.ensures c.device_version-version.ensures c.number-number.ensures (fewer_at) (left_at) c.add_device.ensures
    (omega (arith, bytes_at c.number-number.result, c.if-out-device_length.false)) c.announce_device-count.ensures
