-- Room for all events, then the events, then the edits: the last serial, and every seat taken out. `w` is the place where the seats are
-- destroyed. Assumes nothing.
use Rattle.answers.proofs.Meetings.{ends}
use Prim.Native.Nat.{ℕ, ◌+◌, ◌*◌, ◌≤◌}
use mathlib.Core.Path.{◌≡◌, refl, sym, ap, ◌∙◌}
use mathlib.Core.List.{List}
use native.Mathlib.Omega.{arith}
use lib.ListN.{length}
use Rattle.wire.specs.declared.event.Event.{Event}
use Rattle.wire.specs.Record.{record_length}
use Rattle.model.specs.Edit.{raised}
use Rattle.model.specs.Decide.{seats_objects}
use Rattle.control.specs.Control.{connection_of}
use Rattle.std.specs.Borrow.{Bor}
use Rattle.session.specs.Slices.{given}
use Rattle.session.specs.Loan.{store_of}
use Rattle.session.proofs.Views.{lent-after}
use Rattle.events.specs.Events.{bare_devices}
use Rattle.events.proofs.Writes.{last_is}
use Rattle.connection.proofs.Disconnects.{given_explained, given_text, sample_most, end_fits, disconnected-short, disconnected-done}
use Rattle.connection.proofs.disconnected_at.Goals as goal

-- what goes
abbrev gone : List ℕ → List ℕ
gone control = seats_objects (connection_of control).seats (bare_devices control)

pub overflow_add-gone : goal.overflow_add-gone
overflow_add-gone c =
    omega (arith, c.record_length.ensures, c.seats_objects-gone.ensures.1, sample_most c.is_some-explained.result c.unwrap_or-text.result.now 0 c.number-number.result)

-- 19
pub returns-then-out-gone-clause-step : goal.returns-then-out-gone-clause-step
returns-then-out-gone-clause-step c =
    λ clock texts whole.
    disconnected-short (store_of c.args.session.now texts) whole c.args.out.now clock c.args.reason (given c.args.explanation) c.requires
    _ (c.is_some-explained.ensures ∙ given_explained c.args.explanation) _ (ap (λ (t : Bor (List ℕ)). t.now) c.unwrap_or-text.ensures ∙ given_text c.args.explanation _ refl)
    _ c.number-number.ensures (omega (arith, c.record_length.ensures, c.seats_objects-gone.ensures.0)) (refl, refl)

pub send-count-requires : goal.send-count-requires
send-count-requires c =
    let room_at : 14 * length (gone c.args.session.now.control.now) + record_length (Event.Disconnected 0 c.number-number.result c.is_some-explained.result) c.unwrap_or-text.result.now ≤ length c.args.out.now = omega (arith, c.if-out-gone.false, c.record_length.ensures, c.seats_objects-gone.ensures.0) in
    end_fits c.is_some-explained.result c.unwrap_or-text.result.now _ _ (room_at) (omega (arith, c.destroy_seats-last.ensures.at)) (omega (arith, c.destroy_seats-last.auto.out))

pub invariant_of-session-2 : goal.invariant_of-session-2
invariant_of-session-2 c =
    let last_at : let c₀ = c.args.session.now.control.now in c.destroy_seats-last.result.serial ≡ raised (length (gone c₀)) (connection_of c₀).last_serial = last_is c.destroy_seats-last.ensures c.last_serial.ensures in
    record { lent = lent-after c.args.session.now.lent (c.end_connection.ensures _ (last_at)) }

-- told
pub returns-clause-step : goal.returns-clause-step
returns-clause-step c =
    let room_at : 14 * length (gone c.args.session.now.control.now) + record_length (Event.Disconnected 0 c.number-number.result c.is_some-explained.result) c.unwrap_or-text.result.now ≤ length c.args.out.now = omega (arith, c.if-out-gone.false, c.record_length.ensures, c.seats_objects-gone.ensures.0) in
    let last_at : let c₀ = c.args.session.now.control.now in c.destroy_seats-last.result.serial ≡ raised (length (gone c₀)) (connection_of c₀).last_serial = last_is c.destroy_seats-last.ensures c.last_serial.ensures in
    λ clock texts whole.
    disconnected-done (store_of c.args.session.now texts) whole c.args.out.now clock c.args.reason (given c.args.explanation) c.requires
    _ (c.is_some-explained.ensures ∙ given_explained c.args.explanation) _ (ap (λ (t : Bor (List ℕ)). t.now) c.unwrap_or-text.ensures ∙ given_text c.args.explanation _ refl)
    _ c.number-number.ensures (room_at) c.destroy_seats-last.ensures refl c.last_serial.ensures (omega (arith, c.destroy_seats-last.auto.out))
    c.connection_id-connection.ensures c.send-count.ensures (c.end_connection.ensures _ (last_at)) c.remove_seats.ensures.step
    (c.remove_seats.new.session.lent.words_long ∙ sym c.args.session.now.lent.words_long) (c.remove_seats.new.session.lent.reals_long ∙ sym c.args.session.now.lent.reals_long) (ends c.sent.ensures)
