-- 19 leaves all as it was; else the objects of the seat are destroyed, and it goes. Assumes nothing.
use Rattle.answers.proofs.Meetings.{ends}
use mathlib.Core.Path.{refl, sym, ◌∙◌}
use mathlib.Core.List.{[], ◌∷◌}
use native.Mathlib.Omega.{arith}
use Rattle.model.specs.Edit.{Edit}
use Rattle.model_steps.proofs.Counted.{removes-seat}
use Rattle.session.specs.View.{store}
use Rattle.events.proofs.Seen.{seat_objects-seen}
use Rattle.removal.proofs.Retiring.{retired_short, retired_handled}
use Rattle.removal.proofs.remove_seat.Goals as goal

-- 19
pub returns-then-out-seat_objects-clause-step : goal.returns-then-out-seat_objects-clause-step
returns-then-out-seat_objects-clause-step c =
    let a = c.args in
    λ call clock goes texts whole.
    let s = store a.session.now.control.now a.session.now.words.now a.session.now.reals.now texts in
    retired_short s whole a.out.now call clock (Edit.remove_devices_of a.seat ∷ Edit.remove_seat a.seat ∷ [])
    (goes a.session.now.words.now a.session.now.reals.now texts) (seat_objects-seen s a.seat) (removes-seat _ _) c.seat_objects.ensures.0 (omega arith) (refl, refl)

pub retire_seat-requires : goal.retire_seat-requires
retire_seat-requires c =
    omega (arith, c.seat_objects.ensures.0, c.if-out-seat_objects.false)

-- gone
pub returns-clause-step : goal.returns-clause-step
returns-clause-step c =
    let a = c.args in
    λ call clock goes texts whole.
    let s = store a.session.now.control.now a.session.now.words.now a.session.now.reals.now texts in
    retired_handled s whole a.out.now call clock (Edit.remove_devices_of a.seat ∷ Edit.remove_seat a.seat ∷ [])
    (goes a.session.now.words.now a.session.now.reals.now texts) (seat_objects-seen s a.seat) (removes-seat _ _) c.seat_objects.ensures.0 (omega (arith, c.if-out-seat_objects.false))
    c.retire_seat.ensures.step (c.retire_seat.new.session.lent.words_long ∙ sym c.args.session.now.lent.words_long) (c.retire_seat.new.session.lent.reals_long ∙ sym c.args.session.now.lent.reals_long) (ends c.sent.ensures)
