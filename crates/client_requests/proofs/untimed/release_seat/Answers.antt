-- A seat that stands goes as at the station's removal; for another nothing is done. Assumes nothing.
use Rattle.answers.proofs.Meetings.{ends}
use mathlib.Core.Path.{sym, ap, ◌∙◌}
use Rattle.model.specs.Call.{Plain, Call}
use Rattle.eiproto.specs.Told.{told}
use Rattle.session.specs.View.{store}
use Rattle.client_requests.proofs.Handling.{handled-answer, seat_unknown, seat_plan_lem}
use Rattle.client_requests.proofs.untimed.release_seat.Goals as goal

-- it stands
pub returns-clause-step : goal.returns-clause-step
returns-clause-step c =
    let a = c.args in
    λ clock.
    c.remove_seat.ensures.step (Plain.seat_release a.seat) clock
    (λ w r t. seat_plan_lem (store a.session.now.control.now w r t) a.seat clock (sym c.find_seat.ensures ∙ ap told c.in-Some.is))

-- it does not
pub returns-in_default-clause-step : goal.returns-in_default-clause-step
returns-in_default-clause-step c =
    let a = c.args in
    λ clock texts whole.
    let s = store a.session.now.control.now a.session.now.words.now a.session.now.reals.now texts in
    handled-answer s a.out.now (Call.plain (Plain.seat_release a.seat)) clock _ whole
    (seat_unknown s a.seat clock (sym c.find_seat.ensures ∙ ap told c.in_default.is)) (ends c.accepted.ensures)
