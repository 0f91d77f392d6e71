-- 21 and 12 leave all as it was; else the seat goes as one that stands. Assumes nothing.
use Rattle.answers.specs.Answer.{error_of}
use mathlib.Core.Path.{◌≡◌, sym, ap, ◌∙◌, refl}
use mathlib.Core.Option.{some}
use native.Mathlib.Omega.{arith}
use lib.Dec.{eqb}
use Rattle.model.specs.Call.{Plain}
use Rattle.control.specs.Table.{first}
use Rattle.control.specs.Control.{connection_of}
use Rattle.eiproto.specs.Told.{told}
use Rattle.session.specs.View.{store}
use Rattle.session.proofs.Views.{lent_parts}
use Rattle.answers.specs.declared.Error.{Error}
use Rattle.answers.proofs.Meetings.{lent-back, unlent_answered, lent-answered, told-handled}
use Rattle.seat.proofs.Removed.{seat_unknown, seat_plan_lem}
use Rattle.seat.proofs.remove_seat.Goals as goal

pub returns-in_err-check_lent : goal.returns-in_err-check_lent
returns-in_err-check_lent c = λ clock. unlent_answered c.in_err-check_lent.ensures c.from_residual.ensures.1

pub find_seat-requires : goal.find_seat-requires
find_seat-requires c =
    (lent_parts _ _ _ c.in_ok-check_lent.ensures).sound

pub invariant_of-session : goal.invariant_of-session
invariant_of-session c =
    record { lent = lent_parts _ _ _ c.in_ok-check_lent.ensures }

-- 19, or gone
pub returns : goal.returns
returns c =
    let found_at : let a = c.args in first (λ t. eqb t.id a.seat) (connection_of a.control.now).seats ≡ some c.in-Some.field-0 = sym c.find_seat.ensures ∙ ap told c.in-Some.is in
    let a = c.args in
    λ clock.
    lent-back c.remove_seat.new.session (grind arith) (grind arith) (grind arith)
    (lent-answered c.in_ok-check_lent.ensures
    (c.remove_seat.ensures.step (Plain.remove_seat a.seat) clock (λ w r t. seat_plan_lem (store a.control.now w r t) a.seat clock (found_at))))

-- 12
pub returns-in_default : goal.returns-in_default
returns-in_default c =
    let a = c.args in
    λ clock.
    lent-answered c.in_ok-check_lent.ensures
    (λ texts whole.
    let s = store a.control.now a.words.now a.reals.now texts in
    told-handled s a.out.now (Plain.remove_seat a.seat) clock (error_of Error.UnknownHandle) _ whole
    (seat_unknown s a.seat clock (sym c.find_seat.ensures ∙ ap told c.in_default.is)) (refl, refl))
