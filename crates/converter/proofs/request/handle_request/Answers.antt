-- A damaged session first, then what becomes of the request. Assumes nothing.
use native.Mathlib.Omega.{arith}
use Rattle.session.specs.View.{store, is_intact}
use Rattle.session.proofs.Views.{whole_parts, lent-part}
use Rattle.answers.proofs.Meetings.{whole-back, unwhole_answered, intact_answered}
use Rattle.converter.proofs.request.handle_request.Goals as goal

pub returns-in_err-check_whole : goal.returns-in_err-check_whole
returns-in_err-check_whole c = unwhole_answered c.in_err-check_whole.ensures c.from_residual.ensures.1

pub invariant_of-session : goal.invariant_of-session
invariant_of-session c =
    let a = c.args in
    let s = store a.control.now a.words.now a.reals.now a.texts.now in
    record { lent = lent-part s (whole_parts s c.in_ok-check_whole.ensures) }

pub handle_on-requires : goal.handle_on-requires
handle_on-requires c =
    let a = c.args in
    whole_parts (store a.control.now a.words.now a.reals.now a.texts.now) c.in_ok-check_whole.ensures

pub returns : goal.returns
unfolding is_intact
returns c =
    whole-back c.handle_on.new.session (grind arith) (grind arith) (grind arith)
    (intact_answered c.in_ok-check_whole.ensures (λ whole. c.handle_on.ensures.step))
