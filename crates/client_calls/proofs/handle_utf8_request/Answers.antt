-- 21, or what the handler promises. Assumes nothing.
use native.Mathlib.Omega.{arith}
use Rattle.session.specs.View.{is_intact}
use Rattle.session.proofs.Views.{whole_parts, lent-part}
use Rattle.answers.proofs.Meetings.{whole-back, unwhole_answered, intact_answered}
use Rattle.client_calls.proofs.Unlent.{no_out}
use Rattle.client_calls.proofs.handle_utf8_request.Goals as goal

pub returns-in_err-check_whole : goal.returns-in_err-check_whole
returns-in_err-check_whole c =
    λ version clock. unwhole_answered c.in_err-check_whole.ensures c.from_residual.ensures.1

pub invariant_of-session : goal.invariant_of-session
invariant_of-session c =
    record { lent = lent-part _ (whole_parts _ c.in_ok-check_whole.ensures) }

pub handle_text_request-requires : goal.handle_text_request-requires
handle_text_request-requires c =
    whole_parts _ c.in_ok-check_whole.ensures

pub returns : goal.returns
unfolding is_intact
returns c =
    λ version clock. whole-back c.handle_text_request.new.session (grind arith) (grind arith) (grind arith)
    (intact_answered c.in_ok-check_whole.ensures (λ _. no_out _ clock c.handle_text_request.auto.out (c.handle_text_request.ensures.step version clock)))
