-- 21, or what the handler promises. Assumes nothing.
use native.Mathlib.Omega.{arith}
use Rattle.session.proofs.Views.{lent_parts}
use Rattle.answers.proofs.Meetings.{lent-back, unlent_answered, lent-answered}
use Rattle.client_calls.proofs.Unlent.{no_out}
use Rattle.client_calls.proofs.handle_touchscreen_request.Goals as goal

pub returns-in_err-check_lent : goal.returns-in_err-check_lent
returns-in_err-check_lent c =
    λ clock. unlent_answered c.in_err-check_lent.ensures c.from_residual.ensures.1

pub invariant_of-session : goal.invariant_of-session
invariant_of-session c =
    record { lent = lent_parts _ _ _ c.in_ok-check_lent.ensures }

pub returns : goal.returns
returns c =
    λ clock. lent-back c.handle_touchscreen_request.new.session (grind arith) (grind arith) (grind arith) (lent-answered c.in_ok-check_lent.ensures (λ texts whole. no_out _ clock c.handle_touchscreen_request.auto.out (c.handle_touchscreen_request.ensures.step clock texts whole)))
