-- 21, or what the handler promises. Assumes nothing.
use mathlib.Core.List.{[]}
use native.Mathlib.Omega.{arith}
use Rattle.session.proofs.Views.{lent_parts}
use Rattle.answers.proofs.Meetings.{lent-back, unlent_answered, lent-answered}
use Rattle.client_calls.proofs.queue_for_interface.Goals as goal

pub returns-in_err-check_lent : goal.returns-in_err-check_lent
returns-in_err-check_lent c =
    λ version i only waits clock. unlent_answered c.in_err-check_lent.ensures c.from_residual.ensures.1

pub invariant_of-session : goal.invariant_of-session
invariant_of-session c =
    record { lent = lent_parts _ _ _ c.in_ok-check_lent.ensures }

pub returns : goal.returns
returns c =
    λ version i only waits clock. lent-back c.queue_for_interface.new.session (grind arith) (grind arith) (grind arith) (lent-answered c.in_ok-check_lent.ensures (c.queue_for_interface.ensures.step version clock i only waits []))
