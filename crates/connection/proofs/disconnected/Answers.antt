-- 21, 10 or 11, then the room. Assumes nothing.
use native.Mathlib.Omega.{arith}
use Rattle.session.specs.Slices.{given}
use Rattle.session.specs.View.{store}
use Rattle.session.proofs.Views.{lent_parts}
use Rattle.answers.proofs.Meetings.{lent-back, handed_on, unlent_answered, lent-answered, refused_is}
use Rattle.connection.proofs.Disconnects.{disconnected-refused}
use Rattle.connection.proofs.disconnected.Goals as goal

pub returns-in_err-check_lent : goal.returns-in_err-check_lent
returns-in_err-check_lent c = λ clock. unlent_answered c.in_err-check_lent.ensures c.from_residual.ensures.1

pub invariant_of-session : goal.invariant_of-session
invariant_of-session c =
    record { lent = lent_parts _ _ _ c.in_ok-check_lent.ensures }

-- 10 or 11
pub returns-in_err-check_optional : goal.returns-in_err-check_optional
returns-in_err-check_optional c =
    λ clock.
    lent-answered c.in_ok-check_lent.ensures
    (λ texts whole.
    disconnected-refused (store c.args.control.now c.args.words.now c.args.reals.now texts) whole c.args.out.now clock c.args.reason (given c.args.explanation)
    _ c.in_err-check_optional.ensures (refused_is (handed_on _ c.from_residual-in_err-check_optional.ensures.1)))

pub returns : goal.returns
returns c =
    λ clock.
    lent-back c.disconnected_at.new.session (grind arith) (grind arith) (grind arith)
    (lent-answered c.in_ok-check_lent.ensures (c.disconnected_at.ensures.step clock))
