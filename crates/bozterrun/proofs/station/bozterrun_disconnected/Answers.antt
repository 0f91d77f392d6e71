-- The call's answer, as numbers, where the reason's number is a case. Assumes nothing.
use mathlib.Core.Path.{refl, sym, ◌∙◌}
use native.Mathlib.Omega.{arith}
use Rattle.bozterrun.proofs.Cases.{reason, one_case, not_none}
use Rattle.bozterrun.proofs.station.bozterrun_disconnected.Goals as goal

pub returns-then-given-gt1 : goal.returns-then-given-gt1
returns-then-given-gt1 c =
    record {
      sent = λ d low. absurd (omega arith);
      value = λ high. (refl, (refl, (refl, refl)));
      by_index = λ n invalid. (refl, (refl, (refl, refl)));
    }

pub returns-in_default : goal.returns-in_default
returns-in_default c =
    let told = sym c.try_from.ensures ∙ c.in_default.is in
    record {
      sent = λ d low known. absurd (not_none reason (sym known ∙ told) refl refl);
      value = λ high. (refl, (refl, (refl, refl)));
      by_index = λ n invalid. (refl, (refl, (refl, refl)));
    }

pub returns : goal.returns
returns c =
    let told = sym c.try_from.ensures ∙ c.in-Ok.is in
    record {
      sent = λ d low known. record { answer = c.disconnected-answer.result; promised = rw (one_case reason (sym known ∙ told) refl refl) (rw c.if_given-explanation.ensures at c.disconnected-answer.ensures); status_is = c.sent.ensures.status_is; rest = c.sent.ensures.count_is };
      value = λ high. absurd (omega arith);
      by_index = λ n invalid. absurd (not_none reason (sym told ∙ invalid) refl refl);
    }
