-- The call's answer, as numbers, where the type's number is a case. Assumes nothing.
use mathlib.Core.Path.{refl, sym, ◌∙◌}
use native.Mathlib.Omega.{arith}
use Rattle.bozterrun.proofs.Cases.{type, one_case, not_none}
use Rattle.bozterrun.proofs.station.bozterrun_add_device.Goals as goal

pub returns-then-given-gt1 : goal.returns-then-given-gt1
returns-then-given-gt1 c =
    record {
      gave = λ k low. absurd (omega arith);
      value = λ high. (refl, (refl, (refl, (refl, refl))));
      by_index = λ n invalid. (refl, (refl, (refl, (refl, refl))));
    }

pub returns-in_default : goal.returns-in_default
returns-in_default c =
    let told = sym c.try_from.ensures ∙ c.in_default.is in
    record {
      gave = λ k low known. absurd (not_none type (sym known ∙ told) refl refl);
      value = λ high. (refl, (refl, (refl, (refl, refl))));
      by_index = λ n invalid. (refl, (refl, (refl, (refl, refl))));
    }

pub returns : goal.returns
returns c =
    let told = sym c.try_from.ensures ∙ c.in-Ok.is in
    record {
      gave = λ k low known. record { answer = c.add_device-answer.result; promised = rw (one_case type (sym known ∙ told) refl refl) (rw c.if_given-name.ensures at c.add_device-answer.ensures); status_is = c.gave.ensures.status_is; rest = (c.gave.ensures.count_is, c.gave.ensures.id_is) };
      value = λ high. absurd (omega arith);
      by_index = λ n invalid. absurd (not_none type (sym told ∙ invalid) refl refl);
    }
