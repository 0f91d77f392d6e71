-- The call's answer, as numbers, where the mask is a capability's. Assumes nothing.
use mathlib.Core.Path.{refl, sym, ◌∙◌}
use Rattle.bozterrun.proofs.Cases.{capability, one_case, not_none}
use Rattle.bozterrun.proofs.station.bozterrun_has_capability.Goals as goal

pub returns-in_default : goal.returns-in_default
returns-in_default c =
    let told = sym c.from_mask.ensures ∙ c.in_default.is in
    record {
      valued = λ k known. absurd (not_none capability (sym known ∙ told) refl refl);
      value = λ unknown. (refl, refl);
    }

pub returns : goal.returns
returns c =
    let told = sym c.from_mask.ensures ∙ c.in-Some.is in
    record {
      valued = λ k known. record { answer = c.has_capability-answer.result; promised = rw (one_case capability (sym known ∙ told) refl refl) c.has_capability-answer.ensures; status_is = c.valued.ensures.status_is; rest = c.valued.ensures.value_is };
      value = λ unknown. absurd (not_none capability (sym told ∙ unknown) refl refl);
    }
