-- The call's reply, as a number, where the type's number is a case. Assumes nothing.
use mathlib.Core.Path.{refl, sym, ◌∙◌}
use Rattle.bozterrun.proofs.Cases.{context, one_case, not_none}
use Rattle.bozterrun.proofs.handshakes.bozterrun_handshake_context_type.Goals as goal

pub returns-in_default : goal.returns-in_default
returns-in_default c =
    let told = sym c.try_from.ensures ∙ c.in_default.is in
    record {
      says = λ k known. absurd (not_none context (sym known ∙ told) refl refl);
      by_index = λ n invalid. (refl, (refl, refl));
    }

pub returns : goal.returns
returns c =
    let told = sym c.try_from.ensures ∙ c.in-Ok.is in
    record {
      says = λ k known. rw (one_case context (sym known ∙ told) refl refl) c.message.ensures;
      by_index = λ n invalid. absurd (not_none context (sym told ∙ invalid) refl refl);
    }
