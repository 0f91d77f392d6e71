-- The read's answer, with the details of refusal 2, where every record is a request's. Assumes nothing.
use mathlib.Core.Path.{refl, sym, ap, ◌∙◌}
use mathlib.Core.Bool.{false≢true}
use borrow.Author.Tests.{not-true, not-false}
use Rattle.std.specs.Prelude.{Result}
use Rattle.answers.specs.declared.Answer.{Answer}
use Rattle.answers.specs.declared.Error.{Error}
use Rattle.answers.specs.Answer.{outcome_of}
use Rattle.answer_numbers.specs.declared.RefusedVersion.{RefusedVersion}
use Rattle.answer_numbers.specs.Numbers.{status_of, version_in}
use Rattle.std.proofs.lemmas.Bool.{not_from_false, not_from_true}
use Rattle.bozterrun.proofs.read.bozterrun_handle_requests.Goals as goal

pub returns-then-not-are_requests : goal.returns-then-not-are_requests
returns-then-not-are_requests c =
    let fails = sym c.are_requests.ensures ∙ not-true _ (not_from_false _ c.if-not-are_requests.true) in
    record {
      told_read = λ passes. absurd (false≢true (sym fails ∙ passes));
      value = λ _. (refl, (refl, (refl, (refl, (refl, (refl, refl))))));
    }

pub returns : goal.returns
returns c =
    let passes = sym c.are_requests.ensures ∙ not-false _ (not_from_true _ c.if-not-are_requests.false) in
    let version = ap (λ (o : Result Answer Error). version_in (outcome_of o)) c.first_outcome-first.ensures in
    record {
      told_read = λ _. record {
        answer = c.handle_requests-answer.result;
        promised = c.handle_requests-answer.ensures;
        status_is = c.detailed.ensures.status_is ∙ ap status_of c.first_outcome-first.ensures;
        accepted_is = refl;
        count_is = refl;
        interface_is = c.detailed.ensures.details.0 ∙ ap (λ (v : RefusedVersion). v.interface) version;
        version_is = c.detailed.ensures.details.1 ∙ ap (λ (v : RefusedVersion). v.version) version;
      };
      value = λ fails. absurd (false≢true (sym fails ∙ passes));
    }
