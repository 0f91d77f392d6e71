-- 21's test decides. Assumes nothing.
use mathlib.Core.Path.{◌≡◌, ◌∙◌, ap, refl}
use mathlib.Core.Bool.{Bool}
use Rattle.std.specs.Prelude.{Result, Ok, Err, Option}
use Rattle.std.specs.Result.{result_err}
use Rattle.answers.specs.declared.Error.{Error}
use Rattle.answers.specs.Check.{Tests}
use Rattle.reads.specs.declared.ReadAnswer.{ReadAnswer}
use Rattle.reads.specs.Handed.{opened}
use Rattle.reads.proofs.begin.Goals as goal

tested : (intact : Bool) (r : Result (Unit {0}) Error) → Tests intact r → (let a : ReadAnswer = record { accepted = 0; count = 0; refusal = result_err r } in a) ≡ opened intact
tested intact (Ok u) h = rw h refl
tested intact (Err e) h = rw (h.0, h.1) refl

pub returns : goal.returns
returns c =
    (ap (λ (o : Option Error). (let a : ReadAnswer = record { accepted = 0; count = 0; refusal = o } in a)) c.err.ensures.value ∙ tested _ c.check_whole.result c.check_whole.ensures, refl)
