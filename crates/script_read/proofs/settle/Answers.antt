-- The last record has come, or more are to come. Assumes nothing.
use mathlib.Core.Path.{refl, ap₂}
use Rattle.script_run.specs.declared.call.Told.{Told}
use Rattle.script_read.specs.declared.Reading.{Reading}
use Rattle.script_read.specs.Read.{taken}
use Rattle.script_read.proofs.settle.Goals as goal

pub returns-then-reading-eq0 : goal.returns-then-reading-eq0
returns-then-reading-eq0 c =
    record {
      last = λ h. record {
        answer = c.hand_over-a.result;
        meets = c.hand_over-a.ensures;
        told = ap₂ (λ (t : Told) (g : Reading). taken (record { run = c.args.run; told = t }) g) c.handed.ensures c.none.ensures;
      };
      waits = λ h. absurd (h c.if-reading-eq0.true);
    }

pub returns : goal.returns
returns c = record { last = λ h. absurd (c.if-reading-eq0.false h); waits = λ h. (refl, (refl, refl)) }
