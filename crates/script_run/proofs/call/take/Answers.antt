-- A line whose trail has ended, one that is cut, and each kind of line. Assumes nothing.
use Rattle.std.proofs.Common.{refl, ap, ◌∙◌}
use Rattle.script.specs.declared.line.Line.{Line}
use Rattle.script_run.specs.declared.call.Why.{Why}
use Rattle.script_run.specs.Take.{quiet, no_call}
use Rattle.script_run.proofs.Doings.{never, read_as}
use Rattle.script_run.proofs.call.take.Goals as goal

pub returns-then-run : goal.returns-then-run
returns-then-run c =
    record {
      over = λ h. (c.quiet.ensures, (refl, refl));
      long = λ h k. never h c.if-run.true;
      done = λ h k. never h c.if-run.true;
    }

pub returns-then-cut : goal.returns-then-cut
returns-then-cut c =
    record {
      over = λ h. never c.if-run.false h;
      long = λ h k. (c.no_call.ensures ∙ ap (no_call Why.Long) c.counted-here.ensures, (refl, refl));
      done = λ h k. never k c.if-cut.true;
    }

pub returns-in-Blank : goal.returns-in-Blank
returns-in-Blank c =
    record {
      over = λ h. never c.if-run.false h;
      long = λ h k. never c.if-cut.false k;
      done = λ h k. (Line.Blank, (read_as c.in-Blank.is c.parse.ensures, (c.quiet-in-Blank.ensures ∙ ap quiet c.counted-here.ensures, (refl, refl))));
    }

pub returns-in-Setting : goal.returns-in-Setting
returns-in-Setting c =
    record {
      over = λ h. never c.if-run.false h;
      long = λ h k. never c.if-cut.false k;
      done = λ h k. (_, (read_as c.in-Setting.is c.parse.ensures, rw (c.of_line.ensures, c.counted-here.ensures) at c.call.ensures));
    }

pub returns-in-Call : goal.returns-in-Call
returns-in-Call c =
    record {
      over = λ h. never c.if-run.false h;
      long = λ h k. never c.if-cut.false k;
      done = λ h k. (_, (read_as c.in-Call.is c.parse.ensures, rw (c.of_line-in-Call.ensures, c.counted-here.ensures) at c.call-in-Call.ensures));
    }

pub returns-in-NoCall : goal.returns-in-NoCall
returns-in-NoCall c =
    record {
      over = λ h. never c.if-run.false h;
      long = λ h k. never c.if-cut.false k;
      done = λ h k. (Line.NoCall, (read_as c.in-NoCall.is c.parse.ensures, (c.no_call-in-NoCall.ensures ∙ ap (no_call Why.NoCall) c.counted-here.ensures, (refl, refl))));
    }
