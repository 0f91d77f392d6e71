-- A line that is cut, and each kind of line. Assumes nothing.
use mathlib.Core.Path.{refl, ap₂, ◌∙◌}
use Rattle.script.specs.declared.line.Line.{Line}
use Rattle.script_record.specs.Record.{record_of}
use Rattle.script_run.proofs.Doings.{never, read_as}
use Rattle.script_record.proofs.record_in.Goals as goal

pub returns-then-cut : goal.returns-then-cut
returns-then-cut c = record { long = λ h. refl; reads = λ h. never h c.if-cut.true }

pub returns-in-Blank : goal.returns-in-Blank
returns-in-Blank c =
    record {
      long = λ h. never c.if-cut.false h;
      reads = λ h. (Line.Blank, (read_as c.in-Blank.is c.parse.ensures, refl));
    }

pub returns-in-Setting : goal.returns-in-Setting
returns-in-Setting c =
    record {
      long = λ h. never c.if-cut.false h;
      reads = λ h. (_, (read_as c.in-Setting.is c.parse.ensures, c.requested.ensures ∙ ap₂ record_of c.of_line.ensures c.part_of.ensures));
    }

pub returns-in-Call : goal.returns-in-Call
returns-in-Call c =
    record {
      long = λ h. never c.if-cut.false h;
      reads = λ h. (_, (read_as c.in-Call.is c.parse.ensures, c.requested-in-Call.ensures ∙ ap₂ record_of c.of_line-in-Call.ensures c.part_of-in-Call.ensures));
    }

pub returns-in-NoCall : goal.returns-in-NoCall
returns-in-NoCall c =
    record {
      long = λ h. never c.if-cut.false h;
      reads = λ h. (Line.NoCall, (read_as c.in-NoCall.is c.parse.ensures, refl));
    }
