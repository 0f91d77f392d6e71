-- A blank line, a record, and a line that is none. Assumes nothing.
use mathlib.Core.Path.{refl, sym, ap, ap₂, ◌∙◌, subst}
use Rattle.script_run.specs.declared.call.Took.{Took}
use Rattle.script_record.specs.declared.Record.{Record}
use Rattle.std.specs.Prelude.{Option, Some, None, Result, Ok}
use Rattle.script_run.specs.declared.call.Why.{Why}
use Rattle.script_run.specs.Take.{quiet, no_call}
use Rattle.script_record.specs.Record.{Records}
use Rattle.script_read.specs.declared.Reading.{Reading}
use Rattle.script_read.specs.Read.{taken, Fits}
use Rattle.script_read.proofs.Gathering.{no_read-fits, settled-fits, onward-fits, record_does}
use Rattle.script_read.proofs.go_on.Goals as goal

pub put-next-requires : goal.put-next-requires
put-next-requires c = (c.requires.0, c.requires.1.room)

pub settle-requires : goal.settle-requires
settle-requires c =
    onward-fits c.put-next.ensures.0 c.requires.0 c.requires.1 c.records-1.given c.points-1.given

pub returns-in-Ok-None : goal.returns-in-Ok-None
returns-in-Ok-None c =
    record {
      is = Ok None;
      reads = subst (λ (x : Result (Option Record) Why). Records c.args.line.now c.args.cut x) (c.in-Ok-None.is ∙ ap Ok c.in-Ok-None.field-0-is) c.record_in.ensures;
      does = (ap (λ (t : Took). taken t c.args.reading) (c.quiet.ensures ∙ ap quiet c.counted-here.ensures), (refl, (refl, (refl, refl))));
      fits = c.requires.1;
    }

pub returns-in-Ok-Some : goal.returns-in-Ok-Some
returns-in-Ok-Some c =
    record {
      is = Ok (Some c.in-Ok-Some.one);
      reads = subst (λ (x : Result (Option Record) Why). Records c.args.line.now c.args.cut x) (c.in-Ok-Some.is ∙ ap Ok c.in-Ok-Some.field-0-is) c.record_in.ensures;
      does = record_does c.args.run c.args.reading c.args.records.now _ c.args.points.now _ c.args.lent.now c.counted-here.ensures c.put-next.ensures.0 c.record_of.ensures c.put-next.ensures.1 c.settle.ensures;
      fits = settled-fits (onward-fits c.put-next.ensures.0 c.requires.0 c.requires.1 c.records-1.given c.points-1.given) c.settle.ensures;
    }

pub returns-in-Err : goal.returns-in-Err
returns-in-Err c =
    record {
      is = _;
      reads = subst (λ (x : Result (Option Record) Why). Records c.args.line.now c.args.cut x) c.in-Err.is c.record_in.ensures;
      does = (ap₂ taken (c.no_call.ensures ∙ ap (no_call _) c.counted-here.ensures) c.none.ensures, (refl, refl));
      fits = subst (λ (g : Reading). Fits g c.args.records.now c.args.points.now c.args.lent.now) (sym c.none.ensures) (no_read-fits c.args.records.now c.args.points.now c.args.lent.now);
    }
