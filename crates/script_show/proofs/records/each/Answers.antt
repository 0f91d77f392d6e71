-- What puts the rest of the records puts them all. Assumes nothing.
use Rattle.script_pattern.proofs.Lines.{rest_on, rest_end}
use Rattle.script_show.specs.Records.{record_bytes}
use Rattle.script_show.proofs.Sizes.{begun, each-none}
use Rattle.script_show.proofs.records.each.Goals as goal

pub loop-event-preserved : goal.loop-event-preserved
loop-event-preserved c =
    let l = c.loop-event in
    let s = c.in-Some.ensures.steps in
    let f = record_bytes c.args.words in
    rw s.1 (rest_on l.invariant (begun f l.event-iterator.0.now s.2) (rw s.0 at c.tell.ensures))

pub returns : goal.returns
returns c =
    let l = c.loop-event in
    rest_end l.invariant (each-none (record_bytes c.args.words) l.event-iterator.0.now c.in-None.ensures.steps.0)
