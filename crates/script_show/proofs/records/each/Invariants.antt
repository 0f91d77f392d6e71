-- What puts the rest of the records puts them all. Assumes nothing.
use Rattle.script_pattern.proofs.Lines.{Rest}
use Rattle.script_show.specs.Records.{each_record, record_bytes}
use Rattle.script_show.proofs.records.each.Given as goal

abbrev pub invariant-loop-event : goal.invariant-loop-event
invariant-loop-event l =
    Rest l.initial.line (each_record (record_bytes l.words) l.bytes) l.line (each_record (record_bytes l.words) l.event-iterator.0.now)
