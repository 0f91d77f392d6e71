-- The read so far, record by record, as `reads` has it; what is lent on is the same loan. Assumes nothing.
use Rattle.std.proofs.Common.{◌≡◌, map}
use Rattle.std.specs.Prelude.{None}
use Rattle.session.specs.View.{store}
use Rattle.session.specs.Loan.{SameLoan, store_of}
use Rattle.reads.specs.Record.{entry_of}
use Rattle.reads.proofs.Laws.{SoFar}
use Rattle.lent_read.specs.Numbers.{records_in}
use Rattle.lent_read.proofs.handle_requests.Given as goal

abbrev pub invariant-loop-i : goal.invariant-loop-i
invariant-loop-i l = record {
  so_far : SoFar (store l.fn.control l.fn.words l.fn.reals l.fn.texts) l.fn.out (map (entry_of l.lent) (records_in l.records l.points)) l.clock
      (store_of l.session l.texts) l.out l.sofar;
  goes_on : l.sofar.refusal ≡ None;
  reached : l.sofar.accepted ≡ l.i;
  loan : SameLoan l.initial.session l.session;
}
