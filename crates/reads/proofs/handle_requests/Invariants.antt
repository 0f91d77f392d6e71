-- The read so far is as `SoFar` says, and each record that was tried was accepted; what is lent on is the same loan. Assumes nothing.
use Rattle.std.proofs.Common.{◌≡◌, map}
use Rattle.std.specs.Prelude.{None}
use Rattle.session.specs.View.{store}
use Rattle.session.specs.Loan.{SameLoan, store_of}
use Rattle.reads.specs.Record.{entry_of}
use Rattle.reads.proofs.Laws.{SoFar}
use Rattle.reads.proofs.handle_requests.Given as goal

abbrev pub invariant-loop-one : goal.invariant-loop-one
invariant-loop-one l = record {
  so_far : SoFar (store l.fn.control l.fn.words l.fn.reals l.fn.texts) l.fn.out (map (entry_of l.lent) l.records) l.clock
      (store_of l.session l.texts) l.out l.sofar;
  goes_on : l.sofar.refusal ≡ None;
  reached : l.sofar.accepted ≡ l.one-index;
  loan : SameLoan l.initial.session l.session;
}
