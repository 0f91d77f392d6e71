-- Asked once more in each turn. Assumes nothing.
use Rattle.std.proofs.Common.{◌≤◌, length}
use Rattle.session.specs.View.{store}
use Rattle.bench_calls.specs.Sent.{Asked}
use Rattle.bench_calls.proofs.client.next_in.Given as goal

abbrev pub invariant-loop-asked : goal.invariant-loop-asked
invariant-loop-asked l =
    (l.given ≤ l._asked) × Asked (length l.initial.buffer) l._asked (store l.initial.control l.words l.reals l.texts) (store l.control l.words l.reals l.texts) l.given
