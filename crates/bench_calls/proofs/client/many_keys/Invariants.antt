-- A press more in each turn. Assumes nothing.
use Rattle.session.specs.View.{store}
use Rattle.bench_calls.specs.Sent.{Sent, presses}
use Rattle.bench_calls.proofs.client.many_keys.Given as goal

abbrev pub invariant-loop-code : goal.invariant-loop-code
invariant-loop-code l =
    Sent (store l.initial.control l.initial.words l.initial.reals l.initial.texts) (presses l.code) (store l.control l.words l.reals l.texts)
