-- The devices before k are passed. Assumes nothing.
use Rattle.texts.proofs.Scans.{Passed}
use Rattle.texts.proofs.live_texts.Given as goal

abbrev pub invariant-loop-k : goal.invariant-loop-k
invariant-loop-k l =
    Passed l.control l.words l.reals l.k l.live
