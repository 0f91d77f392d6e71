-- The versions before `place` are set. Assumes nothing.
use Rattle.converter.proofs.Begun.{Beginning}
use Rattle.converter.proofs.request.new.Given as goal

abbrev pub invariant-loop-place : goal.invariant-loop-place
invariant-loop-place l =
    Beginning l.control l.fn.response l.place
