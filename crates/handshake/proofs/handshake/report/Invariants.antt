-- `handshake::handshake::report` meets its contract. The loop's invariant: the report of the rows passed stands at the start of the buffer. Assumes nothing.
use lib.ListN.{take}
use Rattle.wire.specs.Put.{Wrote}
use Rattle.handshake.specs.Handshake.{report}
use Rattle.handshake.specs.View.{versions_of}
use Rattle.handshake.proofs.handshake.report.Given as goal

abbrev pub invariant-loop-i : goal.invariant-loop-i
invariant-loop-i l =
    Wrote l.initial.out l.out 0 l.at (report 1 (take l.i (versions_of l.fn.interfaces))) l.at
