-- The loop's invariant: what puts the rest puts it all. Assumes nothing.
use native.Mathlib.Omega.{arith}
use lib.ListN.{drop_of_length-le}
use Rattle.script_pattern.proofs.Puts.{drop_on}
use Rattle.script_pattern.proofs.Lines.{rest_on, rest_end}
use Rattle.script_pattern.proofs.line.Line.bytes.Goals as goal

pub loop-b-preserved : goal.loop-b-preserved
loop-b-preserved c =
    let l = c.loop-b in
    rest_on l.invariant (drop_on c.args.s.now l.b-index (omega arith)) c.byte.ensures

pub returns : goal.returns
returns c =
    let l = c.loop-b in rest_end l.invariant (drop_of_length-le c.args.s.now {i = l.b-index} (omega arith))
