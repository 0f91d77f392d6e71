-- The loop's invariant: what puts the rest of the text puts it all. Assumes nothing.
use native.Mathlib.Omega.{arith}
use Rattle.script_pattern.specs.Digits.{escape, escaped}
use Rattle.script_pattern.proofs.Puts.{each_on, each_end}
use Rattle.script_pattern.proofs.Lines.{rest_on, rest_end}
use Rattle.script_pattern.proofs.line.Line.escaped.Goals as goal

pub loop-b-preserved : goal.loop-b-preserved
loop-b-preserved c =
    let l = c.loop-b in
    rest_on l.invariant (each_on escape c.args.s.now l.b-index (omega arith)) c.escape.ensures

pub returns : goal.returns
unfolding escaped
returns c =
    let l = c.loop-b in rest_end l.invariant (each_end escape c.args.s.now l.b-index (omega arith))
