-- The loop's invariant: what puts the digits of the rest puts those of all. Assumes nothing.
use native.Mathlib.Omega.{arith}
use Rattle.script_pattern.specs.Digits.{pair, hexadecimal}
use Rattle.script_pattern.proofs.Puts.{each_on, each_end}
use Rattle.script_pattern.proofs.Lines.{rest_on, rest_end}
use Rattle.script_pattern.proofs.line.Line.hexadecimal.Goals as goal

pub loop-b-preserved : goal.loop-b-preserved
loop-b-preserved c =
    let l = c.loop-b in
    rest_on l.invariant (each_on pair c.args.s.now l.b-index (omega arith)) c.pair.ensures

pub returns : goal.returns
unfolding hexadecimal
returns c =
    let l = c.loop-b in rest_end l.invariant (each_end pair c.args.s.now l.b-index (omega arith))
