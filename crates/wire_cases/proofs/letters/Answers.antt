-- The loop's invariant: the text keeps its length. Assumes nothing.
use mathlib.Core.Path.{sym}
use lib.ListN.{length-set}
use Rattle.wire_cases.proofs.letters.Goals as goal

pub loop-i-preserved : goal.loop-i-preserved
loop-i-preserved c = simp length-set c.loop-i.invariant

pub returns : goal.returns
returns c = sym c.loop-i.invariant
