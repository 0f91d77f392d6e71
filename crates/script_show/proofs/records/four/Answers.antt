-- The bytes one behind the other. Assumes nothing.
use native.Mathlib.Omega.{arith}
use Rattle.script_show.specs.Records.{four}
use Rattle.script_show.proofs.records.four.Goals as goal

pub returns : goal.returns
unfolding four
returns c =
    rw (← c.byte_at.ensures, ← c.byte_at-2.ensures, ← c.byte_at-3.ensures, ← c.byte_at-4.ensures) (omega (arith, c.from_be_bytes.ensures))
