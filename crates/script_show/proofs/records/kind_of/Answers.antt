-- The upper five bits, if there is such a kind. Assumes nothing.
use Prim.Native.Nat.{◌/◌}
use native.Mathlib.Omega.{arith}
use borrow.Author.Tests.{lt-ltb, le-ltb}
use Rattle.script_show.specs.Records.{kind_of}
use Rattle.script_show.proofs.records.kind_of.Goals as goal

pub returns-then-kind-lt19 : goal.returns-then-kind-lt19
unfolding kind_of
returns-then-kind-lt19 c =
    let b = c.byte_at-kind.result in (rw (← c.byte_at-kind.ensures, lt-ltb (b / 8) 19 c.if-kind-lt19.true), c.if-kind-lt19.true)

pub returns-else-kind-lt19 : goal.returns-else-kind-lt19
unfolding kind_of
returns-else-kind-lt19 c =
    let b = c.byte_at-kind.result in (rw (← c.byte_at-kind.ensures, le-ltb (b / 8) 19 c.if-kind-lt19.false), omega arith)
