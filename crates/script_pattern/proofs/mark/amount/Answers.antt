-- The number, behind a sign where it is below 0. Assumes nothing.
use borrow.Author.Tests.{lt-ltb, le-ltb}
use Rattle.script_pattern.specs.Words.{amount}
use Rattle.script_pattern.proofs.Lines.{written_then, written_is}
use Rattle.script_pattern.proofs.mark.amount.Goals as goal

pub returns-then-n-lt4294967296 : goal.returns-then-n-lt4294967296
unfolding amount
returns-then-n-lt4294967296 c =
    written_is c.decimal.ensures (rw (lt-ltb c.args.n 4294967296 c.if-n-lt4294967296.true))

pub returns-else-n-lt4294967296 : goal.returns-else-n-lt4294967296
unfolding amount
returns-else-n-lt4294967296 c =
    written_is (written_then c.byte.ensures c.decimal-else-n-lt4294967296.ensures) (rw (le-ltb c.args.n 4294967296 c.if-n-lt4294967296.false))
