-- A digit is below ten, or a letter. Assumes nothing.
use borrow.Author.Tests.{lt-ltb, le-ltb}
use Rattle.script_pattern.specs.Digits.{digit}
use Rattle.script_pattern.proofs.line.digit.Goals as goal

pub returns-then-n-lt10 : goal.returns-then-n-lt10
unfolding digit
returns-then-n-lt10 c =
    rw (lt-ltb c.args.n 10 c.if-n-lt10.true)

pub returns-else-n-lt10 : goal.returns-else-n-lt10
unfolding digit
returns-else-n-lt10 c =
    rw (le-ltb c.args.n 10 c.if-n-lt10.false)
