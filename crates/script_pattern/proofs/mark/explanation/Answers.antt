-- The text in quotation marks, or nothing. Assumes nothing.
use borrow.Author.Tests.{lt-ltb, le-ltb}
use Rattle.eiproto.specs.Interface.{ascii}
use Rattle.script_pattern.specs.Words.{explanation}
use Rattle.script_pattern.proofs.Lines.{written_then, written_is, written_none}
use Rattle.script_pattern.proofs.mark.explanation.Goals as goal

pub returns-then-n-gt127 : goal.returns-then-n-gt127
unfolding explanation ascii
returns-then-n-gt127 c =
    written_is (written_then c.bytes.ensures (written_then c.escaped.ensures c.byte.ensures)) (rw (lt-ltb 127 c.args.n c.if-n-gt127.true))

pub returns-else-n-gt127 : goal.returns-else-n-gt127
unfolding explanation
returns-else-n-gt127 c =
    let a = c.args in written_is (written_none a.line.now) (rw (le-ltb 127 a.n c.if-n-gt127.false))
