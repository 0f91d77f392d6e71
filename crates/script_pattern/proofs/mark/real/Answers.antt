-- The bits in digits, or `nan`. Assumes nothing.
use native.Mathlib.Omega.{arith}
use borrow.Author.Tests.{lt-ltb, le-ltb}
use Rattle.eiproto.specs.Interface.{ascii}
use Rattle.script_pattern.specs.Words.{real}
use Rattle.script_pattern.proofs.Lines.{written_then, written_is}
use Rattle.script_pattern.proofs.Words.{in_eight}
use Rattle.script_pattern.proofs.mark.real.Goals as goal

pub returns-in-Ok : goal.returns-in-Ok
unfolding real ascii
returns-in-Ok c =
    let small = c.in-Ok.ensures.0 in
    let digits = written_is (rw (c.to_be_bytes.ensures, c.in-Ok.ensures.1) at c.hexadecimal.ensures) (in_eight c.args.n) in
    written_is (written_then c.bytes.ensures digits) (rw (lt-ltb c.args.n 4294967296 small))

pub returns-in-Err : goal.returns-in-Err
unfolding real ascii
returns-in-Err c =
    let large = c.in-Err.ensures in
    written_is c.bytes-in-Err.ensures (rw (le-ltb c.args.n 4294967296 (omega (arith, large))))
