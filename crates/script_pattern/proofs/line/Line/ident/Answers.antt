-- `0x`, and the bytes. Assumes nothing.
use Rattle.eiproto.specs.Interface.{ascii}
use Rattle.script_pattern.specs.Digits.{ident}
use Rattle.script_pattern.proofs.Lines.{written_then, written_is}
use Rattle.script_pattern.proofs.Words.{in_sixteen}
use Rattle.script_pattern.proofs.line.Line.ident.Goals as goal

pub returns : goal.returns
unfolding ident ascii
returns c =
    let digits = rw c.to_be_bytes.ensures at c.hexadecimal.ensures in
    written_then c.bytes.ensures (written_is digits (in_sixteen c.args.n))
