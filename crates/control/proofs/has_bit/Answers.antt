-- No bit stands past 64 bits. Assumes nothing.
use Rattle.std.proofs.Common.{sym, ◌∙◌, arith, le-ltb}
use Rattle.control.proofs.Interfaces.{bit_past}
use Rattle.control.proofs.has_bit.Goals as goal

pub returns-else-place-lt64 : goal.returns-else-place-lt64
returns-else-place-lt64 c = le-ltb _ 64 c.if-place-lt64.false ∙ sym (bit_past c.args.place c.args.mask (omega arith) (omega arith))
