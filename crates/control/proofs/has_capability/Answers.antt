-- An interface is listed for each bit of the mask. Assumes nothing.
use Rattle.std.proofs.Common.{sym, ap, ◌∙◌}
use Rattle.eiproto.specs.Bits.{bit}
use Rattle.control.proofs.Interfaces.{core-lists}
use Rattle.control.proofs.has_capability.Goals as goal

pub returns : goal.returns
returns c =
    let a = c.args in
    c.has_bit.ensures ∙ ap (bit a.bit) c.device_listed.ensures ∙ sym (core-lists a.control.now a.k a.bit)
