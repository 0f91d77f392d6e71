-- One for each interface that is listed, and the device. Assumes nothing.
use Rattle.std.proofs.Common.{arith}
use Rattle.control.proofs.Interfaces.{listed_small}
use Rattle.events.proofs.Objects.{objects-length, bits_most}
use Rattle.events.proofs.device_objects.Goals as goal

pub returns : goal.returns
returns c =
    let a = c.args in
    let few = bits_most c.device_listed.result (omega (arith, c.device_listed.ensures, listed_small a.control.now a.k)) in
    (omega (arith, c.count.ensures, objects-length a.control.now a.k c.device_listed.ensures), omega (arith, c.count.ensures, few))
