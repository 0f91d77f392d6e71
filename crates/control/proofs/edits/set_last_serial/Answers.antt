-- One word, read again. Assumes nothing.
use Rattle.control.proofs.Changes.{serial-set}
use Rattle.std.proofs.Common.{arith}
use Rattle.control.proofs.edits.set_last_serial.Goals as goal

pub returns : goal.returns
returns c =
    let a = c.args in serial-set a.control.now c.requires a.serial c.from.result (omega arith) c.from.ensures
