-- One word, read again. Assumes nothing.
use Rattle.control.proofs.Starts.{version-set}
use Rattle.std.proofs.Common.{arith}
use Rattle.control.proofs.edits.set_version.Goals as goal

pub returns : goal.returns
returns c =
    let a = c.args in
    version-set a.control.now c.requires.0 a.place a.version c.from.result c.requires.1 (omega arith) c.from.ensures
