-- As the control words have it. Assumes nothing.
use Rattle.session.proofs.Edits.{interface-unlisted}
use Rattle.session.proofs.unlist.Goals as goal

pub returns : goal.returns
returns c =
    let a = c.args in
    interface-unlisted a.bit c.requires.1 c.unlist.ensures
