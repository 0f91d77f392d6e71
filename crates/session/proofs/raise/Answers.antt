-- The serial is set, and the raise of the model says the same number. Assumes nothing.
use Rattle.session.proofs.Edits.{serial-raised}
use Rattle.session.proofs.raise.Goals as goal

pub returns : goal.returns
returns c =
    serial-raised c.set_last_serial.ensures
