-- The serial is set, and then a word of the connection. Assumes nothing.
use Rattle.session.proofs.Edits.{serial-raised, connection-ended}
use Rattle.session.proofs.Views.{enacted_join}
use Rattle.session.proofs.end_connection.Goals as goal

pub returns : goal.returns
returns c n h words reals texts load =
    enacted_join (serial-raised c.set_last_serial.ensures n h words reals texts load)
    (connection-ended c.end_connection.ensures words reals texts load)
