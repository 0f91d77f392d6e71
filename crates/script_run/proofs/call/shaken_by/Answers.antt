-- The run is that of any answer of the handshake. Assumes nothing.
use Rattle.script_run.proofs.call.shaken_by.Goals as goal

pub returns : goal.returns
returns c = rw (c.told_by.ensures, c.shaken.ensures)
