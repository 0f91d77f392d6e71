-- What is shown, and the end of the line behind it. Assumes nothing.
use Rattle.script_pattern.proofs.Lines.{written_then}
use Rattle.script_show.proofs.lines.ended.Goals as goal

pub returns : goal.returns
returns c = written_then c.show.ensures c.byte.ensures
