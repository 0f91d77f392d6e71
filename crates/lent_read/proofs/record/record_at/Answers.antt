-- What was read means the record. Assumes nothing.
use mathlib.Core.Path.{ap, ◌∙◌}
use Rattle.lent_read.specs.Numbers.{record_of, record_at}
use Rattle.lent_read.proofs.record.record_at.Goals as goal

pub returns : goal.returns
unfolding record_at
returns c = c.record_of.ensures ∙ ap record_of c.cell_at.ensures
