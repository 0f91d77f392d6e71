-- The row's verb. Assumes nothing.
use Rattle.std.proofs.Common.{refl}
use Rattle.script.specs.Verbs.{table, row}
use Rattle.script.proofs.verb.verb_at.Goals as goal

pub row-requires : goal.row-requires
unfolding table row
row-requires c = (refl, c.requires)
