-- The table is that of the definitions. Assumes nothing.
use Rattle.script.proofs.Table.{row_is, row_within}
use Rattle.script.proofs.verb.row.Goals as goal

pub bounds-rows-i : goal.bounds-rows-i
bounds-rows-i c = row_within c.args.rows.now c.args.i c.requires.0 c.requires.1

pub returns : goal.returns
returns c = row_is c.args.rows.now c.args.i _ c.requires.0 c.requires.1
