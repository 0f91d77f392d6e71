-- The row's kind at the place, if it has one there. Assumes nothing.
use Rattle.std.proofs.Common.{refl}
use Rattle.script.specs.Verbs.{table, row}
use Rattle.script.proofs.Table.{kind_none, kind_some}
use Rattle.script.proofs.verb.kind_at.Goals as goal

pub row-requires : goal.row-requires
unfolding table row
row-requires c = (refl, c.requires)

pub returns-then-kinds-place : goal.returns-then-kinds-place
returns-then-kinds-place c = kind_none c.row.result.now c.args.i c.row.ensures c.args.within c.args.place c.if-kinds-place.true

pub returns : goal.returns
returns c =
    kind_some c.row.result.now c.args.i c.row.ensures c.args.within c.args.place _ c.kind_in.result c.kind_in.ensures c.if-kinds-place.false
