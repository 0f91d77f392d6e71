-- The record stands behind those before it. Assumes nothing.
use mathlib.Core.Path.{refl}
use native.Mathlib.Omega.{arith}
use Rattle.script_read.proofs.Gathering.{joins}
use borrow.Author.Rules.{rules}
use Rattle.script_read.proofs.put.Goals as goal

pub returns : goal.returns
returns c =
    (refl, joins c.args.reading c.args.records.now _ c.args.points.now _ (omega (arith, c.requires)) (search rules) (search rules) c.put_record.ensures)
