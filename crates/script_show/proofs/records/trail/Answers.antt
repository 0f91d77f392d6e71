-- Nothing, or a bar and each record. Assumes nothing.
use mathlib.Core.Path.{sym, ◌∙◌}
use borrow.Author.Tests.{eqb-true, eqb-false}
use Rattle.eiproto.specs.Interface.{ascii}
use Rattle.script_pattern.proofs.Lines.{written_then, written_is, written_none}
use Rattle.script_show.proofs.Sizes.{trail-none, trail-some}
use Rattle.script_show.proofs.records.trail.Goals as goal

pub returns-then-not-is_empty : goal.returns-then-not-is_empty
unfolding ascii
returns-then-not-is_empty c =
    let some = eqb-false _ _ (sym c.is_empty.ensures ∙ c.if-not-is_empty.true) in
    written_is (written_then c.bytes.ensures c.each.ensures) (trail-some c.args.bytes.now some)

pub returns-else-not-is_empty : goal.returns-else-not-is_empty
returns-else-not-is_empty c =
    let none = eqb-true _ _ (sym c.is_empty.ensures ∙ c.if-not-is_empty.false) in
    written_is (written_none c.args.line.now) (trail-none c.args.bytes.now none)
