-- A byte as it is, or a backslash, x and its digits. Assumes nothing.
use mathlib.Core.Path.{sym, ◌∙◌}
use Rattle.eiproto.specs.Interface.{ascii}
use Rattle.script_pattern.specs.Digits.{escape}
use Rattle.script_pattern.proofs.Lines.{written_then, written_is}
use Rattle.script_pattern.proofs.line.Line.escape.Goals as goal

pub returns-then-is_plain : goal.returns-then-is_plain
unfolding escape
returns-then-is_plain c =
    written_is c.byte.ensures (rw (sym c.is_plain.ensures ∙ c.if-is_plain.true))

pub returns : goal.returns
unfolding escape ascii
returns c =
    written_is (written_then c.bytes.ensures c.pair.ensures) (rw (sym c.is_plain.ensures ∙ c.if-is_plain.false))
