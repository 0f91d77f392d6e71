-- The pattern of the number, with its values. Assumes nothing.
use Rattle.std.proofs.Common.{refl, ap}
use Rattle.eiproto.specs.Interface.{ascii}
use Rattle.script_pattern.specs.Pattern.{patterns, patterned, bytes_of, values}
use Rattle.script_pattern.proofs.Lines.{written_is}
use Rattle.script_pattern.proofs.table.show.Goals as goal

pub pattern_at-requires : goal.pattern_at-requires
unfolding patterns ascii
pattern_at-requires c = refl

pub returns : goal.returns
unfolding bytes_of
returns c = let a = c.args in written_is c.patterned.ensures (ap (λ p. patterned p (values a.s) a.text.now) c.pattern_at.ensures)
