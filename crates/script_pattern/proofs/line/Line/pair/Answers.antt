-- Two digits, one behind the other. Assumes nothing.
use Rattle.script_pattern.specs.Digits.{pair}
use Rattle.script_pattern.proofs.Lines.{written_then, written_is}
use Rattle.script_pattern.proofs.line.Line.pair.Goals as goal

pub returns : goal.returns
unfolding pair
returns c =
    written_is (written_then c.byte.ensures c.byte-2.ensures) (rw (c.digit.ensures, c.digit-2.ensures))
