-- As many bytes as the text has, and no more than the line has pairs. Assumes nothing.
use Rattle.std.proofs.Common.{arith}
use Rattle.script.proofs.Texts.{text_length_lem}
use Rattle.script.proofs.text.text_len.Goals as goal

pub returns : goal.returns
returns c =
    omega (arith, text_length_lem c.args.line.now c.args.t, c.saturating_sub-room.ensures, c.min.ensures)
