-- Hexadecimal behind `0x`, else decimal. Assumes nothing.
use Rattle.std.proofs.Common.{◌∙◌}
use Rattle.eiproto.specs.Interface.{ascii}
use Rattle.script.proofs.Words.{rest, starts_told}
use Rattle.script.proofs.Numbers.{hexadecimal, decimal}
use Rattle.script.proofs.word.number.Goals as goal

pub returns-then-starts_with : goal.returns-then-starts_with
unfolding ascii
returns-then-starts_with c =
    let w = c.args.word.now in
    rw (rest 2 w) at c.digits.ensures ∙ hexadecimal w (starts_told (ascii "0x") w _ _ c.starts_with.ensures.value c.if-starts_with.true)

pub returns-else-starts_with : goal.returns-else-starts_with
unfolding ascii
returns-else-starts_with c =
    let w = c.args.word.now in
    c.digits-else-starts_with.ensures ∙ decimal w (starts_told (ascii "0x") w _ _ c.starts_with.ensures.value c.if-starts_with.false)
