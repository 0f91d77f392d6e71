-- `t:` and pairs of digits. Assumes nothing.
use Rattle.std.proofs.Common.{sym, ◌∙◌}
use Rattle.eiproto.specs.Interface.{ascii}
use Rattle.script.proofs.Words.{rest, starts_told}
use Rattle.script.proofs.Texts.{no_text, text_start_lem}
use Rattle.script.proofs.text.is_text.Goals as goal

pub returns-then-starts_with : goal.returns-then-starts_with
unfolding ascii
returns-then-starts_with c =
    let w = c.args.word.now in
    rw (rest 2 w) at c.are_pairs.ensures ∙ sym (text_start_lem w (starts_told (ascii "t:") w _ _ c.starts_with.ensures.value c.if-starts_with.true))

pub returns-else-starts_with : goal.returns-else-starts_with
unfolding ascii
returns-else-starts_with c =
    let w = c.args.word.now in
    c.if-starts_with.false ∙ no_text w (starts_told (ascii "t:") w _ _ c.starts_with.ensures.value c.if-starts_with.false)
