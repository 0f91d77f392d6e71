-- A space, and the refusal; nothing where there was none. Assumes nothing.
use mathlib.Core.Path.{sym, ap, ◌∙◌}
use mathlib.Core.List.{[], ◌∷◌}
use Rattle.script_pattern.specs.Pattern.{bytes_of}
use Rattle.script_pattern.specs.declared.table.Shown.{Shown}
use Rattle.script_pattern.proofs.Lines.{written_then, written_is}
use Rattle.script_show.specs.Answer.{read_refusal}
use Rattle.script_show.proofs.lines.read_refusal.Goals as goal

pub returns-in-Some : goal.returns-in-Some
returns-in-Some c =
    let a = c.args in
    written_is (written_then c.byte.ensures c.show.ensures)
    (ap (λ (s : Shown). 0x20 ∷ bytes_of s []) c.refused.ensures ∙ sym (ap (read_refusal a.explained) c.in-Some.is))
