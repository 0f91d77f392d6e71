-- The three tests in turn. Assumes nothing.
use mathlib.Core.Bool.{not, ◌&&◌}
use mathlib.Core.Path.{◌≡◌, refl, ap, ◌∙◌}
use borrow.Author.Tests.{lt-leb, le-leb}
use lib.Dec.{leb}
use lib.ListN.{length}
use Rattle.utf8.specs.Rfc3629.{is_utf8}
use Rattle.event_messages.specs.Stands.{sendable_text, zero_free}
use Rattle.event_messages.proofs.Tests.{and_so, and_not, and_three, none_zero}
use Rattle.event_messages.proofs.sendable_text.Goals.{then-text-le254, else-text-le254}
use Rattle.event_messages.proofs.sendable_text.Goals as goal

pub returns-then-valid : goal.returns-then-valid
unfolding sendable_text
returns-then-valid c =
    let t = c.args.text.now in
    let v : c.if-text-le254.value ≡ leb (length t) 254 && is_utf8 t =
    elim c.if-text-le254.branch [
      | then-text-le254 w ↦ and_so {r = leb (length t) 254} refl (le-leb _ _ w.if-text-le254.true) (w.value-is ∙ w.valid.ensures)
      | else-text-le254 w ↦ and_not {r = leb (length t) 254} refl (lt-leb _ _ w.if-text-le254.false) w.value-is _
    ] in
    and_so v c.if-valid.true (ap not c.contains.ensures.value ∙ none_zero t) ∙ and_three (leb (length t) 254) (is_utf8 t) (zero_free t)

pub returns-else-valid : goal.returns-else-valid
unfolding sendable_text
returns-else-valid c =
    let t = c.args.text.now in
    let v : c.if-text-le254.value ≡ leb (length t) 254 && is_utf8 t =
    elim c.if-text-le254.branch [
      | then-text-le254 w ↦ and_so {r = leb (length t) 254} refl (le-leb _ _ w.if-text-le254.true) (w.value-is ∙ w.valid.ensures)
      | else-text-le254 w ↦ and_not {r = leb (length t) 254} refl (lt-leb _ _ w.if-text-le254.false) w.value-is _
    ] in
    and_not v c.if-valid.false refl (zero_free t) ∙ and_three (leb (length t) 254) (is_utf8 t) (zero_free t)
