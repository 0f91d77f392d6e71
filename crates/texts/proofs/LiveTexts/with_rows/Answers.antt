-- No row, then one more. Assumes nothing.
use Rattle.std.proofs.Common.{◌≡◌, ℕ, ◌+◌, Float, List, refl, sym, ap, ◌∙◌, arith}
use Rattle.requests.specs.Row.{row_at}
use Rattle.texts.specs.declared.LiveTexts.{LiveTexts}
use Rattle.texts.specs.Texts.{Counted}
use Rattle.texts.proofs.Marks.{counted_none, counted_past, counted-more}
use Rattle.texts.proofs.LiveTexts.with_rows.Goals.{then-slot-ne-NO_SLOT, else-slot-ne-NO_SLOT}
use Rattle.texts.proofs.LiveTexts.with_rows.Goals as goal

-- j rows, and the one behind them, whose slot was read
one_more : (words : List ℕ) (reals : List Float) (row j slot : ℕ) {start live later : LiveTexts} → slot ≡ (row_at words reals (row + j)).slot
    → Counted start live j (λ i. (row_at words reals (row + i)).slot) → Counted live later 1 (λ i. slot)
    → Counted start later (j + 1) (λ i. (row_at words reals (row + i)).slot)
one_more words reals row j slot is before one =
    counted-more j (λ i l. refl) 1
    (λ i l. let z : row + (j + i) ≡ row + j = omega arith in ap (λ (x : ℕ). (row_at words reals x).slot) z ∙ sym is)
    before one

pub loop-j-init : goal.loop-j-init
loop-j-init c =
    let a = c.args in counted_none a.self (λ i. (row_at a.words.now a.reals.now (a.row + i)).slot)

-- no text, or one in its slot
pub loop-j-preserved : goal.loop-j-preserved
loop-j-preserved c =
    one_more _ _ _ _ _ c.load_slot-slot.ensures c.loop-j.invariant
    (elim c.if-slot-ne-NO_SLOT.branch [
      | then-slot-ne-NO_SLOT w ↦ rw w.live-is w.with_request-live.ensures
      | else-slot-ne-NO_SLOT w ↦ rw w.live-is (counted_past c.loop-j.live _ (omega (arith, w.if-slot-ne-NO_SLOT.false)))
    ])
