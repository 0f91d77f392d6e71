-- `utf8::has_octet` meets its contract: what stands at the place is what the rest of the text begins with. Assumes nothing.
use Prim.Native.Nat.{ℕ, ◌≤◌, ◌<◌}
use mathlib.Core.Path.{◌≡◌, sym, ◌∙◌}
use mathlib.Core.Bool.{true, false, false≢true}
use mathlib.Core.List.{List}
use borrow.Author.Tests.{le-ltb}
use lib.Dec.{leb}
use lib.ListN.{length, get_or, drop, drop_of_length-le}
use lib.Seq.{drop-cons}
use Rattle.utf8.specs.Lead.{begins}
use Rattle.utf8.proofs.has_octet.Goals.{then-at-text, else-at-text}
use Rattle.utf8.proofs.has_octet.Goals as goal

module _ (t : List ℕ) (i low high : ℕ) where
  from_low : i < length t → leb low (get_or t i 0) ≡ true → leb (get_or t i 0) high ≡ begins (low, high) (drop i t)
  unfolding begins
  from_low h a = rw (drop-cons t i 0, a)

  below : i < length t → leb low (get_or t i 0) ≡ false → false ≡ begins (low, high) (drop i t)
  unfolding begins
  below h a = rw (drop-cons t i 0, a)

  past : length t ≤ i → false ≡ begins (low, high) (drop i t)
  unfolding begins
  past h = rw drop_of_length-le

pub returns-then-low-text : goal.returns-then-low-text
returns-then-low-text c =
    let a = c.args in
    elim c.if-at-text.branch [
      | then-at-text w ↦ from_low a.text.now a.at a.low a.high w.if-at-text.true (sym w.value-is ∙ c.if-low-text.true)
      | else-at-text w ↦ absurd (false≢true (sym (le-ltb a.at (length a.text.now) w.if-at-text.false) ∙ sym w.value-is ∙ c.if-low-text.true))
    ]

pub returns-else-low-text : goal.returns-else-low-text
returns-else-low-text c =
    let a = c.args in
    elim c.if-at-text.branch [
      | then-at-text w ↦ c.if-low-text.false ∙ below a.text.now a.at a.low a.high w.if-at-text.true (sym w.value-is ∙ c.if-low-text.false)
      | else-at-text w ↦ w.value-is ∙ le-ltb a.at (length a.text.now) w.if-at-text.false ∙ past a.text.now a.at a.low a.high w.if-at-text.false
    ]
