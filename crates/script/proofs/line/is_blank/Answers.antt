-- An empty line has no first byte. Assumes nothing.
use Prim.Native.Nat.{ℕ}
use mathlib.Core.Path.{◌≡◌, refl, sym, ◌∙◌}
use mathlib.Core.Bool.{true}
use mathlib.Core.List.{List, [], ◌∷◌}
use native.Mathlib.Omega.{arith}
use borrow.Author.Tests.{eqb-true, eqb-false}
use lib.Dec.{eqb}
use lib.ListN.{length, get_or}
use Rattle.script.specs.Script.{is_blank}
use Rattle.script.proofs.line.is_blank.Goals as goal

-- an empty line, and one with a first byte
empty : (l : List ℕ) → length l ≡ 0 → true ≡ is_blank l
unfolding is_blank
empty [] h = refl
empty (x ∷ l) h = absurd (omega arith)

begun : (l : List ℕ) → (length l ≡ 0 → ⊥) → eqb (get_or l 0 0) 0x23 ≡ is_blank l
unfolding is_blank
begun [] h = absurd (h refl)
begun (x ∷ l) h = refl

pub returns-then-is_empty : goal.returns-then-is_empty
returns-then-is_empty c =
    c.if-is_empty.true ∙ empty c.args.line.now (eqb-true _ 0 (sym c.is_empty.ensures ∙ c.if-is_empty.true))

pub returns-else-is_empty : goal.returns-else-is_empty
returns-else-is_empty c = begun c.args.line.now (eqb-false _ 0 (sym c.is_empty.ensures ∙ c.if-is_empty.false))
