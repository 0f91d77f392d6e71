-- `utf8_cases::is_comment` meets its contract, by cases on the line. Assumes nothing.
use Prim.Native.Nat.{ℕ}
use mathlib.Core.Path.{◌≡◌, refl, sym, ap}
use mathlib.Core.Bool.{Bool, true, false}
use mathlib.Core.List.{List, [], ◌∷◌}
use borrow.Author.Rules.{rules}
use borrow.Author.Tests.{eq-eqb, eqb-true}
use lib.Dec.{eqb}
use Rattle.std.specs.Prelude.{Option, Some, IsTrue, slice_get, ◌↔◌}
use Rattle.utf8_cases.specs.Answers.{is_comment}
use Rattle.utf8_cases.proofs.is_comment.Goals as goal

-- what a test of the first character has told
told : (l : List ℕ) (b : Bool) → (IsTrue b ↔ (slice_get l 0 ≡ Some 0x23)) → b ≡ is_comment l
unfolding is_comment
told [] true t = let e : ◌≡◌ {A = Option ℕ} (slice_get [] 0) (Some 0x23) = search rules in cc
told [] false t = refl
told (c ∷ l) true t =
    let e : Some c ≡ Some 0x23 = search rules in
    sym (eq-eqb c 0x23 (cc))
told (c ∷ l) false t = go (eqb c 0x23) refl
  where
    go : (b : Bool) → eqb c 0x23 ≡ b → false ≡ b
    go false e = refl
    go true e = let s : Some c ≡ Some 0x23 = ap Some (eqb-true c 0x23 e) in let f : IsTrue false = search rules in cc

pub returns : goal.returns
returns c = told c.args.line.now c.eq.result (search rules)
