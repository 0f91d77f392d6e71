-- The first opcode that stands for the kind, or none does: past the last opcode there is no kind. Assumes nothing.
use Prim.Native.Nat.{ℕ, ◌≤◌, ◌<◌}
use mathlib.Core.Path.{◌≡◌}
use mathlib.Core.Logic.{dite}
use native.Mathlib.Decide.{dec_lt}
use native.Mathlib.Omega.{arith}
use borrow.Author.Rules.{rules}
use borrow.Author.Tests.{tests}
use Rattle.std.specs.Prelude.{Option, Some, None, MatchOption}
use Rattle.std.proofs.lemmas.Iterator.{first_from_Range}
use Rattle.event_messages.specs.Opcode.{HasOpcode}
use Rattle.event_messages.specs.Table.{kind_of}
use Rattle.event_messages.proofs.Tables.{past_opcodes}
use Rattle.event_messages.proofs.opcode_of.Goals as goal

found : (interface kind : ℕ) (r : Option ℕ) → (kind ≡ 0 → ⊥)
    → MatchOption r ((k : ℕ) → 0 ≤ k → k < 12 → kind_of interface k ≡ kind → ⊥)
    (λ i. (0 ≤ i) × (i < 12) × (kind_of interface i ≡ kind) × ((k : ℕ) → 0 ≤ k → k < i → kind_of interface k ≡ kind → ⊥))
    → HasOpcode interface kind r
found interface kind (Some i) some h = (omega arith, h.2)
found interface kind None some h =
    λ o p e. dite (dec_lt o 12) (λ l. h o (omega arith) l e) (λ m. omega (arith, past_opcodes interface o (omega arith)))

pub returns : goal.returns
returns c =
    let a = c.args in
    found a.interface a.kind c.find.result c.if-kind-eq0.false
    (first_from_Range _ _ _ c.find.result (λ o. kind_of a.interface o ≡ a.kind) (λ o. kind_of a.interface o ≡ a.kind → ⊥) c.find.ensures.ran (λ x q k. search (rules, tests)) (λ x q k. search (rules, tests)))
