-- With a sign and without one; a number that fits, one that does not, and none. Assumes nothing.
use Prim.Native.Nat.{◌-◌, ◌^◌}
use mathlib.Core.Path.{sym, ap, ◌∙◌}
use mathlib.Core.List.{[], ◌∷◌}
use mathlib.Core.Option.{some}
use native.Mathlib.Omega.{arith}
use borrow.Author.Rules.{rules}
use lib.IntN.{ℤ, pos, neg_ℤ}
use lib.ListN.{drop}
use mir.Syntax.{w32}
use mir.ValLaws.{to_z-of_z, to_z_pos}
use Rattle.script.specs.Number.{number, within, digits}
use Rattle.script.specs.Script.{signed}
use Rattle.eiproto.specs.Told.{told}
use Rattle.script.specs.Told.{value_told, word_told}
use Rattle.eiproto.specs.Interface.{ascii}
use Rattle.script.proofs.Words.{rest, starts_told}
use Rattle.script.proofs.Values.{small-within, within_yes, within_high, given-none, given-some, given-not, minus_sign, no_sign}
use Rattle.script.proofs.value.signed.Goals as goal

pub returns-then-n-gt2147483648 : goal.returns-then-n-gt2147483648
unfolding ascii
returns-then-n-gt2147483648 c =
    λ l.
    let w = c.args.word.now in
    given-not (λ n. signed (neg_ℤ (pos n))) (within 0 (2 ^ 31)) (small-within 0 (2 ^ 31) (omega arith)) (digits 10 (drop 1 w)) c.in_ok-n.n
    (ap told (sym c.in_ok-n.was) ∙ rw (rest 1 w) at c.digits.ensures) (within_high 0 (2 ^ 31) c.in_ok-n.n c.if-n-gt2147483648.true)
    ∙ minus_sign w (starts_told (ascii "-") w _ _ c.starts_with.ensures.value c.if-starts_with.true)

pub returns-then-n-gt2147483647 : goal.returns-then-n-gt2147483647
unfolding ascii
returns-then-n-gt2147483647 c =
    λ l.
    let w = c.args.word.now in
    given-not (λ n. signed (pos n)) (within 0 (2 ^ 31 - 1)) (small-within 0 (2 ^ 31 - 1) (omega arith)) (number w) c.in_ok-n-2.n
    (ap told (sym c.in_ok-n-2.was) ∙ c.number.ensures) (within_high 0 (2 ^ 31 - 1) c.in_ok-n-2.n c.if-n-gt2147483647.true)
    ∙ no_sign w (starts_told (ascii "-") w _ _ c.starts_with.ensures.value c.if-starts_with.false)

pub returns-else-n-gt2147483648 : goal.returns-else-n-gt2147483648
unfolding ascii value_told
returns-else-n-gt2147483648 c =
    λ l.
    let w = c.args.word.now in
    ap (λ (z : ℤ). some (signed z ∷ [])) (to_z-of_z w32 c.negative.result (search rules) ∙ c.negative.ensures)
    ∙ given-some (λ n. signed (neg_ℤ (pos n))) (within 0 (2 ^ 31)) (small-within 0 (2 ^ 31) (omega arith)) (digits 10 (drop 1 w)) c.in_ok-n.n
    (ap told (sym c.in_ok-n.was) ∙ rw (rest 1 w) at c.digits.ensures) (within_yes 0 (2 ^ 31) c.in_ok-n.n (omega arith) c.if-n-gt2147483648.false)
    ∙ minus_sign w (starts_told (ascii "-") w _ _ c.starts_with.ensures.value c.if-starts_with.true)

pub returns-in_err-n : goal.returns-in_err-n
unfolding ascii
returns-in_err-n c =
    λ l.
    let w = c.args.word.now in
    ap (word_told l) c.from_residual.ensures
    ∙ given-none (λ n. signed (neg_ℤ (pos n))) (within 0 (2 ^ 31)) (small-within 0 (2 ^ 31) (omega arith)) (digits 10 (drop 1 w))
    (ap told (sym c.in_err-n.was) ∙ rw (rest 1 w) at c.digits.ensures)
    ∙ minus_sign w (starts_told (ascii "-") w _ _ c.starts_with.ensures.value c.if-starts_with.true)

pub returns-else-n-gt2147483647 : goal.returns-else-n-gt2147483647
unfolding ascii value_told
returns-else-n-gt2147483647 c =
    λ l.
    let w = c.args.word.now in
    ap (λ (z : ℤ). some (signed z ∷ [])) (to_z_pos w32 c.in_ok-n-2.n (omega arith))
    ∙ given-some (λ n. signed (pos n)) (within 0 (2 ^ 31 - 1)) (small-within 0 (2 ^ 31 - 1) (omega arith)) (number w) c.in_ok-n-2.n
    (ap told (sym c.in_ok-n-2.was) ∙ c.number.ensures) (within_yes 0 (2 ^ 31 - 1) c.in_ok-n-2.n (omega arith) c.if-n-gt2147483647.false)
    ∙ no_sign w (starts_told (ascii "-") w _ _ c.starts_with.ensures.value c.if-starts_with.false)

pub returns-in_err-n-2 : goal.returns-in_err-n-2
unfolding ascii
returns-in_err-n-2 c =
    λ l.
    let w = c.args.word.now in
    ap (word_told l) c.from_residual-in_err-n-2.ensures
    ∙ given-none (λ n. signed (pos n)) (within 0 (2 ^ 31 - 1)) (small-within 0 (2 ^ 31 - 1) (omega arith)) (number w)
    (ap told (sym c.in_err-n-2.was) ∙ c.number.ensures)
    ∙ no_sign w (starts_told (ascii "-") w _ _ c.starts_with.ensures.value c.if-starts_with.false)
