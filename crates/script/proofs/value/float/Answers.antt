-- `nan`, no bits, and bits that do or do not fit. Assumes nothing.
use Prim.Native.Nat.{◌-◌, ◌^◌}
use mathlib.Core.Path.{sym, ap, ◌∙◌}
use mathlib.Core.List.{[], ◌∷◌}
use mathlib.Core.Option.{some}
use native.Mathlib.Omega.{arith}
use borrow.Author.Tests.{not-true, not-false}
use lib.Ieee.{Float, div, of_bits, binary32}
use Rattle.std.proofs.lemmas.Bool.{not_from_false, not_from_true}
use Rattle.eiproto.specs.Interface.{ascii}
use Rattle.eiproto.specs.Told.{told}
use Rattle.script.specs.Number.{number, within}
use Rattle.script.specs.Script.{float}
use Rattle.script.specs.Told.{value_told, word_told}
use Rattle.script.proofs.Words.{same_told, starts_told}
use Rattle.script.proofs.Values.{small-within, within_yes, within_high, given-none, given-some, given-not, is_nan_lem, no_bits, bits}
use Rattle.script.proofs.value.float.Goals as goal

pub returns-then-eq : goal.returns-then-eq
unfolding ascii value_told div of_bits
returns-then-eq c =
    λ l. let w = c.args.word.now in
    is_nan_lem w (same_told w (ascii "nan") _ _ (rw c.as_slice.ensures at c.eq.ensures) c.if-eq.true)

pub returns-then-not-starts_with : goal.returns-then-not-starts_with
unfolding ascii
returns-then-not-starts_with c =
    λ l.
    let w = c.args.word.now in
    no_bits w (same_told w (ascii "nan") _ _ (rw c.as_slice.ensures at c.eq.ensures) c.if-eq.false)
    (starts_told (ascii "0x") w _ _ c.starts_with.ensures.value (not-true c.starts_with.result (not_from_false _ c.if-not-starts_with.true)))

pub returns-in_err-n : goal.returns-in_err-n
unfolding ascii
returns-in_err-n c =
    λ l.
    let w = c.args.word.now in
    ap (word_told l) c.from_residual.ensures
    ∙ given-none (λ n. float (of_bits binary32 n)) (within 0 (2 ^ 32 - 1)) (small-within 0 (2 ^ 32 - 1) (omega arith)) (number w)
    (ap told (sym c.in_err-n.was) ∙ c.number.ensures)
    ∙ bits w (same_told w (ascii "nan") _ _ (rw c.as_slice.ensures at c.eq.ensures) c.if-eq.false)
    (starts_told (ascii "0x") w _ _ c.starts_with.ensures.value (not-false c.starts_with.result (not_from_true _ c.if-not-starts_with.false)))

pub returns-then-n-gt4294967295 : goal.returns-then-n-gt4294967295
unfolding ascii
returns-then-n-gt4294967295 c =
    λ l.
    let w = c.args.word.now in
    given-not (λ n. float (of_bits binary32 n)) (within 0 (2 ^ 32 - 1)) (small-within 0 (2 ^ 32 - 1) (omega arith)) (number w) c.in_ok-n.n
    (ap told (sym c.in_ok-n.was) ∙ c.number.ensures) (within_high 0 (2 ^ 32 - 1) c.in_ok-n.n c.if-n-gt4294967295.true)
    ∙ bits w (same_told w (ascii "nan") _ _ (rw c.as_slice.ensures at c.eq.ensures) c.if-eq.false)
    (starts_told (ascii "0x") w _ _ c.starts_with.ensures.value (not-false c.starts_with.result (not_from_true _ c.if-not-starts_with.false)))

pub returns : goal.returns
unfolding ascii value_told
returns c =
    λ l.
    let w = c.args.word.now in
    ap (λ (x : Float). some (float x ∷ [])) c.of_bits.ensures
    ∙ given-some (λ n. float (of_bits binary32 n)) (within 0 (2 ^ 32 - 1)) (small-within 0 (2 ^ 32 - 1) (omega arith)) (number w) c.in_ok-n.n
    (ap told (sym c.in_ok-n.was) ∙ c.number.ensures) (within_yes 0 (2 ^ 32 - 1) c.in_ok-n.n (omega arith) c.if-n-gt4294967295.false)
    ∙ bits w (same_told w (ascii "nan") _ _ (rw c.as_slice.ensures at c.eq.ensures) c.if-eq.false)
    (starts_told (ascii "0x") w _ _ c.starts_with.ensures.value (not-false c.starts_with.result (not_from_true _ c.if-not-starts_with.false)))
