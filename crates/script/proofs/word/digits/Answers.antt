-- The number so far, digit by digit: it may get too large by its product or by its sum. Assumes nothing.
use Rattle.std.proofs.Common.{arith, ◌+◌, ◌*◌, ◌^◌, ◌≤◌, ◌≡◌, get_or, ap, sym, ◌∙◌}
use borrow.Author.Tests.{eqb-true, eqb-false}
use Rattle.eiproto.specs.Told.{told}
use Rattle.script.specs.Number.{digit}
use Rattle.script.proofs.Numbers.{digits-none, digits-start, digits-end, digits-stop, digits_step, digits-over}
use Rattle.script.proofs.word.digits.Goals as goal

pub returns-then-is_empty : goal.returns-then-is_empty
returns-then-is_empty c =
    digits-none c.args.word.now c.args.base (eqb-true _ 0 (sym c.is_empty.ensures ∙ c.if-is_empty.true))

pub loop-c-init : goal.loop-c-init
loop-c-init c =
    (omega arith, digits-start c.args.word.now c.args.base (eqb-false _ 0 (sym c.is_empty.ensures ∙ c.if-is_empty.false)))

pub returns-then-base-d : goal.returns-then-base-d
returns-then-base-d c =
    let d = c.from-d.ensures in
    let e = c.value_of.ensures in
    let l = c.loop-c in
    digits-stop c.args.word.now c.args.base l.n l.c-index l.invariant.1 c.loop-c-test.true (omega (arith, e, d))

pub returns-in_err-checked_mul : goal.returns-in_err-checked_mul
returns-in_err-checked_mul c =
    let e = c.value_of.ensures in
    let l = c.loop-c in
    let over : 2 ^ 64 ≤ l.n * c.args.base = grind (arith, c.in_err-checked_mul.ensures) in
    ap told c.from_residual.ensures
    ∙ digits-over c.args.word.now c.args.base l.n l.c-index l.invariant.1 c.loop-c-test.true c.requires.0
    (omega (arith, e, c.from-d.ensures)) (omega (arith, over))

pub returns-in_err-n : goal.returns-in_err-n
returns-in_err-n c =
    let e = c.value_of.ensures in
    let l = c.loop-c in
    let n : c.in_ok-checked_mul.field-0 ≡ l.n * c.args.base = grind (arith, c.in_ok-checked_mul.ensures) in
    let over : 2 ^ 64 ≤ c.in_ok-checked_mul.field-0 + c.from-d.result = grind (arith, c.in_err-n.ensures) in
    ap told c.from_residual-in_err-n.ensures
    ∙ digits-over c.args.word.now c.args.base l.n l.c-index l.invariant.1 c.loop-c-test.true c.requires.0
    (omega (arith, e, c.from-d.ensures)) (omega (arith, over, n, e, c.from-d.ensures))

pub loop-c-preserved : goal.loop-c-preserved
loop-c-preserved c =
    let e = c.value_of.ensures in
    let l = c.loop-c in
    let m = c.in_ok-checked_mul.ensures in
    let p = c.in_ok-n.ensures in
    let n : l.n * c.args.base + digit (get_or c.args.word.now l.c-index 0) ≡ c.in_ok-n.n = omega (arith, p, m, e, c.from-d.ensures) in
    (omega (arith, p), rw n at (digits_step c.args.word.now c.args.base l.n l.c-index l.invariant.1 c.loop-c-test.true (omega (arith, e, c.from-d.ensures))))

pub returns : goal.returns
returns c =
    let l = c.loop-c in
    digits-end c.args.word.now c.args.base l.n l.c-index l.invariant.1 c.loop-c-test.false l.invariant.0
