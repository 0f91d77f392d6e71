-- The loop's invariant: the number is what is left of it, with the digits behind it that are made. Assumes nothing.
use Prim.Native.Nat.{◌+◌, ◌-◌, ◌/◌, ◌%◌}
use mathlib.Core.Path.{◌≡◌, refl, sym, ◌∙◌}
use native.Mathlib.Omega.{arith}
use borrow.Author.Tests.{eq-eqb, ne_eqb}
use lib.ListN.{drop, set, replicate, length-set, length-drop}
use lib.Seq.{take_all}
use Rattle.script_pattern.specs.Digits.{decimal}
use Rattle.script_pattern.proofs.Lines.{written_is}
use Rattle.script_pattern.proofs.Decimals.{decimal-start, decimal_on, decimal-end}
use Rattle.script_pattern.proofs.line.Line.decimal.Goals as goal

pub loop-i-init : goal.loop-i-init
loop-i-init c =
    let a = c.args in (refl, refl, decimal-start a.n (replicate 20 0) refl)

pub returns-then-v-eq0 : goal.returns-then-v-eq0
returns-then-v-eq0 c =
    let l = c.loop-i in
    let v = l.v in
    let w = decimal c.args.n in
    let on = decimal_on w l.digits v l.i (l.i - 1) (omega arith) (omega arith) l.invariant.2 in
    let digits = set l.digits (l.i - 1) (0x30 + v % 10) in
    let n = length-drop (l.i - 1) digits in
    let m = length-set l.digits (l.i - 1) (0x30 + v % 10) in
    written_is (rw l.invariant.0 at c.bytes.ensures)
    (take_all (20 - (l.i - 1)) (drop (l.i - 1) digits) (omega arith) ∙ sym (rw (eq-eqb (v / 10) 0 c.if-v-eq0.true) at on))

pub loop-i-preserved : goal.loop-i-preserved
loop-i-preserved c =
    let l = c.loop-i in
    let v = l.v in
    let w = decimal c.args.n in
    let on = decimal_on w l.digits v l.i (l.i - 1) (omega arith) (omega arith) l.invariant.2 in
    (l.invariant.0, length-set l.digits (l.i - 1) (0x30 + v % 10) ∙ l.invariant.1, rw (ne_eqb (v / 10) 0 c.if-v-eq0.false) at on)

pub returns : goal.returns
returns c =
    let l = c.loop-i in
    let z : l.i ≡ 0 = omega arith in
    written_is (rw l.invariant.0 at c.bytes-2.ensures) (sym (rw z at l.invariant.2 ∙ decimal-end l.v l.digits))
