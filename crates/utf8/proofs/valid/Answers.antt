-- `utf8::valid` meets its contract: what is left to test is told by the place in the text and, within a character, by the octets that
-- are left of it. Assumes nothing.
use Prim.Native.Nat.{◌+◌, ◌-◌}
use mathlib.Core.Path.{◌≡◌, ap, sym, ◌∙◌}
use mathlib.Core.List.{[], ◌∷◌}
use native.Mathlib.Omega.{arith}
use lib.ListN.{drop, replicate}
use Rattle.utf8.specs.Rfc3629.{utf8_tail, goes_on, is_utf8}
use Rattle.utf8.specs.Lead.{asked}
use Rattle.utf8.proofs.Scan.{first, none_first, there, next, none-next, tails-left, at_end}
use Rattle.std.proofs.lemmas.Bool.{not_from_false, not_from_true}
use Rattle.utf8.proofs.valid.Goals as goal

pub loop-i-init : goal.loop-i-init
loop-i-init c = (c.ascii_eights-i.ensures.fact_1, c.ascii_eights-i.ensures.fact_2)

pub loop-i-preserved-in-Alone : goal.loop-i-preserved-in-Alone
unfolding asked is_utf8
loop-i-preserved-in-Alone c =
    let t = c.args.text.now in
    let j = c.loop-i in
    (omega arith, first t j.i c.loop-i-test.true j.invariant.1 [] (sym (ap asked c.in-Alone.is) ∙ c.lead_of.ensures))

pub returns-then-not-has_octet : goal.returns-then-not-has_octet
unfolding asked
returns-then-not-has_octet c =
    let follows_at : is_utf8 c.args.text.now ≡ goes_on ((c.in-More.low, c.in-More.high) ∷ replicate c.in-More.tails utf8_tail) (drop (c.loop-i.i + 1) c.args.text.now) = let j = c.loop-i in
    first c.args.text.now j.i c.loop-i-test.true j.invariant.1 ((c.in-More.low, c.in-More.high) ∷ replicate c.in-More.tails utf8_tail)
    (sym (ap asked c.in-More.is) ∙ c.lead_of.ensures) in
    let t = c.args.text.now in
    let i = c.loop-i.i in
    let o = c.has_octet in
    none-next t (i + 1) (c.in-More.low, c.in-More.high) o.result o.ensures (replicate c.in-More.tails utf8_tail) (follows_at) (not_from_false _ c.if-not-has_octet.true)

pub loop-tail-init : goal.loop-tail-init
unfolding asked
loop-tail-init c =
    let follows_at : is_utf8 c.args.text.now ≡ goes_on ((c.in-More.low, c.in-More.high) ∷ replicate c.in-More.tails utf8_tail) (drop (c.loop-i.i + 1) c.args.text.now) = let j = c.loop-i in
    first c.args.text.now j.i c.loop-i-test.true j.invariant.1 ((c.in-More.low, c.in-More.high) ∷ replicate c.in-More.tails utf8_tail)
    (sym (ap asked c.in-More.is) ∙ c.lead_of.ensures) in
    let t = c.args.text.now in
    let i = c.loop-i.i in
    let o = c.has_octet in
    let k = there t (i + 1) (c.in-More.low, c.in-More.high) o.result o.ensures (not_from_true _ c.if-not-has_octet.false) in
    let e : i + 1 + 1 ≡ i + 2 = omega arith in
    let z : c.in-More.tails ≡ c.in-More.tails - 0 = omega arith in
    (omega arith, omega arith, rw (e, z) at (next t (i + 1) (c.in-More.low, c.in-More.high) o.result o.ensures (replicate c.in-More.tails utf8_tail) (follows_at) (not_from_true _ c.if-not-has_octet.false)))

pub loop-i-preserved : goal.loop-i-preserved
unfolding is_utf8
loop-i-preserved c =
    let k = c.loop-tail in
    let e : c.in-More.tails - k.tail ≡ 0 = omega arith in
    (omega arith, rw e at k.invariant.2)

pub returns-then-not-has_octet-2 : goal.returns-then-not-has_octet-2
unfolding utf8_tail
returns-then-not-has_octet-2 c =
    let left_one_at : is_utf8 c.args.text.now ≡ goes_on (utf8_tail ∷ replicate ((c.in-More.tails - c.loop-tail.tail) - 1) utf8_tail) (drop c.loop-tail.i c.args.text.now) = rw (tails-left (c.in-More.tails - c.loop-tail.tail) (omega arith)) at c.loop-tail.invariant.2 in
    let t = c.args.text.now in
    let k = c.loop-tail in
    let o = c.has_octet-in-loop-tail in
    none-next t k.i utf8_tail o.result o.ensures (replicate ((c.in-More.tails - k.tail) - 1) utf8_tail) (left_one_at) (not_from_false _ c.if-not-has_octet-2.true)

pub loop-tail-preserved : goal.loop-tail-preserved
unfolding utf8_tail
loop-tail-preserved c =
    let left_one_at : is_utf8 c.args.text.now ≡ goes_on (utf8_tail ∷ replicate ((c.in-More.tails - c.loop-tail.tail) - 1) utf8_tail) (drop c.loop-tail.i c.args.text.now) = rw (tails-left (c.in-More.tails - c.loop-tail.tail) (omega arith)) at c.loop-tail.invariant.2 in
    let t = c.args.text.now in
    let k = c.loop-tail in
    let o = c.has_octet-in-loop-tail in
    let h = there t k.i utf8_tail o.result o.ensures (not_from_true _ c.if-not-has_octet-2.false) in
    let e : c.in-More.tails - k.tail - 1 ≡ c.in-More.tails - (k.tail + 1) = omega arith in
    (omega arith, omega arith, rw e at (next t k.i utf8_tail o.result o.ensures (replicate (c.in-More.tails - k.tail - 1) utf8_tail) (left_one_at) (not_from_true _ c.if-not-has_octet-2.false)))

pub returns-in-Bad : goal.returns-in-Bad
unfolding asked
returns-in-Bad c =
    let t = c.args.text.now in
    let j = c.loop-i in
    none_first t j.i c.loop-i-test.true j.invariant.1 (sym (ap asked c.in-Bad.is) ∙ c.lead_of.ensures)

pub returns : goal.returns
returns c =
    let t = c.args.text.now in
    let j = c.loop-i in
    sym (j.invariant.1 ∙ at_end t j.i c.loop-i-test.false)
