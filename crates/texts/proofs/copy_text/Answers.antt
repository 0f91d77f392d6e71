-- A splice is what stands before, the text, and what stands behind. Assumes nothing.
use Rattle.std.proofs.Common.{◌≡◌, sym, ◌+◌, ◌-◌, ◌*◌, length, take, drop, arith, length-drop, length-take-le}
use Rattle.wire.specs.Bits.{splice}
use Rattle.wire.proofs.Splices.{splice-none}
use Rattle.texts.proofs.copy_text.Goals as goal

-- a splice of nothing is no change
pub returns-then-n-eq0 : goal.returns-then-n-eq0
returns-then-n-eq0 c = rw c.if-n-eq0.true (sym (splice-none c.args.buffer.now 0))

pub returns : goal.returns
unfolding splice
returns c =
    let a = c.args in
    let n : 256 * a.slot + a.n - 256 * a.slot ≡ a.n = omega arith in
    let l : 0 + length (take a.n (drop (256 * a.slot) a.texts.now)) ≡ a.n = omega (arith, length-drop (256 * a.slot) a.texts.now, length-take-le a.n (drop (256 * a.slot) a.texts.now) (omega (arith, length-drop (256 * a.slot) a.texts.now))) in
    rw (l, c.copy_from_slice.ensures.after, n)
