-- A splice is what stands before, the text, and what stands behind. Assumes nothing.
use Rattle.std.proofs.Common.{◌≡◌, ◌+◌, ◌-◌, ◌*◌, length, arith, drop-drop}
use Rattle.wire.specs.Bits.{splice}
use Rattle.texts.proofs.put_text.Goals as goal

pub returns : goal.returns
unfolding splice
returns c =
    let a = c.args in
    let n : 256 * a.slot + length a.text.now - 256 * a.slot ≡ length a.text.now = omega arith in
    rw (n, c.copy_from_slice.ensures.after, drop-drop (length a.text.now) (256 * a.slot) a.texts.now)
