-- A set bit is taken out of the mask; with none there is nothing to do. Assumes nothing.
use Rattle.std.proofs.Common.{◌≡◌, ℕ, ◌+◌, ◌-◌, true, sym, ap, ◌∙◌, arith}
use Rattle.eiproto.specs.Bits.{bit}
use Rattle.eiproto.proofs.Bits.{one_shl}
use Rattle.control.specs.Control.{device_place, device_word}
use Rattle.control.proofs.Unlisted.{bit-fits, bit_below, cleared}
use Rattle.control.proofs.Changes.{unlisted-set, unlisted-kept}
use Rattle.control.proofs.edits.unlist.Goals as goal

pub overflow_shl-control : goal.overflow_shl-control
overflow_shl-control c =
    let a = c.args in
    bit_below a.bit (device_word a.control.now a.k 3) (omega (arith, c.slice_known-1.given (device_place a.k + 3))) (sym c.has_bit.ensures ∙ c.if-has_bit.true)

pub overflow_sub-control : goal.overflow_sub-control
overflow_sub-control c =
    let a = c.args in
    let has : bit a.bit (device_word a.control.now a.k 3) ≡ true = sym c.has_bit.ensures ∙ c.if-has_bit.true in
    omega (arith, one_shl a.bit (bit_below a.bit (device_word a.control.now a.k 3) (omega (arith, c.slice_known-1.given (device_place a.k + 3))) has), bit-fits a.bit (device_word a.control.now a.k 3) has)

pub returns-then-has_bit : goal.returns-then-has_bit
returns-then-has_bit c =
    let a = c.args in
    let links = device_word a.control.now a.k 3 in
    let has : bit a.bit links ≡ true = sym c.has_bit.ensures ∙ c.if-has_bit.true in
    unlisted-set a.control.now c.requires.0 a.k c.requires.1 a.bit _
    (λ x. ap (λ (y : ℕ). bit x (links - y)) (one_shl a.bit (bit_below a.bit links (omega (arith, c.slice_known-1.given (device_place a.k + 3))) has)) ∙ cleared a.bit links has x)

pub returns-else-has_bit : goal.returns-else-has_bit
returns-else-has_bit c =
    let a = c.args in
    unlisted-kept a.control.now c.requires.0 a.k c.requires.1 a.bit (sym c.has_bit.ensures ∙ c.if-has_bit.false)
