-- The byte at a place is the one of its two digits. Assumes nothing.
use Prim.Native.Nat.{ℕ, ◌+◌, ◌*◌, ◌%◌}
use mathlib.Core.Path.{sym, ap₂, ◌∙◌}
use native.Mathlib.Omega.{arith}
use lib.ListN.{get_or-eq_default}
use Rattle.script.specs.Text.{text_bytes}
use Rattle.script.proofs.Texts.{text_at, text-room}
use Rattle.script.proofs.text.text_byte.Goals as goal

pub returns-then-text_len-i : goal.returns-then-text_len-i
returns-then-text_len-i c =
    let a = c.args in
    sym (get_or-eq_default (text_bytes a.line.now a.t) 0 (omega (arith, c.text_len.ensures)))

pub overflow_mul-at : goal.overflow_mul-at
overflow_mul-at c =
    let a = c.args in
    omega (arith, text-room a.line.now a.t a.i (omega (arith, c.text_len.ensures)))

pub overflow_add-at : goal.overflow_add-at
overflow_add-at c =
    let a = c.args in
    omega (arith, text-room a.line.now a.t a.i (omega (arith, c.text_len.ensures)))

pub overflow_add-next : goal.overflow_add-next
overflow_add-next c =
    let a = c.args in
    omega (arith, text-room a.line.now a.t a.i (omega (arith, c.text_len.ensures)))

pub bounds-line-at : goal.bounds-line-at
bounds-line-at c =
    let a = c.args in
    omega (arith, text-room a.line.now a.t a.i (omega (arith, c.text_len.ensures)))

pub bounds-line-next : goal.bounds-line-next
bounds-line-next c =
    let a = c.args in
    omega (arith, text-room a.line.now a.t a.i (omega (arith, c.text_len.ensures)))

pub returns : goal.returns
returns c =
    let a = c.args in
    ap₂ (λ (x y : ℕ). x % 16 * 16 + y % 16) c.value_of-high.ensures c.value_of-low.ensures
    ∙ sym (text_at a.line.now a.t a.i (omega (arith, c.text_len.ensures)))
