-- The word behind a space, up to the next one, is read as the kind that is asked for. Assumes nothing.
use Rattle.std.proofs.Common.{arith, ◌≡◌, refl, sym, ap, ◌∙◌, subst, drop, length-drop, ◌+◌, Option, Some, None, ℕ}
use mathlib.Core.Option.{some}
use Rattle.script.specs.declared.verb.Kind.{Kind}
use Rattle.script.specs.declared.value.Value.{Value}
use Rattle.script.specs.Script.{read_as}
use Rattle.script.specs.Told.{word_told, value_told, Stepped, one, part}
use Rattle.script.proofs.Words.{before-le}
use Rattle.script.proofs.Lines.{one_value, slot-empty, slot-missing, slot_read, slot-bad}
use Rattle.script.proofs.line.read_slot.Goals as goal

pub returns-in_default : goal.returns-in_default
unfolding value_told
returns-in_default c =
    let a = c.args in
    subst (λ (s : Option Kind). Stepped a.line.now a.at s (Some (Value.Nothing, a.at))) (sym c.in_default.is)
    (c.requires, (refl, slot-empty a.line.now a.at))

pub returns-then-line-at : goal.returns-then-line-at
returns-then-line-at c =
    let a = c.args in
    subst (λ (s : Option Kind). Stepped a.line.now a.at s None) (sym c.in-Some.is) (slot-missing a.line.now a.at c.in-Some.kind c.if-line-at.true)

pub read-requires : goal.read-requires
read-requires c =
    let a = c.args in
    let f = c.find_byte-end in
    let l = drop (a.at + 1) a.line.now in
    (omega (arith, f.ensures), omega (arith, f.ensures, before-le 0x20 l, length-drop (a.at + 1) a.line.now))

pub returns-in_err-value : goal.returns-in_err-value
returns-in_err-value c =
    let a = c.args in
    subst (λ (r : Option (Value × ℕ)). Stepped a.line.now a.at a.slot r) (sym c.from_residual.ensures)
    (subst (λ (s : Option Kind). Stepped a.line.now a.at s None) (sym c.in-Some.is)
    (slot-bad a.line.now a.at c.in-Some.kind c.find_byte-end.result c.if-line-at.false c.find_byte-end.ensures
    (ap (word_told a.line.now) (sym c.in_err-value.was) ∙ c.read.ensures)))

pub returns : goal.returns
returns c =
    let a = c.args in
    let f = c.find_byte-end in
    let l = drop (a.at + 1) a.line.now in
    let xs = value_told a.line.now c.in_ok-value.value in
    let o = read_as c.in-Some.kind (part (a.at + 1) f.result a.line.now) in
    let e : some xs ≡ one o = ap (word_told a.line.now) (sym c.in_ok-value.was) ∙ c.read.ensures in
    subst (λ (s : Option Kind). Stepped a.line.now a.at s (Some (c.in_ok-value.value, f.result))) (sym c.in-Some.is) (
      omega (arith, f.ensures, before-le 0x20 l, length-drop (a.at + 1) a.line.now, c.if-line-at.false),
      (one_value o xs e, slot_read a.line.now a.at c.in-Some.kind f.result c.if-line-at.false f.ensures xs e),
    )
