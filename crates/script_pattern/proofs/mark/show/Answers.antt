-- Each mark has its arm, and the last arm has the bytes that show themselves. Assumes nothing.
use Prim.Native.Nat.{ℕ}
use mathlib.Core.Path.{sym, ap}
use Rattle.script_pattern.specs.Pattern.{marks, shows}
use Rattle.script_pattern.proofs.Lines.{written_is, written_none}
use Rattle.script_pattern.proofs.Patterns.{no_mark_shows}
use Rattle.script_pattern.proofs.mark.show.Goals as goal

pub returns-in-35 : goal.returns-in-35
unfolding shows
returns-in-35 c =
    let a = c.args in written_is c.ident.ensures (sym (ap (λ (m : ℕ). shows m a.value a.text.now) c.in-35.is))

pub returns-in-36 : goal.returns-in-36
unfolding shows
returns-in-36 c =
    let a = c.args in written_is c.decimal.ensures (sym (ap (λ (m : ℕ). shows m a.value a.text.now) c.in-36.is))

pub returns-in-126 : goal.returns-in-126
unfolding shows
returns-in-126 c =
    let a = c.args in written_is c.real.ensures (sym (ap (λ (m : ℕ). shows m a.value a.text.now) c.in-126.is))

pub returns-in-43 : goal.returns-in-43
unfolding shows
returns-in-43 c =
    let a = c.args in written_is c.amount.ensures (sym (ap (λ (m : ℕ). shows m a.value a.text.now) c.in-43.is))

pub returns-in-63 : goal.returns-in-63
unfolding shows
returns-in-63 c =
    let a = c.args in written_is c.truth.ensures (sym (ap (λ (m : ℕ). shows m a.value a.text.now) c.in-63.is))

pub returns-in-38 : goal.returns-in-38
unfolding shows
returns-in-38 c =
    let a = c.args in written_is c.interface.ensures (sym (ap (λ (m : ℕ). shows m a.value a.text.now) c.in-38.is))

pub returns-in-94 : goal.returns-in-94
unfolding shows
returns-in-94 c =
    let a = c.args in written_is c.device_type.ensures (sym (ap (λ (m : ℕ). shows m a.value a.text.now) c.in-94.is))

pub returns-in-33 : goal.returns-in-33
unfolding shows
returns-in-33 c =
    let a = c.args in written_is c.reason.ensures (sym (ap (λ (m : ℕ). shows m a.value a.text.now) c.in-33.is))

pub returns-in-37 : goal.returns-in-37
unfolding shows
returns-in-37 c =
    let a = c.args in written_is c.hexadecimal.ensures (sym (ap (λ (m : ℕ). shows m a.value a.text.now) c.in-37.is))

pub returns-in-42 : goal.returns-in-42
unfolding shows
returns-in-42 c =
    let a = c.args in written_is c.escaped.ensures (sym (ap (λ (m : ℕ). shows m a.value a.text.now) c.in-42.is))

pub returns-in-59 : goal.returns-in-59
unfolding shows
returns-in-59 c =
    let a = c.args in written_is c.explanation.ensures (sym (ap (λ (m : ℕ). shows m a.value a.text.now) c.in-59.is))

pub returns-in-46 : goal.returns-in-46
unfolding shows
returns-in-46 c =
    let a = c.args in written_is (written_none a.line.now) (sym (ap (λ (m : ℕ). shows m a.value a.text.now) c.in-46.is))

pub returns-in_default : goal.returns-in_default
unfolding marks
returns-in_default c =
    let a = c.args in written_is c.byte.ensures (no_mark_shows a.c a.value a.text.now assumption)
