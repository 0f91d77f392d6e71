-- 0 is none, else one more than the version. Assumes nothing.
use Rattle.std.proofs.Common.{ℕ, ◌+◌, ◌%◌, ◌^◌, ◌≤◌, get_or, sym, ap, ◌∙◌, arith}
use mathlib.Core.Option.{some}
use Rattle.eiproto.specs.Told.{told}
use Rattle.control.proofs.Versions.{at_none, at_some}
use Rattle.control.proofs.version_at.Goals as goal

pub returns-in_err-above : goal.returns-in_err-above
returns-in_err-above c =
    let a = c.args in
    let zero : 1 ≤ get_or a.control.now (8 + a.place) 0 → ⊥ = c.in_err-above.ensures {u = tt} in
    ap told c.from_residual.ensures ∙ sym (at_none a.control.now a.place c.requires.1 (omega arith))

pub returns : goal.returns
returns c =
    let a = c.args in
    let stated_in = c.in_ok-above.ensures {u = tt} in
    ap (λ (x : ℕ). some (x % 2 ^ 32)) stated_in.1 ∙ sym (at_some a.control.now a.place c.requires.1 (λ z. omega arith))
