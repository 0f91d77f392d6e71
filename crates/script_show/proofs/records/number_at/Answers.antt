-- Each size has its arm. Assumes nothing.
use Prim.Native.Nat.{ℕ}
use mathlib.Core.Path.{sym, ap}
use native.Mathlib.Omega.{arith}
use borrow.Author.Tests.{ne_eqb}
use Rattle.script_show.specs.Records.{number_at}
use Rattle.script_show.proofs.records.number_at.Goals as goal

pub returns-in-1 : goal.returns-in-1
unfolding number_at
returns-in-1 c =
    let a = c.args in rw (c.from.ensures, c.byte_at.ensures) (sym (ap (λ (n : ℕ). number_at n a.at a.event.now) c.in-1.is))

pub returns-in-4 : goal.returns-in-4
unfolding number_at
returns-in-4 c =
    let a = c.args in rw (c.from-in-4.ensures, c.four.ensures) (sym (ap (λ (n : ℕ). number_at n a.at a.event.now) c.in-4.is))

pub returns-in-8 : goal.returns-in-8
unfolding number_at
returns-in-8 c =
    let a = c.args in
    rw (c.from-in-8.ensures, c.from-in-8-2.ensures, c.four-in-8.ensures, c.four-in-8-2.ensures) (sym (ap (λ (n : ℕ). number_at n a.at a.event.now) c.in-8.is))

pub returns-in_default : goal.returns-in_default
unfolding number_at
returns-in_default c =
    let n = c.args.size in rw (ne_eqb n 1 (omega arith), ne_eqb n 4 (omega arith), ne_eqb n 8 (omega arith))
