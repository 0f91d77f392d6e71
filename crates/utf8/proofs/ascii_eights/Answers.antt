-- `utf8::ascii_eights` meets its contract: behind whole characters another begins, and each octet of ASCII is one. Assumes nothing.
use Prim.Native.Nat.{ℕ, ◌+◌, ◌*◌, ◌/◌}
use mathlib.Core.Path.{◌≡◌, refl, ap, ◌∙◌}
use native.Mathlib.Omega.{arith}
use lib.ListN.{length, drop}
use Rattle.utf8.specs.Rfc3629.{is_utf8}
use Rattle.utf8.proofs.Scan.{ascii_run}
use Rattle.utf8.proofs.ascii_eights.Goals as goal

pub loop-eight-init : goal.loop-eight-init
loop-eight-init c = refl

pub loop-eight-preserved : goal.loop-eight-preserved
loop-eight-preserved c =
    let t = c.args.text.now in
    let j = c.loop-eight in
    let below = c.if-eight_or-ge128.false in
    let e : 8 * j.eight + 8 ≡ 8 * (j.eight + 1) = omega arith in
    rw e at (ascii_run t (8 * j.eight) 8 (omega arith) (λ k l. let a = c.eight_or.ensures k l in omega arith) j.invariant)

pub returns-clause-fact_2 : goal.returns-clause-fact_2
returns-clause-fact_2 c =
    let j = c.loop-eight in
    let t = c.args.text.now in
    let e : j.eight ≡ length t / 8 = omega arith in
    j.invariant ∙ ap (λ (n : ℕ). is_utf8 (drop (8 * n) t)) e
