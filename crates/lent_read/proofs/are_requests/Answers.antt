-- The slices hold whole records, and those that were looked at are requests'. Assumes nothing.
use Prim.Native.Nat.{ℕ, ◌*◌}
use mathlib.Core.Path.{◌≡◌, refl, sym, ap, ◌∙◌}
use native.Mathlib.Omega.{arith}
use Rattle.eiproto.specs.Bits.{every}
use Rattle.control.specs.Table.{tab}
use Rattle.lent_read.specs.Numbers.{is_request, record_words, record_reals, cell_at}
use Rattle.lent_read.proofs.Records.{one_passes, words_left, reals-left, not-request, all_requests}
use Rattle.lent_read.proofs.are_requests.Goals.{then-records-n-via-then-records-n, then-records-n-via-else-records-n+then-points-n}
use Rattle.lent_read.proofs.are_requests.Goals as goal

pub returns-then-records-n : goal.returns-then-records-n
returns-then-records-n c =
    elim c.then-records-n.branch [
      | then-records-n-via-then-records-n w ↦ words_left _ _ (λ e. w.if-records-n.true (e ∙ ap (λ (k : ℕ). k * record_words) (sym c.record_count-n.ensures)))
      | then-records-n-via-else-records-n+then-points-n w ↦ reals-left _ _ (λ e. w.if-points-n.true (e ∙ ap (λ (k : ℕ). k * record_reals) (sym c.record_count-n.ensures)))
    ]

pub loop-i-init : goal.loop-i-init
unfolding every tab
loop-i-init c = refl

pub returns-then-not-is_request : goal.returns-then-not-is_request
returns-then-not-is_request c =
    let fails = sym c.is_request.ensures ∙ c.if-not-is_request.true in
    not-request _ _ _ (omega (arith, c.record_count-n.ensures)) (sym (ap is_request c.cell_at.ensures) ∙ fails)

pub loop-i-preserved : goal.loop-i-preserved
loop-i-preserved c =
    let passes = sym c.is_request.ensures ∙ c.if-not-is_request.false in
    one_passes is_request (cell_at _ _) c.loop-i.i c.loop-i.invariant (sym (ap is_request c.cell_at.ensures) ∙ passes)

pub returns : goal.returns
returns c =
    let at_loop = c.loop-i in
    let a = c.args in
    let w = ap (λ (k : ℕ). k * record_words) c.record_count-n.ensures in
    let r = ap (λ (k : ℕ). k * record_reals) c.record_count-n.ensures in
    let end : at_loop.i ≡ c.record_count-n.result = omega arith in
    all_requests _ _ (c.if-records-n.false ∙ w) (c.if-points-n.false ∙ r) (ap (λ (k : ℕ). every is_request (tab k (cell_at a.records.now a.points.now))) (sym (end ∙ c.record_count-n.ensures)) ∙ at_loop.invariant)
