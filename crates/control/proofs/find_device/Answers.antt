-- The loop passes slots with other ids. Assumes nothing.
use Rattle.std.proofs.Common.{ℕ, eqb, List, sym, ◌∙◌, arith, below_more, eq-eqb, ne_eqb}
use Rattle.control.specs.Control.{device_count, core_at, cores_of}
use Rattle.control.proofs.Tables.{tab-first, tab-first-none}
use Rattle.control.proofs.find_device.Goals as goal

pub returns-then-device_id-id : goal.returns-then-device_id-id
unfolding cores_of
returns-then-device_id-id c =
    let a = c.args in
    let w : List ℕ = a.control.now in
    sym (tab-first (λ x. eqb x.id a.id) (device_count w) c.loop-k.k (core_at w) (omega arith) (eq-eqb _ _ (sym c.device_id.ensures ∙ c.if-device_id-id.true)) c.loop-k.invariant)

pub loop-k-preserved : goal.loop-k-preserved
loop-k-preserved c = below_more _ _ c.loop-k.invariant (ne_eqb _ _ (λ e. c.if-device_id-id.false (c.device_id.ensures ∙ e)))

pub returns : goal.returns
unfolding cores_of
returns c =
    let a = c.args in
    let w : List ℕ = a.control.now in
    sym (tab-first-none (λ x. eqb x.id a.id) (device_count w) (core_at w) (λ j l. c.loop-k.invariant j (omega arith)))
