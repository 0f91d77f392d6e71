-- The loop passes slots whose device does not list it. Assumes nothing.
use Rattle.std.proofs.Common.{ℕ, List, sym, ◌∙◌, arith, below_more}
use Rattle.model.specs.Decide.{lists_as}
use Rattle.control.specs.Control.{device_count, core_at, cores_of}
use Rattle.control.proofs.Tables.{tab-first, tab-first-none}
use Rattle.control.proofs.find_interface.Goals as goal

pub returns-then-lists_interface : goal.returns-then-lists_interface
unfolding cores_of
returns-then-lists_interface c =
    let a = c.args in
    let w : List ℕ = a.control.now in
    sym (tab-first (λ x. lists_as a.bit a.id x.interfaces) (device_count w) c.loop-k.k (core_at w) (omega arith) (sym c.lists_interface.ensures ∙ c.if-lists_interface.true) c.loop-k.invariant)

pub loop-k-preserved : goal.loop-k-preserved
loop-k-preserved c = below_more _ _ c.loop-k.invariant (sym c.lists_interface.ensures ∙ c.if-lists_interface.false)

pub returns : goal.returns
unfolding cores_of
returns c =
    let a = c.args in
    let w : List ℕ = a.control.now in
    sym (tab-first-none (λ x. lists_as a.bit a.id x.interfaces) (device_count w) (core_at w) (λ j l. c.loop-k.invariant j (omega arith)))
