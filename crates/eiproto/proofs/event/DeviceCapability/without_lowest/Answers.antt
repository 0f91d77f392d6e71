-- The lowest set bit's power of 2 is taken off. Assumes nothing.
use Prim.Native.Nat.{ℕ, ◌-◌}
use mathlib.Core.Path.{ap, sym, ◌∙◌}
use native.Mathlib.Omega.{arith}
use Rattle.eiproto.specs.Bits.{without_lowest}
use Rattle.eiproto.proofs.Bits.{lowest, without_is, without-none, lowest_power}
use Rattle.eiproto.proofs.event.DeviceCapability.without_lowest.Goals as goal

pub returns-then-mask-eq0 : goal.returns-then-mask-eq0
returns-then-mask-eq0 c = sym (ap without_lowest c.if-mask-eq0.true ∙ without-none)

pub overflow_shl-result : goal.overflow_shl-result
overflow_shl-result c = omega (arith, lowest c.args.mask (omega arith) (omega arith))

pub overflow_sub-result : goal.overflow_sub-result
overflow_sub-result c =
    let m = c.args.mask in
    omega (arith, lowest_power m c.lowest.result (omega arith) (omega arith) c.lowest.ensures, (lowest m (omega arith) (omega arith)).fits)

pub returns : goal.returns
returns c =
    let m = c.args.mask in
    ap (λ (x : ℕ). m - x) (lowest_power m c.lowest.result (omega arith) (omega arith) c.lowest.ensures) ∙ without_is m
