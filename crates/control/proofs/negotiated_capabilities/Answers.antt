-- One bit more, where its interface has a version. Assumes nothing.
use Rattle.std.proofs.Common.{◌≡◌, ℕ, ◌+◌, ◌*◌, ◌^◌, true, false, sym, ◌∙◌, subst, arith}
use Rattle.eiproto.proofs.Bits.{one_shl}
use Rattle.control.proofs.Versions.{negotiated_from, negotiated_past, negotiated_all, negotiated_step, negotiated-small}
use Rattle.control.proofs.negotiated_capabilities.Goals as goal
use Rattle.control.proofs.negotiated_capabilities.Goals.{then-is_negotiated, else-is_negotiated}

pub overflow_add-mask : goal.overflow_add-mask
overflow_add-mask c =
    let l = c.loop-bit in
    let w = c.args.control.now in
    omega (arith, one_shl l.bit (omega arith), negotiated_step w l.bit l.mask true (omega arith) (sym c.if-is_negotiated.true ∙ c.is_negotiated.ensures) l.invariant, negotiated-small w 0)

pub loop-bit-preserved : goal.loop-bit-preserved
loop-bit-preserved c =
    let l = c.loop-bit in
    let w = c.args.control.now in
    elim c.if-is_negotiated.branch [
      | then-is_negotiated x ↦ omega (arith, x.mask-is, one_shl l.bit (omega arith), negotiated_step w l.bit l.mask true (omega arith) (sym x.if-is_negotiated.true ∙ c.is_negotiated.ensures) l.invariant)
      | else-is_negotiated x ↦ omega (arith, x.mask-is, negotiated_step w l.bit l.mask false (omega arith) (sym x.if-is_negotiated.false ∙ c.is_negotiated.ensures) l.invariant)
    ]

pub returns : goal.returns
returns c =
    let l = c.loop-bit in
    let w = c.args.control.now in
    let last : l.bit ≡ 7 = omega arith in
    let whole : l.mask + 2 ^ 7 * negotiated_from w 7 ≡ negotiated_from w 0 =
    subst (λ (b : ℕ). l.mask + 2 ^ b * negotiated_from w b ≡ negotiated_from w 0) last l.invariant
    in
    let mask : l.mask ≡ negotiated_from w 0 = omega (arith, negotiated_past w) in
    mask ∙ negotiated_all w
