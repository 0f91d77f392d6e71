-- The loop passes bits whose interface has another id. Assumes nothing.
use Rattle.std.proofs.Common.{sym, ap, ◌∙◌}
use Rattle.eiproto.specs.declared.event.Bits.{Bits}
use Rattle.model.specs.Live.{listed_as}
use Rattle.control.specs.Control.{interfaces_on}
use Rattle.objects.proofs.Listing.{none-listed, bit_met, bit_passed}
use Rattle.objects.proofs.listed_among.Goals as goal

pub loop-bit-init : goal.loop-bit-init
loop-bit-init c =
    let a = c.args in
    ap (λ (b : Bits). listed_as a.id (interfaces_on a.device a.capabilities b.0)) (sym c.into_iter-bit-iterator.ensures.into_iter_gives)

pub returns-then-interface_id-id : goal.returns-then-interface_id-id
returns-then-interface_id-id c =
    let a = c.args in
    sym (c.loop-bit.invariant ∙ bit_met a.device a.capabilities a.id _ _ _ c.interface_id.ensures c.in-Some.ensures.steps c.if-interface_id-id.true)

pub loop-bit-preserved : goal.loop-bit-preserved
loop-bit-preserved c =
    let a = c.args in
    c.loop-bit.invariant ∙ bit_passed a.device a.capabilities a.id _ _ _ c.interface_id.ensures _ c.in-Some.ensures.steps c.if-interface_id-id.false

pub returns : goal.returns
returns c =
    let a = c.args in
    sym (c.loop-bit.invariant ∙ none-listed a.device a.capabilities a.id _ c.in-None.ensures.steps.0)
