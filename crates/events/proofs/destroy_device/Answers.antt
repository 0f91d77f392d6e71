-- The objects are those written, then those of the bits that are left, then the device. Assumes nothing.
use Rattle.std.proofs.Common.{length, ap, ◌∙◌, arith}
use Rattle.eiproto.specs.declared.event.Bits.{Bits}
use Rattle.events.proofs.Writes.{going_none, going_room, going_more, going_last}
use Rattle.events.proofs.Objects.{ids_more, ids-last, objects_are}
use Rattle.events.proofs.destroy_device.Goals as goal

pub loop-bit-init : goal.loop-bit-init
loop-bit-init c =
    let a = c.args in
    let e = objects_are a.control.now a.k c.device_id-id.ensures c.device_capabilities-made.ensures (ap (λ (b : Bits). b.0) c.into_iter-bit-iterator.ensures.into_iter_gives ∙ c.device_listed.ensures) in
    going_none a.out.now a.mark e (omega (arith, c.requires.1.1, ap length e))

pub destroy-so_far-requires : goal.destroy-so_far-requires
destroy-so_far-requires c =
    going_room (ids_more _ _ _ c.in-Some.ensures.steps _ _ c.interface_id.ensures) c.loop-bit.invariant

pub loop-bit-preserved : goal.loop-bit-preserved
loop-bit-preserved c =
    going_more (ids_more _ _ _ c.in-Some.ensures.steps _ _ c.interface_id.ensures) c.loop-bit.invariant c.destroy-so_far.auto.out c.destroy-so_far.ensures

pub destroy-requires : goal.destroy-requires
destroy-requires c =
    going_room (ids-last _ _ _ c.in-None.ensures.steps.0) c.loop-bit.invariant

pub returns : goal.returns
returns c =
    going_last (going_more (ids-last _ _ _ c.in-None.ensures.steps.0) c.loop-bit.invariant c.destroy.auto.out c.destroy.ensures)
