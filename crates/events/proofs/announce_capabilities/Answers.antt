-- The events are those written, then those of the bits that are left. Assumes nothing.
use Rattle.std.proofs.Common.{[], ◌∷◌}
use Rattle.model.specs.Plan.{on}
use Rattle.events.proofs.Writes.{partly_none, partly_room, partly_more, partly_last}
use Rattle.events.proofs.Objects.{bit_fits}
use Rattle.events.proofs.Announced.{capability_event, announced-none, announced-more, capability-fits, capability-sent}
use Rattle.events.proofs.announce_capabilities.Goals as goal

pub loop-bit-init : goal.loop-bit-init
loop-bit-init c =
    partly_none c.args.out.now c.args.from (rw c.into_iter-bit-iterator.ensures.into_iter_gives) (rw c.into_iter-bit-iterator.ensures.into_iter_gives c.requires)

pub overflow_shl-announced : goal.overflow_shl-announced
overflow_shl-announced c = bit_fits _ _ _ c.in-Some.ensures.steps

pub send-at-requires : goal.send-at-requires
send-at-requires c =
    let seat = c.args.seat in
    let more = announced-more seat _ _ _ c.in-Some.ensures.steps in
    capability-fits c.loop-bit.at seat _ _ _ _ (partly_room (on seat (capability_event c.in-Some.bit) ∷ []) _ more c.loop-bit.invariant)

pub loop-bit-preserved : goal.loop-bit-preserved
loop-bit-preserved c =
    let seat = c.args.seat in
    let steps = c.in-Some.ensures.steps in
    partly_more (on seat (capability_event c.in-Some.bit) ∷ []) _ (announced-more seat _ _ _ steps) c.loop-bit.invariant c.send-at.auto.out
    (capability-sent seat _ (bit_fits _ _ _ steps) c.interface_of_bit.ensures c.send-at.ensures)

pub returns : goal.returns
returns c =
    partly_last (announced-none c.args.seat _ c.in-None.ensures.steps.0) c.loop-bit.invariant
