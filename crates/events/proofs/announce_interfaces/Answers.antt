-- The events are those written, then those of the bits that are left, with the ids from here on. Assumes nothing.
use Rattle.std.proofs.Common.{List, length, ap, arith}
use Rattle.model.specs.Plan.{records, Sent}
use Rattle.control.specs.Control.{connection_of}
use Rattle.events.specs.Announce.{offered}
use Rattle.events.proofs.Writes.{partly_none, partly_room, partly_more, partly_last}
use Rattle.events.proofs.Objects.{bits-fewer}
use Rattle.events.proofs.Announced.{coming-none, coming-more, coming-first}
use Rattle.events.proofs.announce_interfaces.Goals as goal

pub loop-bit-init : goal.loop-bit-init
loop-bit-init c =
    let a = c.args in
    let e = coming-first (connection_of a.control.now) a.device a.capabilities in
    rw c.into_iter-bit-iterator.ensures.into_iter_gives
    (omega (arith, c.requires.ids), partly_none a.out.now a.from e (omega (arith, c.requires.room, ap (λ (l : List Sent). length (records l)) e)))

pub announce_interface-at-requires : goal.announce_interface-at-requires
announce_interface-at-requires c =
    let a = c.args in
    let o = c.loop-bit in
    let more = coming-more (connection_of a.control.now) a.device o.id _ _ _ c.in-Some.ensures.steps in
    (c.requires.sound.long, partly_room (offered a.control.now a.device c.in-Some.bit o.id) _ more o.invariant.1)

pub loop-bit-preserved : goal.loop-bit-preserved
loop-bit-preserved c =
    let a = c.args in
    let o = c.loop-bit in
    let steps = c.in-Some.ensures.steps in
    let more = coming-more (connection_of a.control.now) a.device o.id _ _ _ steps in (
      omega (arith, o.invariant.0, bits-fewer _ _ _ steps),
      partly_more (offered a.control.now a.device c.in-Some.bit o.id) _ more o.invariant.1 c.announce_interface-at.auto.out c.announce_interface-at.ensures,
    )

pub returns : goal.returns
returns c =
    partly_last (coming-none (connection_of c.args.control.now) c.args.device c.loop-bit.id _ c.in-None.ensures.steps.0) c.loop-bit.invariant.1
