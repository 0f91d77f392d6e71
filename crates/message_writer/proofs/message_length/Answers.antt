-- The header, and the three values. Assumes nothing.
use native.Mathlib.Omega.{arith}
use Rattle.event_messages.proofs.Events.{parts}
use Rattle.message_writer.proofs.Arguments.{text-short, length-arguments}
use Rattle.message_writer.proofs.message_length.Goals as goal

pub sent_length-a-requires : goal.sent_length-a-requires
sent_length-a-requires c =
    let p = parts _ _ _ c.requires in
    (text-short _ p.text, p.first)

pub sent_length-b-requires : goal.sent_length-b-requires
sent_length-b-requires c =
    let p = parts _ _ _ c.requires in
    (text-short _ p.text, p.second)

pub sent_length-c-requires : goal.sent_length-c-requires
sent_length-c-requires c =
    let p = parts _ _ _ c.requires in
    (text-short _ p.text, p.third)

pub returns : goal.returns
returns c =
    let a = c.args in
    omega (arith, length-arguments a.s a.v a.text.now)
