-- The low bytes of a number are the first of all its bytes. Assumes nothing.
use mathlib.Core.Path.{◌≡◌}
use lib.ListN.{take}
use Rattle.event_messages.specs.Message.{le}
use Rattle.message_writer.proofs.Bytes.{length-le, low_bytes}
use Rattle.message_writer.proofs.Sending.{sent_is}
use Rattle.message_writer.proofs.Sent.number.Goals as goal

pub bytes-requires : goal.bytes-requires
bytes-requires c =
    let a = c.args in
    let e : take a.k c.to_le_bytes.result ≡ le a.k a.x = rw c.to_le_bytes.ensures (low_bytes a.k a.x c.requires.0) in
    rw (e, length-le a.k a.x) c.requires.1

pub returns : goal.returns
returns c =
    let a = c.args in
    let e : take a.k c.to_le_bytes.result ≡ le a.k a.x = rw c.to_le_bytes.ensures (low_bytes a.k a.x c.requires.0) in
    sent_is c.bytes.ensures e
