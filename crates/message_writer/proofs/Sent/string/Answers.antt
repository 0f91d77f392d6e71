-- The length, the text and the zeros, each behind the one before. Assumes nothing.
use Prim.Native.Nat.{◌+◌, ◌-◌, ◌*◌, ◌/◌}
use native.Mathlib.Omega.{arith}
use lib.ListN.{length, length-append}
use Rattle.event_messages.specs.Message.{le}
use Rattle.message_writer.proofs.Bytes.{length-le, length-string, string_is}
use Rattle.message_writer.proofs.Sending.{sent_then, sent_is, behind_number}
use Rattle.message_writer.proofs.Sent.string.Goals as goal

pub number-requires : goal.number-requires
number-requires c = omega (arith, length-string c.args.text.now)

pub bytes-requires : goal.bytes-requires
bytes-requires c =
    let first = c.number.ensures in
    omega (arith, length-string c.args.text.now, first.long, behind_number 4 _ first)

pub number-requires-2 : goal.number-requires-2
number-requires-2 c =
    let t = c.args.text.now in
    let first = c.number.ensures in
    let second = c.bytes.ensures in
    (omega (arith, length-string t), omega (arith, length-string t, first.long, behind_number 4 _ first, second.long, second.puts.next))

pub returns : goal.returns
returns c =
    let t = c.args.text.now in
    let zeros = le ((length t + 4) / 4 * 4 - length t) 0 in
    let n = length-string t in
    let four = length-le 4 (length t + 1) in
    let padding = length-le ((length t + 4) / 4 * 4 - length t) 0 in
    let both = length-append t zeros in
    let first = c.number.ensures in
    sent_is (sent_then first (sent_then c.bytes.ensures c.number-2.ensures (omega (arith, first.long, first.puts.next))) (omega arith)) (string_is t)
