-- The header's three numbers and the values, each written behind the one before. Assumes nothing.
use Prim.Native.Nat.{ℕ}
use mathlib.Core.Path.{ap}
use mathlib.Core.List.{List, ◌++◌}
use native.Mathlib.Omega.{arith}
use lib.ListN.{length, length-append}
use borrow.Author.Rules.{rules}
use Rattle.event_messages.specs.Message.{le, message}
use Rattle.event_messages.specs.Shape.{sent_arguments}
use Rattle.message_writer.specs.Puts.{Sends}
use Rattle.message_writer.proofs.Bytes.{length-le}
use Rattle.message_writer.proofs.Sending.{sent_then, sent_is, behind_number}
use Rattle.message_writer.proofs.put_message.Goals as goal

pub number-requires-2 : goal.number-requires-2
number-requires-2 c =
    let b = c.new-sent.ensures in
    let x = c.number.ensures in
    let same = ap (λ (l : List ℕ). length l) b.buffer in
    (omega arith, omega (arith, b.start, x.long, behind_number 8 _ x))

pub number-requires-3 : goal.number-requires-3
number-requires-3 c =
    let b = c.new-sent.ensures in
    let x = c.number.ensures in
    let y = c.number-2.ensures in
    let same = ap (λ (l : List ℕ). length l) b.buffer in
    (omega arith, omega (arith, b.start, x.long, behind_number 8 _ x, y.long, behind_number 4 _ y))

pub arguments-requires : goal.arguments-requires
arguments-requires c =
    let b = c.new-sent.ensures in
    let x = c.number.ensures in
    let y = c.number-2.ensures in
    let z = c.number-3.ensures in
    let same = ap (λ (l : List ℕ). length l) b.buffer in
    (c.requires.0, omega (arith, b.start, x.long, behind_number 8 _ x, y.long, behind_number 4 _ y, z.long, behind_number 4 _ z))

pub returns : goal.returns
unfolding message
returns c =
    let a = c.args in
    let b = c.new-sent.ensures in
    let x = c.number.ensures in
    let y = c.number-2.ensures in
    let n = c.message_length-length.result in
    let values = sent_arguments a.s a.v a.text.now in
    let id = length-le 8 a.object in
    let long = length-le 4 n in
    let code = length-le 4 a.opcode in
    let behind = length-append (le 4 a.opcode) values in
    let header = length-append (le 4 n) (le 4 a.opcode ++ values) in
    let same = ap (λ (l : List ℕ). length l) b.buffer in
    let sent : Sends c.new-sent.result c.arguments.new.self (message a.object a.opcode values) =
    sent_is
    (sent_then x
    (sent_then y
    (sent_then c.number-3.ensures c.arguments.ensures (omega (arith, b.start, x.long, x.puts.next, y.long, y.puts.next)))
    (omega (arith, b.start, x.long, x.puts.next)))
    (omega (arith, b.start)))
    (rw c.message_length-length.ensures) in
    search rules
