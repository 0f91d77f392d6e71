-- Three values, each written behind the one before. Assumes nothing.
use native.Mathlib.Omega.{arith}
use lib.ListN.{length-append}
use Rattle.event_messages.specs.Shape.{sent, sent_arguments}
use Rattle.event_messages.proofs.Events.{parts}
use Rattle.message_writer.proofs.Arguments.{text-short, length-arguments}
use Rattle.message_writer.proofs.Sending.{sent_then, sent_is}
use Rattle.message_writer.proofs.Sent.arguments.Goals as goal

pub argument-requires : goal.argument-requires
argument-requires c =
    let a = c.args in
    let p = parts a.s a.v a.text.now c.requires.0 in
    let n = length-arguments a.s a.v a.text.now in
    record { size = text-short _ p.text; allows = p.second; room = omega arith }

pub argument-requires-then-s : goal.argument-requires-then-s
argument-requires-then-s c =
    let a = c.args in
    let p = parts a.s a.v a.text.now c.requires.0 in
    let n = length-arguments a.s a.v a.text.now in
    let x = c.argument.ensures in
    record { size = text-short _ p.text; allows = p.first; room = omega (arith, x.long, x.puts.next) }

pub argument-requires-then-s-2 : goal.argument-requires-then-s-2
argument-requires-then-s-2 c =
    let a = c.args in
    let p = parts a.s a.v a.text.now c.requires.0 in
    let n = length-arguments a.s a.v a.text.now in
    let x = c.argument.ensures in
    let y = c.argument-then-s.ensures in
    record { size = text-short _ p.text; allows = p.third; room = omega (arith, x.long, x.puts.next, y.long, y.puts.next) }

pub returns-then-s : goal.returns-then-s
unfolding sent_arguments
returns-then-s c =
    let a = c.args in
    let n = length-arguments a.s a.v a.text.now in
    let x = c.argument.ensures in
    let both = length-append (sent a.s.first a.v.first a.text.now) (sent a.s.third a.v.third a.text.now) in
    sent_is (sent_then x (sent_then c.argument-then-s.ensures c.argument-then-s-2.ensures (omega (arith, x.long, x.puts.next))) (omega arith)) (rw c.if-s.true)

pub argument-requires-2 : goal.argument-requires-2
argument-requires-2 c =
    let a = c.args in
    let p = parts a.s a.v a.text.now c.requires.0 in
    let n = length-arguments a.s a.v a.text.now in
    record { size = text-short _ p.text; allows = p.first; room = omega arith }

pub argument-requires-3 : goal.argument-requires-3
argument-requires-3 c =
    let a = c.args in
    let p = parts a.s a.v a.text.now c.requires.0 in
    let n = length-arguments a.s a.v a.text.now in
    let x = c.argument-2.ensures in
    record { size = text-short _ p.text; allows = p.second; room = omega (arith, x.long, x.puts.next) }

pub argument-requires-4 : goal.argument-requires-4
argument-requires-4 c =
    let a = c.args in
    let p = parts a.s a.v a.text.now c.requires.0 in
    let n = length-arguments a.s a.v a.text.now in
    let x = c.argument-2.ensures in
    let y = c.argument-3.ensures in
    record { size = text-short _ p.text; allows = p.third; room = omega (arith, x.long, x.puts.next, y.long, y.puts.next) }

pub returns : goal.returns
unfolding sent_arguments
returns c =
    let a = c.args in
    let n = length-arguments a.s a.v a.text.now in
    let x = c.argument-2.ensures in
    let both = length-append (sent a.s.second a.v.second a.text.now) (sent a.s.third a.v.third a.text.now) in
    sent_is (sent_then x (sent_then c.argument-3.ensures c.argument-4.ensures (omega (arith, x.long, x.puts.next))) (omega arith)) (rw c.if-s.false)
