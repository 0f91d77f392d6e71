-- Each value has its own length. Assumes nothing.
use Prim.Native.Nat.{◌≤◌}
use mathlib.Core.Path.{refl, sym}
use native.Mathlib.Omega.{arith}
use borrow.Author.Tests.{eq-eqb, ne_eqb}
use Rattle.eiproto.specs.Interface.{interface_name}
use Rattle.event_messages.specs.Message.{le}
use Rattle.event_messages.specs.Shape.{sent}
use Rattle.message_writer.proofs.Bytes.{length-string, word_length}
use Rattle.message_writer.proofs.Names.{name-short, named}
use Rattle.message_writer.proofs.sent_length.Goals as goal

pub overflow_cast-x : goal.overflow_cast-x
overflow_cast-x c =
    let small : c.args.x ≤ 12 = named c.args.x _ c.in-Interface.is c.requires.1 in
    omega arith

pub string_length-requires : goal.string_length-requires
string_length-requires c = omega (arith, name-short c.args.x)

pub returns-then-x-eq128 : goal.returns-then-x-eq128
unfolding sent
returns-then-x-eq128 c =
    let e = c.string_length-then-x-eq128.ensures.0 in
    let t = c.args.text.now in
    (rw (c.in-Explanation.is, eq-eqb _ _ c.if-x-eq128.true, length-string t) e, omega arith)

pub returns-in-None : goal.returns-in-None
unfolding sent
returns-in-None c = rw c.in-None.is (refl, omega arith)

pub returns-in-Uint64 : goal.returns-in-Uint64
unfolding sent le
returns-in-Uint64 c = rw c.in-Uint64.is (refl, omega arith)

pub returns-in-Interface : goal.returns-in-Interface
unfolding sent
returns-in-Interface c =
    let e = c.string_length.ensures.0 in
    let x = c.args.x in
    (rw (c.in-Interface.is, length-string (interface_name x), ← c.name_len.ensures) e, omega (arith, name-short x))

pub returns-in-Text : goal.returns-in-Text
unfolding sent
returns-in-Text c =
    let e = c.string_length-in-Text.ensures.0 in
    let t = c.args.text.now in
    (rw (c.in-Text.is, length-string t) e, omega arith)

pub returns-else-x-eq128 : goal.returns-else-x-eq128
unfolding sent le
returns-else-x-eq128 c = (rw (c.in-Explanation.is, ne_eqb _ _ c.if-x-eq128.false), omega arith)

pub returns-in-Uint32 : goal.returns-in-Uint32
returns-in-Uint32 c = (sym (word_length c.args.x c.args.text.now c.in-Uint32.is), omega arith)
