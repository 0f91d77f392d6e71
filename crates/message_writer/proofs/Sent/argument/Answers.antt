-- Each value by its own method. Assumes nothing.
use Prim.Native.Nat.{ℕ, ◌≤◌}
use mathlib.Core.List.{List}
use mathlib.Core.Path.{◌≡◌, sym, ap}
use native.Mathlib.Omega.{arith}
use borrow.Author.Tests.{ne_eqb}
use lib.ListN.{length}
use Rattle.eiproto.specs.Interface.{interface_name}
use Rattle.event_messages.specs.Message.{le, string, null}
use Rattle.event_messages.specs.Shape.{sent}
use Rattle.event_messages.specs.declared.EventArgument.{EventArgument}
use Rattle.message_writer.proofs.Bytes.{word_sent, word_length}
use Rattle.message_writer.proofs.Names.{name-short, named}
use Rattle.message_writer.proofs.Sending.{sent_is, sent_none}
use Rattle.message_writer.proofs.Sent.argument.Goals as goal

-- an explanation that is given, and one that is not
explained : {a : EventArgument} (x : ℕ) (t : List ℕ) → a ≡ EventArgument.Explanation → x ≡ 128 → sent a x t ≡ string t
unfolding sent
explained x t e h = rw (e, h)

withheld : {a : EventArgument} (x : ℕ) (t : List ℕ) → a ≡ EventArgument.Explanation → (x ≡ 128 → ⊥) → sent a x t ≡ null
unfolding sent
withheld x t e h = rw (e, ne_eqb x 128 h)

pub number-requires-in-Uint64 : goal.number-requires-in-Uint64
unfolding sent le
number-requires-in-Uint64 c =
    let a = c.args in
    let n : length (sent a.argument a.x a.text.now) ≡ 8 = ap (λ (b : EventArgument). length (sent b a.x a.text.now)) c.in-Uint64.is in
    omega arith

pub overflow_cast-x : goal.overflow_cast-x
overflow_cast-x c =
    let small : c.args.x ≤ 12 = named c.args.x _ c.in-Interface.is c.requires.allows in
    omega arith

pub string-requires : goal.string-requires
unfolding sent
string-requires c =
    let a = c.args in
    let n : length (sent a.argument a.x a.text.now) ≡ length (string (interface_name a.x)) = ap (λ (b : EventArgument). length (sent b a.x a.text.now)) c.in-Interface.is in
    rw c.name.ensures (omega (arith, name-short a.x), omega arith)

pub string-requires-in-Text : goal.string-requires-in-Text
unfolding sent
string-requires-in-Text c =
    let a = c.args in
    let n : length (sent a.argument a.x a.text.now) ≡ length (string a.text.now) = ap (λ (b : EventArgument). length (sent b a.x a.text.now)) c.in-Text.is in
    (omega arith, omega arith)

pub string-requires-then-x-eq128 : goal.string-requires-then-x-eq128
unfolding sent
string-requires-then-x-eq128 c =
    let a = c.args in
    let n : length (sent a.argument a.x a.text.now) ≡ length (string a.text.now) =
    ap (λ (l : List ℕ). length l) (explained a.x a.text.now c.in-Explanation.is c.if-x-eq128.true) in
    (omega arith, omega arith)

pub returns-then-x-eq128 : goal.returns-then-x-eq128
unfolding sent
returns-then-x-eq128 c =
    let a = c.args in
    sent_is c.string-then-x-eq128.ensures (sym (explained a.x a.text.now c.in-Explanation.is c.if-x-eq128.true))

pub number-requires-in-Explanation : goal.number-requires-in-Explanation
unfolding sent le
number-requires-in-Explanation c =
    let a = c.args in
    let n : length (sent a.argument a.x a.text.now) ≡ 4 =
    ap (λ (l : List ℕ). length l) (withheld a.x a.text.now c.in-Explanation.is c.if-x-eq128.false) in
    omega arith

pub returns-in-None : goal.returns-in-None
unfolding sent
returns-in-None c =
    let a = c.args in
    sent_is (sent_none a.self.now) (sym (ap (λ (b : EventArgument). sent b a.x a.text.now) c.in-None.is))

pub returns-in-Uint64 : goal.returns-in-Uint64
unfolding sent
returns-in-Uint64 c =
    let a = c.args in
    sent_is c.number-in-Uint64.ensures (sym (ap (λ (b : EventArgument). sent b a.x a.text.now) c.in-Uint64.is))

pub returns-in-Interface : goal.returns-in-Interface
unfolding sent
returns-in-Interface c =
    let a = c.args in
    sent_is (rw c.name.ensures at c.string.ensures) (sym (ap (λ (b : EventArgument). sent b a.x a.text.now) c.in-Interface.is))

pub returns-in-Text : goal.returns-in-Text
unfolding sent
returns-in-Text c =
    let a = c.args in
    sent_is c.string-in-Text.ensures (sym (ap (λ (b : EventArgument). sent b a.x a.text.now) c.in-Text.is))

pub returns-else-x-eq128 : goal.returns-else-x-eq128
unfolding sent
returns-else-x-eq128 c =
    let a = c.args in
    sent_is c.number-in-Explanation.ensures (sym (withheld a.x a.text.now c.in-Explanation.is c.if-x-eq128.false))

pub number-requires : goal.number-requires
number-requires c =
    let a = c.args in
    let n = word_length a.x a.text.now c.in-Uint32.is in
    omega arith

pub returns-in-Uint32 : goal.returns-in-Uint32
returns-in-Uint32 c =
    let a = c.args in
    sent_is c.number.ensures (sym (word_sent a.x a.text.now c.in-Uint32.is))
