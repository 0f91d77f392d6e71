-- A record that no test refuses stands for the message that is written, and one that is refused stands for none. Assumes nothing.
use Prim.Native.Nat.{ℕ, ◌+◌, ◌-◌}
use mathlib.Core.List.{List}
use mathlib.Core.Path.{◌≡◌, refl, sym, ap, ◌∙◌}
use native.Mathlib.Nat.{zero-add}
use native.Mathlib.Omega.{arith}
use borrow.Author.Tests.{not-true, not-false}
use lib.ListN.{length, take, drop, length-append, length-drop}
use lib.Seq.{take_all}
use Rattle.event_messages.specs.Message.{message}
use Rattle.event_messages.specs.Shape.{shape_of, fixed_size, sent_arguments}
use Rattle.event_messages.specs.Stands.{Stands, Turned}
use Rattle.event_messages.specs.declared.Shape.{Shape}
use Rattle.message_writer.specs.Number.{big_at}
use Rattle.message_writer.proofs.Bytes.{length-le}
use Rattle.message_writer.proofs.Normal.{normal, refused, accepted}
use Rattle.std.proofs.lemmas.Bool.{not_from_false, not_from_true}
use Rattle.message_writer.proofs.write_message.Goals as goal

pub returns-then-size-lt10 : goal.returns-then-size-lt10
returns-then-size-lt10 c = Turned.none (λ m st. omega (arith, (normal st).long)) refl

pub overflow_cast-said-2 : goal.overflow_cast-said-2
overflow_cast-said-2 c = omega (arith, c.shared_slice_known-4-1.given 1)

pub overflow_add-said : goal.overflow_add-said
overflow_add-said c = omega (arith, c.shared_slice_known-4-1.given 1)

pub returns-then-said-size : goal.returns-then-said-size
returns-then-said-size c = Turned.none (λ m st. c.if-said-size.true (normal st).said) refl

pub returns-in_default : goal.returns-in_default
returns-in_default c = Turned.none (λ m st. let x = normal st in (rw c.in_default.is at c.opcode_of.ensures) x.opcode x.kind x.has) refl

pub returns-then-size-fixed : goal.returns-then-size-fixed
returns-then-size-fixed c =
    let sized : c.fixed_size-fixed.result ≡ fixed_size (shape_of _) = c.fixed_size-fixed.ensures ∙ ap (λ (s : Shape). fixed_size s) c.shape_of-s.ensures in
    Turned.none (λ m st. omega (arith, (normal st).whole)) refl

pub returns-then-not-sendable : goal.returns-then-not-sendable
returns-then-not-sendable c =
    let r = c.args.bytes.now in
    let fixed = c.fixed_size-fixed.result in
    Turned.none
    (refused c.shape_of-s.ensures c.fixed_size-fixed.ensures c.values_in-v.ensures (take_all (length r - fixed) (drop fixed r) (omega (arith, length-drop fixed r)))
    (sym c.sendable.ensures ∙ not-true _ (not_from_false _ c.if-not-sendable.true)))
    refl

pub message_length-length-requires : goal.message_length-length-requires
message_length-length-requires c = sym c.sendable.ensures ∙ not-false _ (not_from_true _ c.if-not-sendable.false)

pub returns-then-out-length : goal.returns-then-out-length
unfolding message
returns-then-out-length c =
    let bytes_at : List ℕ = c.args.bytes.now in
    let text_at : List ℕ = take (length bytes_at - c.fixed_size-fixed.result) (drop c.fixed_size-fixed.result bytes_at) in
    let written_at : List ℕ = message (big_at bytes_at 2 8) c.in-Some.opcode (sent_arguments c.shape_of-s.result c.values_in-v.result text_at) in
    let standing_at : Stands c.args.interface bytes_at written_at = let fixed = c.fixed_size-fixed.result in
    accepted c.shape_of-s.ensures c.fixed_size-fixed.ensures c.values_in-v.ensures
    (take_all (length bytes_at - fixed) (drop fixed bytes_at) (omega (arith, length-drop fixed bytes_at)))
    c.in-Some.opcode
    (omega arith)
    c.if-said-size.false
    (rw c.in-Some.is at c.opcode_of.ensures)
    (omega arith)
    (sym c.sendable.ensures ∙ not-false _ (not_from_true _ c.if-not-sendable.false))
    (λ i. omega (arith, c.shared_slice_known-4-1.given i)) in
    let long_at : length written_at ≡ 16 + length (sent_arguments c.shape_of-s.result c.values_in-v.result text_at) = simp (length-append, length-le) (omega arith) in
    Turned.short standing_at (omega (arith, long_at)) refl

pub put_message-requires : goal.put_message-requires
put_message-requires c =
    (sym c.sendable.ensures ∙ not-false _ (not_from_true _ c.if-not-sendable.false), omega arith)

pub returns : goal.returns
unfolding message
returns c =
    let bytes_at : List ℕ = c.args.bytes.now in
    let text_at : List ℕ = take (length bytes_at - c.fixed_size-fixed.result) (drop c.fixed_size-fixed.result bytes_at) in
    let written_at : List ℕ = message (big_at bytes_at 2 8) c.in-Some.opcode (sent_arguments c.shape_of-s.result c.values_in-v.result text_at) in
    let standing_at : Stands c.args.interface bytes_at written_at = let fixed = c.fixed_size-fixed.result in
    accepted c.shape_of-s.ensures c.fixed_size-fixed.ensures c.values_in-v.ensures
    (take_all (length bytes_at - fixed) (drop fixed bytes_at) (omega (arith, length-drop fixed bytes_at)))
    c.in-Some.opcode
    (omega arith)
    c.if-said-size.false
    (rw c.in-Some.is at c.opcode_of.ensures)
    (omega arith)
    (sym c.sendable.ensures ∙ not-false _ (not_from_true _ c.if-not-sendable.false))
    (λ i. omega (arith, c.shared_slice_known-4-1.given i)) in
    let long_at : length written_at ≡ 16 + length (sent_arguments c.shape_of-s.result c.values_in-v.result text_at) = simp (length-append, length-le) (omega arith) in
    let w = rw c.number_at-object.ensures at c.put_message.ensures in
    let n : c.put_message.result ≡ length written_at = w.next ∙ zero-add _ in
    rw n (Turned.given standing_at (omega (arith, long_at)) w.buffer)
