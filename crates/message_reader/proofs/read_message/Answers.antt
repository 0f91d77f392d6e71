-- A message that is written of what is read, or none is. Assumes nothing.
use Prim.Native.Nat.{◌<◌}
use mathlib.Core.Bool.{false≢true}
use mathlib.Core.Path.{refl, sym, ap, ◌∙◌}
use borrow.Author.Tests.{not-true, not-false}
use Rattle.event_messages.specs.Stands.{Turned}
use Rattle.event_messages.proofs.Events.{parts}
use Rattle.message_writer.proofs.Arguments.{text-short}
use Rattle.message_reader.specs.Read.{values_read}
use Rattle.message_reader.specs.Back.{values_in}
use Rattle.message_reader.proofs.Back.{asked, kind-below, no_kind, must_say, says}
use Rattle.std.proofs.lemmas.Bool.{not_from_false, not_from_true}
use Rattle.message_reader.proofs.read_message.Goals as goal

pub returns-then-kind-eq0 : goal.returns-then-kind-eq0
returns-then-kind-eq0 c =
    let a = c.args in
    Turned.none (no_kind a.interface a.message.now c.word_at-opcode.ensures c.kind_at-kind.ensures c.if-kind-eq0.true) refl

pub is_message-requires : goal.is_message-requires
is_message-requires c =
    let kind_so_at : c.kind_at-kind.result < 19 = let a = c.args in
    kind-below a.interface a.message.now c.word_at-opcode.ensures c.kind_at-kind.ensures in
    kind_so_at

pub returns-then-not-is_message : goal.returns-then-not-is_message
unfolding values_in
returns-then-not-is_message c =
    let a = c.args in
    Turned.none
    (λ bytes s. false≢true (sym (not-true _ (not_from_false _ c.if-not-is_message.true)) ∙ c.is_message.ensures.1
    (must_say a.interface a.message.now c.word_at-opcode.ensures c.kind_at-kind.ensures c.double_at-object.ensures
    (c.read_values-read.ensures.0 ∙ ap (values_read a.message.now) c.shape_of.ensures) bytes s)))
    refl

pub write_record-requires : goal.write_record-requires
write_record-requires c =
    let kind_so_at : c.kind_at-kind.result < 19 = let a = c.args in
    kind-below a.interface a.message.now c.word_at-opcode.ensures c.kind_at-kind.ensures in
    (kind_so_at, text-short _ (parts _ _ _ (c.is_message.ensures.0 (not-false _ (not_from_true _ c.if-not-is_message.false))).allows).text)

pub returns : goal.returns
returns c =
    let a = c.args in
    asked (says a.interface a.message.now c.word_at-opcode.ensures c.kind_at-kind.ensures _ _ _ c.if-kind-eq0.false (c.is_message.ensures.0 (not-false _ (not_from_true _ c.if-not-is_message.false))))
    c.write_record.ensures
