-- Values that can be sent, written again and compared. Assumes nothing.
use Prim.Native.Nat.{◌+◌, ◌≤◌}
use mathlib.Core.Bool.{true}
use mathlib.Core.Path.{◌≡◌, sym, ◌∙◌}
use native.Mathlib.Omega.{arith}
use borrow.Author.Tests.{not-false}
use lib.ListN.{length}
use lib.Seq.{length-take-le}
use Rattle.event_messages.specs.Shape.{sent_arguments, allowed_all}
use Rattle.message_reader.proofs.Again.{length_most, unsaid, compared}
use Rattle.std.proofs.lemmas.Bool.{not_from_false, not_from_true}
use Rattle.std.proofs.lemmas.Slice.Eq.{slice_eq-Decides}
use Rattle.std.proofs.lemmas.Bool.Decides.{Decides-eqb}
use Rattle.message_reader.proofs.is_message.Goals as goal

pub returns-then-not-sendable : goal.returns-then-not-sendable
returns-then-not-sendable c =
    let a = c.args in
    unsaid a.message.now a.object a.opcode a.kind a.v a.text.now c.shape_of-s.ensures c.sendable.ensures (not_from_false _ c.if-not-sendable.true)

pub message_length-length-requires : goal.message_length-length-requires
message_length-length-requires c =
    let sendable_so_at : allowed_all c.shape_of-s.result c.args.v c.args.text.now ≡ true = sym c.sendable.ensures ∙ not-false _ (not_from_true _ c.if-not-sendable.false) in
    sendable_so_at

pub put_message-requires : goal.put_message-requires
put_message-requires c =
    let sendable_so_at : allowed_all c.shape_of-s.result c.args.v c.args.text.now ≡ true = sym c.sendable.ensures ∙ not-false _ (not_from_true _ c.if-not-sendable.false) in
    let short_so_at : 16 + length (sent_arguments c.shape_of-s.result c.args.v c.args.text.now) ≤ 284 = omega (arith, length_most c.args.kind c.args.v c.args.text.now c.requires c.shape_of-s.ensures sendable_so_at) in
    (sendable_so_at, short_so_at)

pub slice_bounds-again-end : goal.slice_bounds-again-end
slice_bounds-again-end c =
    let sendable_so_at : allowed_all c.shape_of-s.result c.args.v c.args.text.now ≡ true = sym c.sendable.ensures ∙ not-false _ (not_from_true _ c.if-not-sendable.false) in
    let short_so_at : 16 + length (sent_arguments c.shape_of-s.result c.args.v c.args.text.now) ≤ 284 = omega (arith, length_most c.args.kind c.args.v c.args.text.now c.requires c.shape_of-s.ensures sendable_so_at) in
    omega (arith, c.message_length-length.ensures, short_so_at)

pub slice_bounds-eq-end : goal.slice_bounds-eq-end
slice_bounds-eq-end c =
    let sendable_so_at : allowed_all c.shape_of-s.result c.args.v c.args.text.now ≡ true = sym c.sendable.ensures ∙ not-false _ (not_from_true _ c.if-not-sendable.false) in
    let short_so_at : 16 + length (sent_arguments c.shape_of-s.result c.args.v c.args.text.now) ≤ 284 = omega (arith, length_most c.args.kind c.args.v c.args.text.now c.requires c.shape_of-s.ensures sendable_so_at) in
    sym (length-take-le _ _ ((
    omega (arith, c.message_length-length.ensures, short_so_at))))

pub returns : goal.returns
returns c =
    let sendable_so_at : allowed_all c.shape_of-s.result c.args.v c.args.text.now ≡ true = sym c.sendable.ensures ∙ not-false _ (not_from_true _ c.if-not-sendable.false) in
    let short_so_at : 16 + length (sent_arguments c.shape_of-s.result c.args.v c.args.text.now) ≤ 284 = omega (arith, length_most c.args.kind c.args.v c.args.text.now c.requires c.shape_of-s.ensures sendable_so_at) in
    let a = c.args in
    compared a.message.now a.object a.opcode a.kind a.v a.text.now c.shape_of-s.ensures sendable_so_at
    c.message_length-length.ensures (omega (arith, c.message_length-length.ensures, short_so_at)) c.put_message.ensures (slice_eq-Decides Decides-eqb _ _ _ c.eq.ensures)
