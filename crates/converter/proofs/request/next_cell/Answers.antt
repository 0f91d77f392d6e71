-- The oldest row, its text, and the row taken out. Assumes nothing.
use Prim.Native.Nat.{◌+◌, ◌*◌, ◌≤◌, ◌<◌}
use mathlib.Core.Path.{◌≡◌, ap, sym, subst, ◌∙◌}
use mathlib.Core.Bool.{true}
use native.Mathlib.Omega.{arith}
use Rattle.requests.specs.Request.{text_length}
use Rattle.requests.specs.Row.{request_of}
use Rattle.model.specs.Call.{Load}
use Rattle.control.specs.Control.{queue_head, queue_length}
use Rattle.session.specs.View.{store, slot_length, texts_length, queue_row, is_whole, Whole}
use Rattle.session.proofs.Views.{whole_parts, lent-part}
use Rattle.std.specs.Prelude.{Result, Err, Option}
use Rattle.std.proofs.lemmas.Result.{err_from_is_err_and}
use Rattle.requests.specs.declared.cell.Cell.{Cell}
use Rattle.answers.specs.declared.Error.{Error}
use Rattle.converter.specs.Next.{next_of, Delivered}
use Rattle.converter.proofs.Given.{head, head-request, head-slot, text-room, given-none, given-short, given-done, delivered-bad, delivered}
use Rattle.converter.proofs.request.next_cell.Goals as goal

pub returns-in_err-check_whole : goal.returns-in_err-check_whole
returns-in_err-check_whole c =
    let a = c.args in
    let s = store a.control.now a.words.now a.reals.now a.texts.now in
    let p = err_from_is_err_and c.from_residual.result c.from_residual.ensures.1 in
    let bad = c.in_err-check_whole.ensures in
    subst (λ (r : Result (Option Cell) Error). Delivered s s a.buffer.now a.buffer.now (next_of r)) (sym (p.1 ∙ ap Err (p.2 ∙ bad.1))) (delivered-bad s a.buffer.now bad.0)

pub queue_length-requires : goal.queue_length-requires
queue_length-requires c =
    let intact_at : is_whole ((let a = c.args in store a.control.now a.words.now a.reals.now a.texts.now)) ≡ true = c.in_ok-check_whole.ensures in
    let whole_at : Whole ((let a = c.args in store a.control.now a.words.now a.reals.now a.texts.now)) = whole_parts ((let a = c.args in store a.control.now a.words.now a.reals.now a.texts.now)) (intact_at) in
    (whole_at).sound.long

pub returns-then-queue_length-eq0 : goal.returns-then-queue_length-eq0
returns-then-queue_length-eq0 c =
    let intact_at : is_whole ((let a = c.args in store a.control.now a.words.now a.reals.now a.texts.now)) ≡ true = c.in_ok-check_whole.ensures in
    let whole_at : Whole ((let a = c.args in store a.control.now a.words.now a.reals.now a.texts.now)) = whole_parts ((let a = c.args in store a.control.now a.words.now a.reals.now a.texts.now)) (intact_at) in
    let a = c.args in
    delivered (intact_at) (λ clock. given-none ((let a = c.args in store a.control.now a.words.now a.reals.now a.texts.now)) a.buffer.now clock (whole_at) (omega (arith, c.queue_length.ensures)))

pub oldest-oldest-requires : goal.oldest-oldest-requires
oldest-oldest-requires c =
    let intact_at : is_whole ((let a = c.args in store a.control.now a.words.now a.reals.now a.texts.now)) ≡ true = c.in_ok-check_whole.ensures in
    let whole_at : Whole ((let a = c.args in store a.control.now a.words.now a.reals.now a.texts.now)) = whole_parts ((let a = c.args in store a.control.now a.words.now a.reals.now a.texts.now)) (intact_at) in
    let some_queued_at : 0 < queue_length ((let a = c.args in store a.control.now a.words.now a.reals.now a.texts.now)).control = omega (arith, c.queue_length.ensures) in
    (lent-part _ (whole_at), some_queued_at)

pub returns-then-buffer-n : goal.returns-then-buffer-n
returns-then-buffer-n c =
    let intact_at : is_whole ((let a = c.args in store a.control.now a.words.now a.reals.now a.texts.now)) ≡ true = c.in_ok-check_whole.ensures in
    let whole_at : Whole ((let a = c.args in store a.control.now a.words.now a.reals.now a.texts.now)) = whole_parts ((let a = c.args in store a.control.now a.words.now a.reals.now a.texts.now)) (intact_at) in
    let some_queued_at : 0 < queue_length ((let a = c.args in store a.control.now a.words.now a.reals.now a.texts.now)).control = omega (arith, c.queue_length.ensures) in
    let text_size_at : c.text_length-n.result ≡ text_length (request_of c.oldest-oldest.result) = c.text_length-n.ensures ∙ ap text_length c.decode-request.ensures in
    let a = c.args in
    delivered (intact_at)
    (λ clock.
    given-short ((let a = c.args in store a.control.now a.words.now a.reals.now a.texts.now)) a.buffer.now clock (some_queued_at) (head-request ((let a = c.args in store a.control.now a.words.now a.reals.now a.texts.now)) c.oldest-oldest.ensures) (text_size_at) (whole_at) (omega arith))

pub copy_text-requires : goal.copy_text-requires
copy_text-requires c =
    let intact_at : is_whole ((let a = c.args in store a.control.now a.words.now a.reals.now a.texts.now)) ≡ true = c.in_ok-check_whole.ensures in
    let whole_at : Whole ((let a = c.args in store a.control.now a.words.now a.reals.now a.texts.now)) = whole_parts ((let a = c.args in store a.control.now a.words.now a.reals.now a.texts.now)) (intact_at) in
    let text_size_at : c.text_length-n.result ≡ text_length (request_of c.oldest-oldest.result) = c.text_length-n.ensures ∙ ap text_length c.decode-request.ensures in
    let room_at : slot_length * (head (((let a = c.args in store a.control.now a.words.now a.reals.now a.texts.now)))).slot + c.text_length-n.result ≤ texts_length = text-room (((let a = c.args in store a.control.now a.words.now a.reals.now a.texts.now))).words (((let a = c.args in store a.control.now a.words.now a.reals.now a.texts.now))).reals (queue_row (queue_head (((let a = c.args in store a.control.now a.words.now a.reals.now a.texts.now))).control) 0) _ (text_size_at ∙ ap text_length (head-request (((let a = c.args in store a.control.now a.words.now a.reals.now a.texts.now))) c.oldest-oldest.ensures))
    (omega arith) in
    (omega (arith, room_at, c.slot_of.ensures ∙ head-slot (((let a = c.args in store a.control.now a.words.now a.reals.now a.texts.now))) c.oldest-oldest.ensures, (whole_at).texts_long), omega arith)

pub pop-requires : goal.pop-requires
pop-requires c =
    let intact_at : is_whole ((let a = c.args in store a.control.now a.words.now a.reals.now a.texts.now)) ≡ true = c.in_ok-check_whole.ensures in
    let whole_at : Whole ((let a = c.args in store a.control.now a.words.now a.reals.now a.texts.now)) = whole_parts ((let a = c.args in store a.control.now a.words.now a.reals.now a.texts.now)) (intact_at) in
    let some_queued_at : 0 < queue_length ((let a = c.args in store a.control.now a.words.now a.reals.now a.texts.now)).control = omega (arith, c.queue_length.ensures) in
    ((whole_at).sound, some_queued_at)

pub returns : goal.returns
returns c =
    let intact_at : is_whole ((let a = c.args in store a.control.now a.words.now a.reals.now a.texts.now)) ≡ true = c.in_ok-check_whole.ensures in
    let whole_at : Whole ((let a = c.args in store a.control.now a.words.now a.reals.now a.texts.now)) = whole_parts ((let a = c.args in store a.control.now a.words.now a.reals.now a.texts.now)) (intact_at) in
    let some_queued_at : 0 < queue_length ((let a = c.args in store a.control.now a.words.now a.reals.now a.texts.now)).control = omega (arith, c.queue_length.ensures) in
    let text_size_at : c.text_length-n.result ≡ text_length (request_of c.oldest-oldest.result) = c.text_length-n.ensures ∙ ap text_length c.decode-request.ensures in
    let room_at : slot_length * (head (((let a = c.args in store a.control.now a.words.now a.reals.now a.texts.now)))).slot + c.text_length-n.result ≤ texts_length = text-room (((let a = c.args in store a.control.now a.words.now a.reals.now a.texts.now))).words (((let a = c.args in store a.control.now a.words.now a.reals.now a.texts.now))).reals (queue_row (queue_head (((let a = c.args in store a.control.now a.words.now a.reals.now a.texts.now))).control) 0) _ (text_size_at ∙ ap text_length (head-request (((let a = c.args in store a.control.now a.words.now a.reals.now a.texts.now))) c.oldest-oldest.ensures))
    (omega arith) in
    let a = c.args in
    let w = whole_at in
    let slot = c.slot_of.ensures ∙ head-slot ((let a = c.args in store a.control.now a.words.now a.reals.now a.texts.now)) c.oldest-oldest.ensures in
    let o = c.pop.ensures a.words.now a.reals.now a.texts.now Load.None in
    delivered (intact_at)
    (λ clock.
    given-done ((let a = c.args in store a.control.now a.words.now a.reals.now a.texts.now)) a.buffer.now clock (some_queued_at) (head-request ((let a = c.args in store a.control.now a.words.now a.reals.now a.texts.now)) c.oldest-oldest.ensures) (text_size_at) slot
    (omega (arith, room_at, slot, w.texts_long)) (omega arith) c.copy_text.ensures
    (record { sound = o.sound; words_long = w.words_long; reals_long = w.reals_long; texts_long = w.texts_long }) o)
