-- The length, the pending list and the texts are asked in this order; then the text lies in a free slot. Assumes nothing.
use Rattle.answers.proofs.Meetings.{ends}
use mathlib.Core.Path.{sym, ap, ◌∙◌, refl}
use native.Mathlib.Omega.{arith}
use borrow.Author.Tests.{not-true, not-false}
use Rattle.std.proofs.lemmas.Bool.{not_from_false, not_from_true}
use Rattle.eiproto.specs.declared.event.DeviceCapability.{DeviceCapability}
use Rattle.eiproto.specs.Told.{told}
use Rattle.control.specs.Control.{core_at}
use Rattle.session.specs.View.{store}
use Rattle.client_requests.proofs.Decisions.{interface-within}
use Rattle.client_requests.proofs.Enactings.{text_unknown, text_length_lem, text_full, text-many, text-queued}
use Rattle.client_requests.proofs.timed.queue_utf8.Goals as goal

pub returns-then-not-is_text_length-clause-step : goal.returns-then-not-is_text_length-clause-step
returns-then-not-is_text_length-clause-step c =
    let a = c.args in
    let s = store a.session.now.control.now a.session.now.words.now a.session.now.reals.now a.texts.now in
    let k = sym c.device_for_interface.ensures ∙ ap told c.in-Some.is in
    λ version clock out. text_length_lem s out a.interface version clock a.text.now _ c.requires.0 c.requires.1 k (c.is_text_length.ensures.1 (not-true _ (not_from_false _ c.if-not-is_text_length.true))) (refl, refl)

pub pending_count-requires : goal.pending_count-requires
pending_count-requires c =
    let a = c.args in
    let s = store a.session.now.control.now a.session.now.words.now a.session.now.reals.now a.texts.now in
    let k = sym c.device_for_interface.ensures ∙ ap told c.in-Some.is in
    (c.requires.0.sound.long, omega (arith, c.requires.0.sound.devices, interface-within DeviceCapability.Text a.interface a.session.now.control.now k))

pub returns-then-pending_count-ge-PENDING_LIMIT-clause-step : goal.returns-then-pending_count-ge-PENDING_LIMIT-clause-step
returns-then-pending_count-ge-PENDING_LIMIT-clause-step c =
    let a = c.args in
    let s = store a.session.now.control.now a.session.now.words.now a.session.now.reals.now a.texts.now in
    let short = c.is_text_length.ensures.0 (not-false _ (not_from_true _ c.if-not-is_text_length.false)) in
    let k = sym c.device_for_interface.ensures ∙ ap told c.in-Some.is in
    λ version clock out. text_full s out a.interface version clock a.text.now _ c.requires.0 c.requires.1 k short.0 short.1 (omega (arith, c.pending_count.ensures)) (refl, refl)

pub returns-then-live-ge-TEXTS_LIMIT-clause-step : goal.returns-then-live-ge-TEXTS_LIMIT-clause-step
returns-then-live-ge-TEXTS_LIMIT-clause-step c =
    let a = c.args in
    let s = store a.session.now.control.now a.session.now.words.now a.session.now.reals.now a.texts.now in
    let short = c.is_text_length.ensures.0 (not-false _ (not_from_true _ c.if-not-is_text_length.false)) in
    let k = sym c.device_for_interface.ensures ∙ ap told c.in-Some.is in
    λ version clock out. text-many s out a.interface version clock a.text.now _ c.requires.0 c.requires.1 k short.0 short.1 (omega (arith, c.pending_count.ensures, c.if-pending_count-ge-PENDING_LIMIT.false)) (omega (arith, c.live_texts-live.ensures.count a.texts.now, c.if-live-ge-TEXTS_LIMIT.true)) (refl, refl)

pub pend_text-requires : goal.pend_text-requires
unfolding core_at
pend_text-requires c =
    let a = c.args in
    let s = store a.session.now.control.now a.session.now.words.now a.session.now.reals.now a.texts.now in
    let short = c.is_text_length.ensures.0 (not-false _ (not_from_true _ c.if-not-is_text_length.false)) in
    let k = sym c.device_for_interface.ensures ∙ ap told c.in-Some.is in
    record {
      whole = c.requires.0;
      device = interface-within DeviceCapability.Text a.interface a.session.now.control.now k;
      room = omega (arith, c.pending_count.ensures, c.if-pending_count-ge-PENDING_LIMIT.false);
      short = short.1;
      low = c.free_slot-slot.ensures.0;
      free = c.live_texts-live.ensures.free _ c.free_slot-slot.ensures.0 c.free_slot-slot.ensures.1;
    }

pub returns-clause-step : goal.returns-clause-step
returns-clause-step c =
    let a = c.args in
    let s = store a.session.now.control.now a.session.now.words.now a.session.now.reals.now a.texts.now in
    let short = c.is_text_length.ensures.0 (not-false _ (not_from_true _ c.if-not-is_text_length.false)) in
    let k = sym c.device_for_interface.ensures ∙ ap told c.in-Some.is in
    λ version clock out.
    text-queued s out a.interface version clock a.text.now _ c.requires.0 c.requires.1 k short.0 short.1 (omega (arith, c.pending_count.ensures, c.if-pending_count-ge-PENDING_LIMIT.false)) (store c.pend_text.new.session.control.now c.pend_text.new.session.words.now c.pend_text.new.session.reals.now c.pend_text.new.texts) (omega (arith, c.live_texts-live.ensures.count a.texts.now, c.if-live-ge-TEXTS_LIMIT.false)) (c.pend_text.new.session.lent.words_long ∙ sym c.args.session.now.lent.words_long) (c.pend_text.new.session.lent.reals_long ∙ sym c.args.session.now.lent.reals_long) c.pend_text.auto.texts c.free_slot-slot.ensures.0 (c.live_texts-live.ensures.free _ c.free_slot-slot.ensures.0 c.free_slot-slot.ensures.1) c.pend_text.ensures.step (ends c.accepted-2.ensures)

pub returns-in_default-clause-step : goal.returns-in_default-clause-step
returns-in_default-clause-step c =
    let a = c.args in
    let s = store a.session.now.control.now a.session.now.words.now a.session.now.reals.now a.texts.now in
    λ version clock out. text_unknown s out a.interface version clock a.text.now _ c.requires.0 c.requires.1 (sym c.device_for_interface.ensures ∙ ap told c.in_default.is) (ends c.accepted.ensures)
