-- The frame of the device that was found, where there is room for it. Assumes nothing.
use Rattle.answers.proofs.Meetings.{ends}
use mathlib.Core.Path.{refl, sym, ap, ◌∙◌}
use borrow.Author.Tests.{not-true, not-false}
use lib.Dec.{eqb}
use Rattle.model.specs.Call.{Plain, Call}
use Rattle.model.specs.Session.{view}
use Rattle.eiproto.specs.Told.{told}
use Rattle.control.proofs.Models.{device-passes}
use Rattle.session.specs.View.{store, session}
use Rattle.client_requests.proofs.Handling.{room-frame, whole-rows, handled-answer, frame-plan, frame-none, device_frame_lem, frame_full, frame-done}
use Rattle.std.proofs.lemmas.Bool.{not_from_false, not_from_true}
use Rattle.client_requests.proofs.untimed.queue_frame.Goals as goal

pub frame_fits-requires : goal.frame_fits-requires
frame_fits-requires c =
    let a = c.args in
    let f = sym c.find_device.ensures ∙ ap told c.in-Some.is in
    (c.args.session.now.lent.sound, (device-passes a.session.now.control.now (λ d. eqb d.id a.device) _ f).within)

pub returns-then-not-frame_fits-clause-step : goal.returns-then-not-frame_fits-clause-step
returns-then-not-frame_fits-clause-step c =
    let a = c.args in
    let f = sym c.find_device.ensures ∙ ap told c.in-Some.is in
    λ clock out texts w.
    let s = store a.session.now.control.now a.session.now.words.now a.session.now.reals.now texts in
    frame_full s out (Call.plain (Plain.device_frame a.device a.serial a.time)) clock _ _ a.serial a.time
    (device-passes a.session.now.control.now (λ d. eqb d.id a.device) _ f).within
    (frame-plan (view (session s)) clock a.device a.serial a.time ∙ device_frame_lem s a.device f a.serial a.time) refl w
    (sym c.frame_fits.ensures ∙ not-true _ (not_from_false _ c.if-not-frame_fits.true)) (refl, refl)

pub frame-requires : goal.frame-requires
frame-requires c =
    let a = c.args in
    let f = sym c.find_device.ensures ∙ ap told c.in-Some.is in (
      (device-passes a.session.now.control.now (λ d. eqb d.id a.device) _ f).within,
      room-frame a.session.now.control.now _ refl (sym c.frame_fits.ensures ∙ not-false _ (not_from_true _ c.if-not-frame_fits.false)),
    )

pub returns-clause-step : goal.returns-clause-step
returns-clause-step c =
    let a = c.args in
    let f = sym c.find_device.ensures ∙ ap told c.in-Some.is in
    λ clock out texts w.
    let s = store a.session.now.control.now a.session.now.words.now a.session.now.reals.now texts in
    let o = c.frame.ensures.step.0 texts _ in
    frame-done s out (Call.plain (Plain.device_frame a.device a.serial a.time)) clock _ _ a.serial a.time
    (device-passes a.session.now.control.now (λ d. eqb d.id a.device) _ f).within
    (frame-plan (view (session s)) clock a.device a.serial a.time ∙ device_frame_lem s a.device f a.serial a.time) refl
    (sym c.frame_fits.ensures ∙ not-false _ (not_from_true _ c.if-not-frame_fits.false)) (whole-rows w o (c.frame.new.session.lent.words_long ∙ sym c.args.session.now.lent.words_long) (c.frame.new.session.lent.reals_long ∙ sym c.args.session.now.lent.reals_long)) o (ends c.accepted-2.ensures)

pub returns-in_default-clause-step : goal.returns-in_default-clause-step
returns-in_default-clause-step c =
    let a = c.args in
    λ clock out texts w.
    let s = store a.session.now.control.now a.session.now.words.now a.session.now.reals.now texts in
    handled-answer s out (Call.plain (Plain.device_frame a.device a.serial a.time)) clock _ w
    (frame-plan (view (session s)) clock a.device a.serial a.time
    ∙ frame-none s a.device (sym c.find_device.ensures ∙ ap told c.in_default.is) a.serial a.time)
    (ends c.accepted.ensures)
