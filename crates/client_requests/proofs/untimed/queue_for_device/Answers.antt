-- The frame of the device that was found, then the request: there is room for both before either is queued. Assumes nothing.
use Rattle.answers.proofs.Meetings.{ends}
use mathlib.Core.Path.{refl, sym, ap, ◌∙◌}
use mathlib.Core.List.{[]}
use borrow.Author.Tests.{not-true, not-false}
use lib.Dec.{eqb}
use Rattle.model.specs.Call.{Load}
use Rattle.model.specs.Session.{view}
use Rattle.eiproto.specs.Told.{told}
use Rattle.control.specs.Control.{connection_of}
use Rattle.control.proofs.Models.{device-passes}
use Rattle.session.specs.View.{store, session}
use Rattle.session.proofs.Views.{enacted_join}
use Rattle.client_requests.proofs.Handling.{room_flush, room-behind, whole-rows, handled-answer, device-none, device_flush, flush_full, flush_done}
use Rattle.std.proofs.lemmas.Bool.{not_from_false, not_from_true}
use Rattle.client_requests.proofs.untimed.queue_for_device.Goals as goal

pub frame_entries-requires : goal.frame_entries-requires
frame_entries-requires c =
    let a = c.args in
    let f = sym c.find_device.ensures ∙ ap told c.in-Some.is in
    (c.args.session.now.lent.sound, (device-passes a.session.now.control.now (λ d. eqb d.id a.device) _ f).within)

pub returns-then-not-has_room-clause-step : goal.returns-then-not-has_room-clause-step
returns-then-not-has_room-clause-step c =
    let a = c.args in
    let f = sym c.find_device.ensures ∙ ap told c.in-Some.is in
    λ call x out texts w.
    let s = store a.session.now.control.now a.session.now.words.now a.session.now.reals.now texts in
    flush_full s out call a.clock _ _ (connection_of a.session.now.control.now).last_serial a.clock (device-passes a.session.now.control.now (λ d. eqb d.id a.device) _ f).within x.untimed
    (x.plan (view (session s)) ∙ device_flush s a.device f a.clock x.untimed refl) c.frame_entries.ensures.0 w
    (sym c.has_room.ensures ∙ not-true _ (not_from_false _ c.if-not-has_room.true)) (refl, refl)

pub frame-requires : goal.frame-requires
frame-requires c =
    let a = c.args in
    let f = sym c.find_device.ensures ∙ ap told c.in-Some.is in (
      (device-passes a.session.now.control.now (λ d. eqb d.id a.device) _ f).within,
      room_flush a.session.now.control.now _ c.frame_entries.ensures.0 (sym c.has_room.ensures ∙ not-false _ (not_from_true _ c.if-not-has_room.false)),
    )

pub push-requires : goal.push-requires
push-requires c =
    let a = c.args in
    let f = sym c.find_device.ensures ∙ ap told c.in-Some.is in
    let o = c.frame.ensures.step.0 [] Load.None in
    room-behind (store a.session.now.control.now a.session.now.words.now a.session.now.reals.now []) _ _ _ _ (device-passes a.session.now.control.now (λ d. eqb d.id a.device) _ f).within
    c.frame_entries.ensures.0 (sym c.has_room.ensures ∙ not-false _ (not_from_true _ c.if-not-has_room.false)) o

pub returns-clause-step : goal.returns-clause-step
returns-clause-step c =
    let a = c.args in
    let f = sym c.find_device.ensures ∙ ap told c.in-Some.is in
    λ call x out texts w.
    let s = store a.session.now.control.now a.session.now.words.now a.session.now.reals.now texts in
    let o = enacted_join (c.frame.ensures.step.0 texts _) (c.push.ensures.step x.untimed x.is texts _) in
    flush_done s out call a.clock _ _ _ a.clock (device-passes a.session.now.control.now (λ d. eqb d.id a.device) _ f).within x.untimed
    (x.plan (view (session s)) ∙ device_flush s a.device f a.clock x.untimed c.last_serial-serial.ensures) c.frame_entries.ensures.0
    (sym c.has_room.ensures ∙ not-false _ (not_from_true _ c.if-not-has_room.false))
    (whole-rows w o ((c.push.new.session.lent.words_long ∙ sym c.args.session.now.lent.words_long)) ((c.push.new.session.lent.reals_long ∙ sym c.args.session.now.lent.reals_long))) o (ends c.accepted-2.ensures)

pub returns-in_default-clause-step : goal.returns-in_default-clause-step
returns-in_default-clause-step c =
    let a = c.args in
    λ call x out texts w.
    let s = store a.session.now.control.now a.session.now.words.now a.session.now.reals.now texts in
    handled-answer s out call a.clock _ w
    (x.plan (view (session s)) ∙ device-none s a.device (sym c.find_device.ensures ∙ ap told c.in_default.is) a.clock x.untimed)
    (ends c.accepted.ensures)
