-- The request is queued where there is room for one more. Assumes nothing.
use Rattle.answers.proofs.Meetings.{ends}
use mathlib.Core.Path.{sym, ◌∙◌, refl}
use borrow.Author.Tests.{not-true, not-false}
use Rattle.session.specs.View.{store}
use Rattle.client_requests.proofs.Handling.{room_one, whole-rows, queue_full, queue-done}
use Rattle.std.proofs.lemmas.Bool.{not_from_false, not_from_true}
use Rattle.client_requests.proofs.untimed.queue_untimed.Goals as goal

pub returns-then-not-has_room-clause-step : goal.returns-then-not-has_room-clause-step
returns-then-not-has_room-clause-step c =
    let a = c.args in
    λ call clock texts out x w.
    queue_full (store a.session.now.control.now a.session.now.words.now a.session.now.reals.now texts) out call clock _ x.untimed x.plan w (sym c.has_room.ensures ∙ not-true _ (not_from_false _ c.if-not-has_room.true)) (refl, refl)

pub push-requires : goal.push-requires
push-requires c =
    room_one c.args.session.now.control.now (sym c.has_room.ensures ∙ not-false _ (not_from_true _ c.if-not-has_room.false))

pub returns-clause-step : goal.returns-clause-step
returns-clause-step c =
    let a = c.args in
    λ call clock texts out x w.
    let o = c.push.ensures.step x.untimed x.is texts _ in
    queue-done (store a.session.now.control.now a.session.now.words.now a.session.now.reals.now texts) out call clock _ x.untimed x.plan (sym c.has_room.ensures ∙ not-false _ (not_from_true _ c.if-not-has_room.false))
    (whole-rows w o (c.push.new.session.lent.words_long ∙ sym c.args.session.now.lent.words_long) (c.push.new.session.lent.reals_long ∙ sym c.args.session.now.lent.reals_long)) o (ends c.accepted.ensures)
