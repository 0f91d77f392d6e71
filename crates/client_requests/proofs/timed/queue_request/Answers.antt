-- The held touches change before the request waits. Assumes nothing.
use Rattle.std.specs.Prelude.{Ok, Err}
use Rattle.std.proofs.lemmas.Result.{err_from_is_err_and}
use Rattle.answers.proofs.Meetings.{ends, refused_is}
use mathlib.Core.Path.{refl, sym, ap, ◌∙◌}
use Rattle.requests.specs.Row.{row_of}
use Rattle.requests.specs.declared.cell.Cell.{Cell}
use Rattle.session.specs.View.{store, item_at}
use Rattle.session.proofs.Views.{enacted_join}
use Rattle.client_requests.proofs.Enactings.{met_ignored, met_refused, met_queued, changed_lent}
use Rattle.client_requests.proofs.timed.queue_request.Goals as goal

pub change_touches-requires : goal.change_touches-requires
change_touches-requires c =
    let can = c.requires _ (c.in_ok-queued.was ∙ ap Ok c.in-Some.is) in
    (c.args.session.now.lent.sound, (can.known, can.touch))

pub invariant_of-session : goal.invariant_of-session
invariant_of-session c =
    record { lent = (changed_lent _ _ c.change_touches.ensures c.args.session.now.lent (c.requires _ (c.in_ok-queued.was ∙ ap Ok c.in-Some.is))).0 }

pub pend-requires : goal.pend-requires
pend-requires c =
    (changed_lent _ _ c.change_touches.ensures c.args.session.now.lent (c.requires _ (c.in_ok-queued.was ∙ ap Ok c.in-Some.is))).1

pub returns-in_err-queued-clause-step : goal.returns-in_err-queued-clause-step
returns-in_err-queued-clause-step c =
    let a = c.args in
    let p = err_from_is_err_and c.from_residual.result c.from_residual.ensures.1 in
    λ interface version clock input request dec waits out texts whole.
    met_refused (store a.session.now.control.now a.session.now.words.now a.session.now.reals.now texts) out interface version clock input request _ whole dec (c.in_err-queued.was)
    (refused_is (p.1 ∙ ap Err p.2))

pub returns-in_default-clause-step : goal.returns-in_default-clause-step
returns-in_default-clause-step c =
    let a = c.args in
    λ interface version clock input request dec waits out texts whole.
    met_ignored (store a.session.now.control.now a.session.now.words.now a.session.now.reals.now texts) out interface version clock input request _ whole dec
    (c.in_ok-queued.was ∙ ap Ok c.in_default.is) (ends c.accepted.ensures)

pub returns-clause-step : goal.returns-clause-step
returns-clause-step c =
    let a = c.args in
    λ interface version clock input request dec waits out texts whole.
    let is = c.in_ok-queued.was ∙ ap Ok c.in-Some.is in
    met_queued (store a.session.now.control.now a.session.now.words.now a.session.now.reals.now texts) out interface version clock input request _ whole dec (store c.pend.new.session.control.now c.pend.new.session.words.now c.pend.new.session.reals.now texts)
    is (c.pend.new.session.lent.words_long ∙ sym c.args.session.now.lent.words_long) (c.pend.new.session.lent.reals_long ∙ sym c.args.session.now.lent.reals_long) refl
    (enacted_join (c.change_touches.ensures a.session.now.words.now a.session.now.reals.now texts _) (c.pend.ensures.step texts _ _ (waits texts ∙ ap (λ (x : Cell). item_at texts (row_of x)) (sym (dec.same _ is)))))
    (ends c.accepted-2.ensures)
