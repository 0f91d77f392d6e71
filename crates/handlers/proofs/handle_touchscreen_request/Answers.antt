-- A Release, or what was decided. Assumes nothing.
use mathlib.Core.Path.{subst}
use Rattle.handlers.specs.Touch.{TimedTouch, TouchActs}
use Rattle.handlers.specs.declared.TouchAction.{TouchAction}
use Rattle.answers.proofs.Meetings.{lent-still}
use Rattle.handlers.proofs.Plain.{for_call}
use Rattle.handlers.proofs.handle_touchscreen_request.Goals as goal

pub queue_request-requires : goal.queue_request-requires
queue_request-requires c =
    let timed_at : let a = c.args in TimedTouch a.session.now.control.now a.request a.touchscreen a.version c.in-Timed.decision = let a = c.args in
    subst (λ (x : TouchAction). TouchActs a.session.now.control.now a.request a.touchscreen a.version x) c.in-Timed.is c.decide_touchscreen.ensures in
    (timed_at).decided.fits

pub invariant_of-session-in-Release : goal.invariant_of-session-in-Release
invariant_of-session-in-Release c =
    record { lent = lent-still 0 c.args.session.now.lent (c.release_interface.ensures 0) }

pub returns-in-Release-clause-step : goal.returns-in-Release-clause-step
returns-in-Release-clause-step c =
    let a = c.args in
    let call = subst (λ (x : TouchAction). TouchActs a.session.now.control.now a.request a.touchscreen a.version x) c.in-Release.is c.decide_touchscreen.ensures in
    λ clock texts whole. for_call clock call (c.release_interface.ensures clock a.session.now.words.now a.session.now.reals.now texts whole)

pub returns-in-Timed-clause-step : goal.returns-in-Timed-clause-step
returns-in-Timed-clause-step c =
    let timed_at : let a = c.args in TimedTouch a.session.now.control.now a.request a.touchscreen a.version c.in-Timed.decision = let a = c.args in
    subst (λ (x : TouchAction). TouchActs a.session.now.control.now a.request a.touchscreen a.version x) c.in-Timed.is c.decide_touchscreen.ensures in
    let a = c.args in
    let t = timed_at in
    λ clock texts whole.
    for_call clock t.call
    (c.queue_request.ensures.step a.touchscreen a.version clock t.input t.cell t.decided t.waits a.out.now texts whole)
