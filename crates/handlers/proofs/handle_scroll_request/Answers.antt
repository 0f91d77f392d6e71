-- Each arm is the call of its request. Assumes nothing.
use mathlib.Core.Path.{refl, ap}
use mir.Syntax.{w32}
use mir.Val.{SFits}
use mir.Facts.{to_z-of_z}
use Rattle.requests.specs.Row.{entry}
use Rattle.requests.specs.declared.request.EisRequest.{EisRequest}
use Rattle.model.specs.Call.{Input, sight, load}
use Rattle.model.specs.Edit.{item}
use Rattle.model.specs.Decide.{handler}
use Rattle.session.specs.View.{request_in, item_in, request_at, item_at}
use Rattle.handlers.specs.Call.{scroll_call}
use Rattle.requests.specs.declared.eis.ScrollRequest.{ScrollRequest}
use Rattle.answers.proofs.Meetings.{lent-still}
use Rattle.handlers.proofs.Plain.{for_call}
use Rattle.handlers.proofs.Timed.{row-waits, stop-queued}
use borrow.Author.Rules.{rules}
use Rattle.handlers.proofs.handle_scroll_request.Goals as goal

pub invariant_of-session : goal.invariant_of-session
invariant_of-session c =
    record { lent = lent-still 0 c.args.session.now.lent (c.release_interface.ensures 0) }

pub returns-in-Release-clause-step : goal.returns-in-Release-clause-step
returns-in-Release-clause-step c =
    let a = c.args in
    λ version clock texts whole.
    for_call clock (ap (λ (x : ScrollRequest). scroll_call x a.scroll version) c.in-Release.is)
    (c.release_interface.ensures clock a.session.now.words.now a.session.now.reals.now texts whole)

pub returns-in-Scroll-clause-step : goal.returns-in-Scroll-clause-step
unfolding handler sight load item item_at request_at request_in item_in entry
returns-in-Scroll-clause-step c =
    let a = c.args in
    λ version clock texts whole.
    for_call clock (ap (λ (x : ScrollRequest). scroll_call x a.scroll version) c.in-Scroll.is)
    (c.queue_for_interface.ensures.step version clock (Input.Scroll _ _) (record { by = refl; valid = refl })
    (row-waits (Input.Scroll _ _) (EisRequest.ScrollDelta 0 0 _ _) c.scroll_delta-request.ensures (λ t. refl)) a.out.now texts whole)

pub returns-in-ScrollDiscrete-clause-step : goal.returns-in-ScrollDiscrete-clause-step
unfolding handler sight load item item_at request_at request_in item_in entry
returns-in-ScrollDiscrete-clause-step c =
    let a = c.args in
    λ version clock texts whole.
    let bx : SFits w32 c.in-ScrollDiscrete.x = search rules in
    let by : SFits w32 c.in-ScrollDiscrete.y = search rules in
    for_call clock (ap (λ (x : ScrollRequest). scroll_call x a.scroll version) c.in-ScrollDiscrete.is)
    (c.queue_for_interface-in-ScrollDiscrete.ensures.step version clock (Input.ScrollDiscrete _ _) (record { by = refl; valid = refl })
    (row-waits (Input.ScrollDiscrete _ _) (EisRequest.ScrollDiscrete 0 0 _ _) c.scroll_discrete-request.ensures (λ t. rw (to_z-of_z bx, to_z-of_z by)))
    a.out.now texts whole)

pub returns-in-ScrollStop-clause-step : goal.returns-in-ScrollStop-clause-step
returns-in-ScrollStop-clause-step c =
    let a = c.args in
    λ version clock texts whole.
    for_call clock (ap (λ (x : ScrollRequest). scroll_call x a.scroll version) c.in-ScrollStop.is)
    (c.queue_for_interface-in-ScrollStop.ensures.step version clock (Input.ScrollStop _ _ _) (stop-queued _ _ _) c.scroll_stop-request.ensures a.out.now texts whole)
