-- Each arm is the call of its request. Assumes nothing.
use mathlib.Core.Path.{refl, ap}
use Rattle.requests.specs.Row.{entry}
use Rattle.requests.specs.declared.request.EisRequest.{EisRequest}
use Rattle.requests.specs.declared.eis.PointerAbsoluteRequest.{PointerAbsoluteRequest}
use Rattle.model.specs.Call.{Input, sight, load}
use Rattle.model.specs.Edit.{item}
use Rattle.model.specs.Decide.{handler}
use Rattle.session.specs.View.{request_in, item_in, request_at, item_at}
use Rattle.handlers.specs.Call.{pointer_absolute_call}
use Rattle.answers.proofs.Meetings.{lent-still}
use Rattle.handlers.proofs.Plain.{for_call}
use Rattle.handlers.proofs.Timed.{row-waits}
use Rattle.handlers.proofs.handle_pointer_absolute_request.Goals as goal

pub invariant_of-session : goal.invariant_of-session
invariant_of-session c =
    record { lent = lent-still 0 c.args.session.now.lent (c.release_interface.ensures 0) }

pub returns-in-Release-clause-step : goal.returns-in-Release-clause-step
returns-in-Release-clause-step c =
    let a = c.args in
    λ version clock texts whole.
    for_call clock (ap (λ (x : PointerAbsoluteRequest). pointer_absolute_call x a.pointer_absolute version) c.in-Release.is)
    (c.release_interface.ensures clock a.session.now.words.now a.session.now.reals.now texts whole)

pub returns-in-MotionAbsolute-clause-step : goal.returns-in-MotionAbsolute-clause-step
unfolding handler sight load item item_at request_at request_in item_in entry
returns-in-MotionAbsolute-clause-step c =
    let a = c.args in
    λ version clock texts whole.
    for_call clock (ap (λ (x : PointerAbsoluteRequest). pointer_absolute_call x a.pointer_absolute version) c.in-MotionAbsolute.is)
    (c.queue_for_interface.ensures.step version clock (Input.MotionAbsolute _ _) (record { by = refl; valid = refl })
    (row-waits (Input.MotionAbsolute _ _) (EisRequest.PointerMotionAbsolute 0 0 _ _) c.pointer_motion_absolute-request.ensures (λ t. refl)) a.out.now texts whole)
