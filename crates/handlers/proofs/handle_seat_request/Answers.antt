-- Each arm is the call of its request. Assumes nothing.
use mathlib.Core.Path.{refl, ap}
use Rattle.model.specs.Call.{Plain, Call, map_call}
use Rattle.model.specs.Decide.{decide_plain, decide}
use Rattle.session.specs.View.{request_in}
use Rattle.model.specs.Session.{Untimed}
use Rattle.handlers.specs.Call.{seat_call}
use Rattle.requests.specs.declared.eis.SeatRequest.{SeatRequest}
use Rattle.handlers.proofs.Plain.{for_call}
use Rattle.handlers.proofs.handle_seat_request.Goals as goal

pub returns-in-Release-clause-step : goal.returns-in-Release-clause-step
returns-in-Release-clause-step c =
    let a = c.args in
    λ clock texts whole.
    for_call clock (ap (λ (x : SeatRequest). seat_call x a.seat) c.in-Release.is) (c.release_seat.ensures.step clock texts whole)

pub returns-in-Bind-clause-step : goal.returns-in-Bind-clause-step
unfolding map_call decide decide_plain request_in
returns-in-Bind-clause-step c =
    let a = c.args in
    λ clock texts whole.
    for_call clock (ap (λ (x : SeatRequest). seat_call x a.seat) c.in-Bind.is)
    (c.queue_for_seat.ensures.step (Call.plain (Plain.bind a.seat _)) clock (record { untimed = Untimed.Bind a.seat _; is = refl; plan = λ v. refl }) a.out.now texts whole)

pub returns-in-RequestDevice-clause-step : goal.returns-in-RequestDevice-clause-step
unfolding map_call decide decide_plain request_in
returns-in-RequestDevice-clause-step c =
    let a = c.args in
    λ clock texts whole.
    for_call clock (ap (λ (x : SeatRequest). seat_call x a.seat) c.in-RequestDevice.is)
    (c.queue_for_seat-in-RequestDevice.ensures.step (Call.plain (Plain.request_device a.seat _)) clock (record { untimed = Untimed.RequestDevice a.seat _; is = refl; plan = λ v. refl }) a.out.now texts whole)
