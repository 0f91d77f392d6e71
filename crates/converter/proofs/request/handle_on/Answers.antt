-- Each kind of request. Assumes nothing.
use mathlib.Core.Path.{ap}
use Rattle.requests.specs.declared.eis.Request.{Request}
use Rattle.session.specs.Loan.{store_of}
use Rattle.answers.proofs.Meetings.{ends}
use Rattle.handlers.specs.Call.{call_of}
use Rattle.handlers.proofs.Plain.{for_call, pingpong}
use Rattle.converter.proofs.request.handle_on.Goals as goal

pub returns-in-Handshake-clause-step : goal.returns-in-Handshake-clause-step
returns-in-Handshake-clause-step c =
    let a = c.args in
    for_call a.clock (ap (λ (x : Request). call_of x a.object a.version a.text.now) c.in-Handshake.is)
    (c.handle_handshake_request.ensures a.session.now.control.now a.out.now a.clock a.session.now.words.now a.session.now.reals.now a.texts.now c.requires)

pub returns-in-Connection-clause-step : goal.returns-in-Connection-clause-step
returns-in-Connection-clause-step c =
    let a = c.args in
    for_call a.clock (ap (λ (x : Request). call_of x a.object a.version a.text.now) c.in-Connection.is)
    (c.handle_connection_request.ensures.step a.clock a.texts.now c.requires)

pub returns-in-PingpongDone-clause-step : goal.returns-in-PingpongDone-clause-step
returns-in-PingpongDone-clause-step c =
    let a = c.args in
    for_call a.clock (ap (λ (x : Request). call_of x a.object a.version a.text.now) c.in-PingpongDone.is)
    (pingpong (store_of a.session.now a.texts.now) a.out.now a.clock _ c.requires (ends c.accepted.ensures))

pub returns-in-Seat-clause-step : goal.returns-in-Seat-clause-step
returns-in-Seat-clause-step c =
    let a = c.args in
    for_call a.clock (ap (λ (x : Request). call_of x a.object a.version a.text.now) c.in-Seat.is)
    (c.handle_seat_request.ensures.step a.clock a.texts.now c.requires)

pub returns-in-Device-clause-step : goal.returns-in-Device-clause-step
returns-in-Device-clause-step c =
    let a = c.args in
    for_call a.clock (ap (λ (x : Request). call_of x a.object a.version a.text.now) c.in-Device.is)
    (c.handle_device_request.ensures.step a.out.now a.texts.now c.requires)

pub returns-in-Interface-clause-step : goal.returns-in-Interface-clause-step
returns-in-Interface-clause-step c =
    let a = c.args in
    for_call a.clock (ap (λ (x : Request). call_of x a.object a.version a.text.now) c.in-Interface.is)
    (c.handle_interface_request.ensures.step a.clock)
