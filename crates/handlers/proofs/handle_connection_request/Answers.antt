-- Each arm is the call of its request. Assumes nothing.
use mathlib.Core.Path.{refl, ap}
use Rattle.model.specs.Call.{Plain, Call, map_call}
use Rattle.model.specs.Decide.{decide_plain, decide}
use Rattle.session.specs.View.{request_in}
use Rattle.model.specs.Session.{Untimed}
use Rattle.handlers.specs.Call.{connection_call}
use Rattle.requests.specs.declared.eis.ConnectionRequest.{ConnectionRequest}
use Rattle.handlers.proofs.Plain.{for_call}
use Rattle.handlers.proofs.handle_connection_request.Goals as goal

pub returns-in-Sync-clause-step : goal.returns-in-Sync-clause-step
returns-in-Sync-clause-step c =
    let a = c.args in
    λ clock texts whole.
    for_call clock (ap (λ (x : ConnectionRequest). connection_call x) c.in-Sync.is) (c.sync.ensures a.session.now.control.now clock a.session.now.words.now a.session.now.reals.now texts whole)

pub returns-in-Disconnect-clause-step : goal.returns-in-Disconnect-clause-step
unfolding map_call decide decide_plain request_in
returns-in-Disconnect-clause-step c =
    let a = c.args in
    λ clock texts whole.
    for_call clock (ap (λ (x : ConnectionRequest). connection_call x) c.in-Disconnect.is)
    (c.queue_untimed.ensures.step (Call.plain Plain.disconnect) clock texts a.out.now (record { untimed = Untimed.Disconnect; is = refl; plan = refl }) whole)
