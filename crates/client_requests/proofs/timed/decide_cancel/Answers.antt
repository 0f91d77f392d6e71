-- The version is asked before the touch, and after the interface. Assumes nothing.
use mathlib.Core.Path.{sym, ap, ◌∙◌}
use native.Mathlib.Omega.{arith}
use Rattle.eiproto.specs.Told.{told}
use mathlib.Core.Path.{refl}
use Rattle.model.specs.Call.{Kind}
use Rattle.model.specs.Decide.{handler}
use Rattle.client_requests.proofs.Decisions.{touch_unknown, cancel-held, cancel-old}
use Rattle.client_requests.proofs.timed.decide_cancel.Goals as goal

pub returns-in-Some : goal.returns-in-Some
returns-in-Some c =
    let a = c.args in
    cancel-old a.control.now a.touchscreen a.touch a.version a.request (sym c.device_for_interface.ensures ∙ ap told c.in-Some.is) (omega arith)

pub returns-in-None : goal.returns-in-None
unfolding handler
returns-in-None c =
    let a = c.args in
    touch_unknown a.control.now a.touchscreen a.touch Kind.TouchCancel a.version refl a.request (sym c.device_for_interface.ensures ∙ ap told c.in-None.is)

pub returns : goal.returns
returns c =
    let a = c.args in
    c.decide_held.ensures Kind.TouchCancel a.version (cancel-held a.control.now a.touchscreen a.touch a.version (omega arith))
