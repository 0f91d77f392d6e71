-- The held touches are counted before the id is looked for among them. Assumes nothing.
use mathlib.Core.Path.{sym, ap, ◌∙◌}
use native.Mathlib.Omega.{arith}
use Rattle.eiproto.specs.Told.{told}
use Rattle.eiproto.specs.declared.event.DeviceCapability.{DeviceCapability}
use mathlib.Core.Path.{refl}
use Rattle.model.specs.Call.{Kind}
use Rattle.model.specs.Decide.{handler}
use Rattle.client_requests.proofs.Decisions.{interface-within, touch_unknown, down_many, down_twice, down_queued}
use Rattle.client_requests.proofs.timed.decide_down.Goals as goal

-- the device, before anything is asked of it
pub touch_count-requires : goal.touch_count-requires
touch_count-requires c =
    let k = sym c.device_for_interface.ensures ∙ ap told c.in-Some.is in
    (c.requires, interface-within DeviceCapability.Touch c.args.touchscreen c.args.control.now k)

pub returns-then-touch_count-ge-EIS_MAX_TOUCHES : goal.returns-then-touch_count-ge-EIS_MAX_TOUCHES
returns-then-touch_count-ge-EIS_MAX_TOUCHES c =
    let a = c.args in
    let k = sym c.device_for_interface.ensures ∙ ap told c.in-Some.is in
    down_many a.control.now a.touchscreen a.touch a.request k (omega (arith, c.touch_count.ensures))

pub is_down-requires : goal.is_down-requires
is_down-requires c =
    let k = sym c.device_for_interface.ensures ∙ ap told c.in-Some.is in
    (c.requires, interface-within DeviceCapability.Touch c.args.touchscreen c.args.control.now k)

pub returns-then-is_down : goal.returns-then-is_down
returns-then-is_down c =
    let a = c.args in
    let k = sym c.device_for_interface.ensures ∙ ap told c.in-Some.is in
    down_twice a.control.now a.touchscreen a.touch a.request k (omega (arith, c.touch_count.ensures)) (sym c.is_down.ensures ∙ c.if-is_down.true)

pub queue_on-requires : goal.queue_on-requires
queue_on-requires c =
    let k = sym c.device_for_interface.ensures ∙ ap told c.in-Some.is in
    (c.requires, interface-within DeviceCapability.Touch c.args.touchscreen c.args.control.now k)

pub returns : goal.returns
returns c =
    let a = c.args in
    let k = sym c.device_for_interface.ensures ∙ ap told c.in-Some.is in
    down_queued a.control.now a.touchscreen a.touch a.request k (omega (arith, c.touch_count.ensures))
    (sym c.is_down.ensures ∙ c.if-is_down.false) c.queue_on.ensures

pub returns-in_default : goal.returns-in_default
unfolding handler
returns-in_default c =
    let a = c.args in
    λ version. touch_unknown a.control.now a.touchscreen a.touch Kind.TouchDown version refl a.request (sym c.device_for_interface.ensures ∙ ap told c.in_default.is)
