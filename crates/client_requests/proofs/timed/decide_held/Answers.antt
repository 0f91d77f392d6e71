-- The touch must be down. Assumes nothing.
use mathlib.Core.Path.{sym, ap, ◌∙◌}
use Rattle.eiproto.specs.Told.{told}
use Rattle.eiproto.specs.declared.event.DeviceCapability.{DeviceCapability}
use borrow.Author.Tests.{not-true, not-false}
use Rattle.client_requests.proofs.Decisions.{interface-within, touch_unknown, touch-not-held, touch-held}
use Rattle.std.proofs.lemmas.Bool.{not_from_false, not_from_true}
use Rattle.client_requests.proofs.timed.decide_held.Goals as goal

pub is_down-requires : goal.is_down-requires
is_down-requires c =
    let k = sym c.device_for_interface.ensures ∙ ap told c.in-Some.is in
    (c.requires.0, interface-within DeviceCapability.Touch c.args.touchscreen c.args.control.now k)

pub returns-then-not-is_down : goal.returns-then-not-is_down
returns-then-not-is_down c =
    let a = c.args in
    let k = sym c.device_for_interface.ensures ∙ ap told c.in-Some.is in
    λ kind version only. touch-not-held a.control.now a.touchscreen a.touch only a.request k (sym c.is_down.ensures ∙ not-true _ (not_from_false _ c.if-not-is_down.true))

pub queue_on-requires : goal.queue_on-requires
queue_on-requires c =
    let k = sym c.device_for_interface.ensures ∙ ap told c.in-Some.is in
    (c.requires.0, interface-within DeviceCapability.Touch c.args.touchscreen c.args.control.now k)

pub returns : goal.returns
returns c =
    let a = c.args in
    let k = sym c.device_for_interface.ensures ∙ ap told c.in-Some.is in
    λ kind version only.
    touch-held a.control.now a.touchscreen a.touch only a.request k c.requires.1 (sym c.is_down.ensures ∙ not-false _ (not_from_true _ c.if-not-is_down.false)) c.queue_on.ensures

pub returns-in_default : goal.returns-in_default
returns-in_default c =
    let a = c.args in
    λ kind version only. touch_unknown a.control.now a.touchscreen a.touch kind version only.by a.request (sym c.device_for_interface.ensures ∙ ap told c.in_default.is)
