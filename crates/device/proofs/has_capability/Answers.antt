-- The bit of a capability's mask is its index. Assumes nothing.
use Rattle.answers.specs.Answer.{error_of}
use mathlib.Core.Path.{sym, ap, ◌∙◌, refl}
use mathlib.Core.List.{[]}
use native.Mathlib.Omega.{arith}
use Rattle.model.specs.Call.{Plain}
use Rattle.eiproto.specs.Told.{told}
use Rattle.control.proofs.Sounds.{sound_bounds}
use Rattle.session.specs.View.{store}
use Rattle.session.proofs.Views.{found_bound}
use Rattle.answers.specs.declared.Error.{Error}
use Rattle.answers.proofs.Meetings.{unsound_answered, sound-answered, told-handled, ends}
use Rattle.device.proofs.Plans.{capability_unknown}
use Rattle.device.proofs.Devices.{capability-told}
use Rattle.device.proofs.has_capability.Goals as goal

pub returns-in_err-check_sound : goal.returns-in_err-check_sound
returns-in_err-check_sound c = λ clock out. unsound_answered c.in_err-check_sound.ensures c.from_residual.ensures.1

pub find_device-requires : goal.find_device-requires
find_device-requires c =
    sound_bounds _ c.in_ok-check_sound.ensures

pub has_capability-listed-requires : goal.has_capability-listed-requires
has_capability-listed-requires c =
    let a = c.args in
    let o = sound_bounds _ c.in_ok-check_sound.ensures in
    (o.long, omega (arith, found_bound (store a.control.now [] [] []) a.device (sym c.find_device.ensures ∙ ap told c.in-Some.is), o.devices))

pub returns : goal.returns
returns c =
    let a = c.args in
    λ clock out.
    sound-answered c.in_ok-check_sound.ensures
    (λ words reals texts whole.
    capability-told (store a.control.now words reals texts) whole out a.device clock a.capability (sym c.find_device.ensures ∙ ap told c.in-Some.is)
    c.mask.ensures c.lowest-bit.ensures c.has_capability-listed.ensures (ends c.told.ensures))

-- 12
pub returns-in_default : goal.returns-in_default
returns-in_default c =
    let a = c.args in
    λ clock out.
    sound-answered c.in_ok-check_sound.ensures
    (λ words reals texts whole.
    let s = store a.control.now words reals texts in
    told-handled s out (Plain.has_capability a.device a.capability) clock (error_of Error.UnknownHandle) _ whole
    (capability_unknown s a.device clock (sym c.find_device.ensures ∙ ap told c.in_default.is) a.capability) (refl, refl))
