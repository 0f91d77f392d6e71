-- 21, 12 and 19 leave all as it was; else the objects of the device are destroyed, and it goes. Assumes nothing.
use Rattle.answers.specs.Answer.{error_of}
use mathlib.Core.Path.{◌≡◌, sym, ap, ◌∙◌, refl}
use mathlib.Core.List.{[], ◌∷◌}
use mathlib.Core.Option.{some}
use native.Mathlib.Omega.{arith}
use lib.Dec.{eqb}
use Rattle.model.specs.Call.{Plain}
use Rattle.model.specs.Edit.{Edit}
use Rattle.model_steps.proofs.Counted.{removes-device}
use Rattle.control.specs.Table.{first}
use Rattle.control.specs.Control.{cores_of}
use Rattle.eiproto.specs.Told.{told}
use Rattle.session.specs.View.{store}
use Rattle.session.proofs.Views.{lent_parts, found_bound}
use Rattle.events.proofs.Seen.{objects-seen}
use Rattle.answers.specs.declared.Error.{Error}
use Rattle.answers.proofs.Meetings.{lent-back, unlent_answered, lent-answered, told-handled, ends}
use Rattle.removal.proofs.Retiring.{retired_short, retired_handled}
use Rattle.device.proofs.Plans.{remove_unknown, remove-plan}
use Rattle.device.proofs.remove_device.Goals as goal

pub returns-in_err-check_lent : goal.returns-in_err-check_lent
returns-in_err-check_lent c = λ clock. unlent_answered c.in_err-check_lent.ensures c.from_residual.ensures.1

pub find_device-requires : goal.find_device-requires
find_device-requires c =
    (lent_parts _ _ _ c.in_ok-check_lent.ensures).sound

pub device_objects-requires : goal.device_objects-requires
device_objects-requires c =
    let found_at : let a = c.args in first (λ d. eqb d.id a.device) (cores_of a.control.now) ≡ some c.in-Some.k = sym c.find_device.ensures ∙ ap told c.in-Some.is in
    let a = c.args in
    let o = (lent_parts _ _ _ c.in_ok-check_lent.ensures).sound in
    (o, omega (arith, found_bound (store a.control.now [] [] []) a.device (found_at), o.devices))

-- 19
pub returns-then-out-device_objects : goal.returns-then-out-device_objects
returns-then-out-device_objects c =
    let found_at : let a = c.args in first (λ d. eqb d.id a.device) (cores_of a.control.now) ≡ some c.in-Some.k = sym c.find_device.ensures ∙ ap told c.in-Some.is in
    let a = c.args in
    λ clock.
    lent-answered c.in_ok-check_lent.ensures
    (λ texts whole.
    let s = store a.control.now a.words.now a.reals.now texts in
    retired_short s whole a.out.now (Plain.remove_device a.device) clock (Edit.remove_device _ ∷ []) (remove-plan s a.device clock (found_at)) (objects-seen s _)
    (removes-device _ _) c.device_objects.ensures.0 (omega arith) (refl, refl))

pub invariant_of-session : goal.invariant_of-session
invariant_of-session c =
    record { lent = lent_parts _ _ _ c.in_ok-check_lent.ensures }

pub retire_device-requires : goal.retire_device-requires
retire_device-requires c =
    let found_at : let a = c.args in first (λ d. eqb d.id a.device) (cores_of a.control.now) ≡ some c.in-Some.k = sym c.find_device.ensures ∙ ap told c.in-Some.is in
    let a = c.args in
    (found_bound (store a.control.now [] [] []) a.device (found_at), omega (arith, c.device_objects.ensures.0, c.if-out-device_objects.false))

-- gone
pub returns : goal.returns
returns c =
    let found_at : let a = c.args in first (λ d. eqb d.id a.device) (cores_of a.control.now) ≡ some c.in-Some.k = sym c.find_device.ensures ∙ ap told c.in-Some.is in
    let a = c.args in
    λ clock.
    lent-back c.retire_device.new.session (grind arith) (grind arith) (grind arith)
    (lent-answered c.in_ok-check_lent.ensures
    (λ texts whole.
    let s = store a.control.now a.words.now a.reals.now texts in
    retired_handled s whole a.out.now (Plain.remove_device a.device) clock (Edit.remove_device _ ∷ []) (remove-plan s a.device clock (found_at)) (objects-seen s _)
    (removes-device _ _) c.device_objects.ensures.0 (omega (arith, c.if-out-device_objects.false)) c.retire_device.ensures.step
    (c.retire_device.new.session.lent.words_long ∙ sym (lent_parts _ _ _ c.in_ok-check_lent.ensures).words_long) (c.retire_device.new.session.lent.reals_long ∙ sym (lent_parts _ _ _ c.in_ok-check_lent.ensures).reals_long) (ends c.sent.ensures)))

-- 12
pub returns-in_default : goal.returns-in_default
returns-in_default c =
    let a = c.args in
    λ clock.
    lent-answered c.in_ok-check_lent.ensures
    (λ texts whole.
    let s = store a.control.now a.words.now a.reals.now texts in
    told-handled s a.out.now (Plain.remove_device a.device) clock (error_of Error.UnknownHandle) _ whole
    (remove_unknown s a.device clock (sym c.find_device.ensures ∙ ap told c.in_default.is)) (refl, refl))
