-- 21, 10, or the answer. Assumes nothing.
use mathlib.Core.Path.{◌≡◌, refl, sym, ap, ◌∙◌}
use mathlib.Core.Bool.{true}
use Rattle.utf8.specs.Rfc3629.{is_utf8}
use Rattle.model.specs.Decide.{version_answer}
use Rattle.eiproto.specs.Told.{told}
use Rattle.control.proofs.Sounds.{sound_bounds}
use Rattle.session.specs.View.{store}
use Rattle.model.specs.Plan as plan
use Rattle.answers.proofs.Meetings.{failed, passed, unsound_answered, sound-answered, ends}
use Rattle.connection.proofs.Interfaces.{version_invalid, version_told_lem}
use Rattle.std.proofs.lemmas.Bool.{not_from_false, not_from_true}
use Rattle.connection.proofs.interface_version.Goals as goal

pub returns-in_err-check_sound : goal.returns-in_err-check_sound
returns-in_err-check_sound c = λ clock out. unsound_answered c.in_err-check_sound.ensures c.from_residual.ensures.1

-- 10
pub returns-then-not-valid : goal.returns-then-not-valid
returns-then-not-valid c =
    let a = c.args in
    λ clock out.
    sound-answered c.in_ok-check_sound.ensures
    (λ words reals texts whole.
    version_invalid (store a.control.now words reals texts) whole out clock a.name.now (failed c.valid.ensures (not_from_false _ c.if-not-valid.true)) (refl, refl))

pub negotiated-requires : goal.negotiated-requires
negotiated-requires c =
    (sound_bounds _ c.in_ok-check_sound.ensures).long

pub returns-in-Some : goal.returns-in-Some
unfolding version_answer
returns-in-Some c =
    let valid_at : is_utf8 c.args.name.now ≡ true = passed c.valid.ensures (not_from_true _ c.if-not-valid.false) in
    let a = c.args in
    λ clock out.
    sound-answered c.in_ok-check_sound.ensures
    (λ words reals texts whole.
    version_told_lem (store a.control.now words reals texts) whole out clock a.name.now (valid_at)
    (ap told (sym c.in-Some.is) ∙ c.negotiated.ensures) _ refl (ends c.told.ensures))

pub returns-in-None : goal.returns-in-None
unfolding version_answer
returns-in-None c =
    let valid_at : is_utf8 c.args.name.now ≡ true = passed c.valid.ensures (not_from_true _ c.if-not-valid.false) in
    let a = c.args in
    λ clock out.
    sound-answered c.in_ok-check_sound.ensures
    (λ words reals texts whole.
    version_told_lem (store a.control.now words reals texts) whole out clock a.name.now (valid_at)
    (ap told (sym c.in-None.is) ∙ c.negotiated.ensures) plan.Result.none refl (ends c.told-in-None.ensures))
