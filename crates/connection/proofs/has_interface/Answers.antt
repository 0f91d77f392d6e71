-- 21, 10, or the answer. Assumes nothing.
use mathlib.Core.Path.{◌≡◌, refl, sym, ◌∙◌}
use mathlib.Core.Bool.{true}
use Rattle.utf8.specs.Rfc3629.{is_utf8}
use Rattle.control.proofs.Sounds.{sound_bounds}
use Rattle.session.specs.View.{store}
use Rattle.answers.proofs.Meetings.{failed, passed, unsound_answered, sound-answered, ends}
use Rattle.connection.proofs.Interfaces.{has_invalid, has-told, some_is}
use Rattle.std.proofs.lemmas.Bool.{not_from_false, not_from_true}
use Rattle.connection.proofs.has_interface.Goals as goal

pub returns-in_err-check_sound : goal.returns-in_err-check_sound
returns-in_err-check_sound c = λ clock out. unsound_answered c.in_err-check_sound.ensures c.from_residual.ensures.1

-- 10
pub returns-then-not-valid : goal.returns-then-not-valid
returns-then-not-valid c =
    let a = c.args in
    λ clock out.
    sound-answered c.in_ok-check_sound.ensures
    (λ words reals texts whole.
    has_invalid (store a.control.now words reals texts) whole out clock a.name.now (failed c.valid.ensures (not_from_false _ c.if-not-valid.true)) (refl, refl))

pub negotiated-requires : goal.negotiated-requires
negotiated-requires c =
    (sound_bounds _ c.in_ok-check_sound.ensures).long

pub returns : goal.returns
returns c =
    let valid_at : is_utf8 c.args.name.now ≡ true = passed c.valid.ensures (not_from_true _ c.if-not-valid.false) in
    let a = c.args in
    λ clock out.
    sound-answered c.in_ok-check_sound.ensures
    (λ words reals texts whole.
    has-told (store a.control.now words reals texts) whole out clock a.name.now (valid_at) c.negotiated.ensures _ (some_is _ ∙ sym c.is_some-known.ensures) (ends c.told.ensures))
