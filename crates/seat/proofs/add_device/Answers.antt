-- What the call is tested for before its limits, in the model's order. Assumes nothing.
use Prim.Native.Nat.{◌<◌}
use mathlib.Core.Path.{sym, ap, ◌∙◌, refl}
use Rattle.eiproto.specs.Told.{told}
use Rattle.control.proofs.Sounds.{sound_bounds}
use Rattle.session.specs.View.{store}
use Rattle.session.specs.Slices.{given}
use Rattle.events.proofs.Objects.{bits-known}
use Rattle.answers.proofs.Meetings.{handed_on, unsound_answered, sound-answered, refused_is}
use Rattle.seat.proofs.Added.{added_checked, added_unknown, added_seatless}
use Rattle.seat.proofs.add_device.Goals as goal

pub returns-in_err-check_sound : goal.returns-in_err-check_sound
returns-in_err-check_sound c = λ clock. unsound_answered c.in_err-check_sound.ensures c.from_residual.ensures.1

-- 13
pub returns-then-has_unknown : goal.returns-then-has_unknown
returns-then-has_unknown c =
    λ clock.
    sound-answered c.in_ok-check_sound.ensures
    (λ words reals texts whole.
    added_unknown (store c.args.control.now words reals texts) whole c.args.out.now clock c.args.seat (given c.args.name) c.args.kind c.args.capabilities c.in_ok-check_optional.ensures
    (sym c.has_unknown.ensures ∙ c.if-has_unknown.true) (refl, refl))

pub find_seat-requires : goal.find_seat-requires
find_seat-requires c =
    sound_bounds _ c.in_ok-check_sound.ensures

pub add_device_at-requires : goal.add_device_at-requires
add_device_at-requires c =
    let known_at : c.args.capabilities < 128 = bits-known c.args.capabilities c.has_unknown.ensures c.if-has_unknown.false in
    record {
      sound = sound_bounds _ c.in_ok-check_sound.ensures;
      fine = c.in_ok-check_optional.ensures;
      known = known_at;
      found = sym c.find_seat.ensures ∙ ap told c.in-Some.is;
    }

-- 10 or 11
pub returns-in_err-check_optional : goal.returns-in_err-check_optional
returns-in_err-check_optional c =
    let name = given c.args.name in
    λ clock.
    sound-answered c.in_ok-check_sound.ensures
    (λ words reals texts whole.
    added_checked (store c.args.control.now words reals texts) whole c.args.out.now clock c.args.seat name c.args.kind c.args.capabilities
    _ c.in_err-check_optional.ensures (refused_is (handed_on _ c.from_residual-in_err-check_optional.ensures.1)))

pub returns : goal.returns
returns c =
    λ clock. sound-answered c.in_ok-check_sound.ensures (c.add_device_at.ensures clock)

-- 12
pub returns-in_default : goal.returns-in_default
returns-in_default c =
    let known_at : c.args.capabilities < 128 = bits-known c.args.capabilities c.has_unknown.ensures c.if-has_unknown.false in
    λ clock.
    sound-answered c.in_ok-check_sound.ensures
    (λ words reals texts whole.
    added_seatless (store c.args.control.now words reals texts) whole c.args.out.now clock c.args.seat (given c.args.name) c.args.kind c.args.capabilities c.in_ok-check_optional.ensures
    (known_at) (sym c.find_seat.ensures ∙ ap told c.in_default.is) (refl, refl))
