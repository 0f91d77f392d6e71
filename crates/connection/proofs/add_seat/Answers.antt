-- 21, 10 or 11, 13, then the limits. Assumes nothing.
use mathlib.Core.Path.{sym, ◌∙◌, refl}
use Rattle.control.proofs.Sounds.{sound_bounds}
use Rattle.session.specs.View.{store}
use Rattle.session.specs.Slices.{given}
use Rattle.events.proofs.Objects.{bits-known}
use Rattle.answers.proofs.Meetings.{handed_on, unsound_answered, sound-answered, refused_is}
use Rattle.connection.proofs.Seats.{seat-refused, seat_unknown}
use Rattle.connection.proofs.add_seat.Goals as goal

pub returns-in_err-check_sound : goal.returns-in_err-check_sound
returns-in_err-check_sound c = λ clock. unsound_answered c.in_err-check_sound.ensures c.from_residual.ensures.1

-- 13
pub returns-then-has_unknown : goal.returns-then-has_unknown
returns-then-has_unknown c =
    λ clock.
    sound-answered c.in_ok-check_sound.ensures
    (λ words reals texts whole.
    seat_unknown (store c.args.control.now words reals texts) whole c.args.out.now clock (given c.args.name) c.args.capabilities c.in_ok-check_optional.ensures
    (sym c.has_unknown.ensures ∙ c.if-has_unknown.true) (refl, refl))

pub add_seat_at-requires : goal.add_seat_at-requires
add_seat_at-requires c =
    record {
      sound = sound_bounds _ c.in_ok-check_sound.ensures;
      fine = c.in_ok-check_optional.ensures;
      known = bits-known c.args.capabilities c.has_unknown.ensures c.if-has_unknown.false;
    }

-- 10 or 11
pub returns-in_err-check_optional : goal.returns-in_err-check_optional
returns-in_err-check_optional c =
    let name = given c.args.name in
    λ clock.
    sound-answered c.in_ok-check_sound.ensures
    (λ words reals texts whole.
    seat-refused (store c.args.control.now words reals texts) whole c.args.out.now clock name c.args.capabilities
    _ c.in_err-check_optional.ensures (refused_is (handed_on _ c.from_residual-in_err-check_optional.ensures.1)))

pub returns : goal.returns
returns c =
    λ clock. sound-answered c.in_ok-check_sound.ensures (c.add_seat_at.ensures clock)
