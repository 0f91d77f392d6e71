-- 21, or the answer. Assumes nothing.
use Rattle.control.proofs.Sounds.{sound_bounds}
use Rattle.session.specs.View.{store}
use Rattle.answers.proofs.Meetings.{unsound_answered, sound-answered, ends}
use Rattle.connection.proofs.Interfaces.{serial-told}
use Rattle.connection.proofs.last_serial.Goals as goal

pub returns-in_err-check_sound : goal.returns-in_err-check_sound
returns-in_err-check_sound c = λ clock out. unsound_answered c.in_err-check_sound.ensures c.from_residual.ensures.1

pub last_serial-requires : goal.last_serial-requires
last_serial-requires c =
    (sound_bounds _ c.in_ok-check_sound.ensures).long

pub returns : goal.returns
returns c =
    λ clock out.
    sound-answered c.in_ok-check_sound.ensures
    (λ words reals texts whole.
    serial-told (store c.args.control.now words reals texts) whole out clock c.last_serial.ensures (ends c.told.ensures))
