-- 21, or what the handler promises. Assumes nothing.
use Rattle.control.proofs.Sounds.{sound_bounds}
use Rattle.answers.proofs.Meetings.{unsound_answered, sound-answered}
use Rattle.client_calls.proofs.release_interface.Goals as goal

pub returns-in_err-check_sound : goal.returns-in_err-check_sound
returns-in_err-check_sound c =
    λ clock. unsound_answered c.in_err-check_sound.ensures c.from_residual.ensures.1

pub release_interface-requires : goal.release_interface-requires
release_interface-requires c =
    sound_bounds _ c.in_ok-check_sound.ensures

pub returns : goal.returns
returns c =
    λ clock. sound-answered c.in_ok-check_sound.ensures (c.release_interface.ensures clock)
