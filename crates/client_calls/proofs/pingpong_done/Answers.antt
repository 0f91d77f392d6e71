-- 21, or what the handler promises. Assumes nothing.
use Rattle.session.specs.View.{store}
use Rattle.handlers.proofs.Plain.{pingpong}
use Rattle.answers.proofs.Meetings.{unsound_answered, sound-answered, ends}
use Rattle.client_calls.proofs.pingpong_done.Goals as goal

pub returns-in_err-check_sound : goal.returns-in_err-check_sound
returns-in_err-check_sound c =
    λ clock out. unsound_answered c.in_err-check_sound.ensures c.from_residual.ensures.1

pub returns : goal.returns
returns c =
    λ clock out. sound-answered c.in_ok-check_sound.ensures (λ words reals texts whole. pingpong (store c.args.control.now words reals texts) out clock _ whole (ends c.accepted.ensures))
