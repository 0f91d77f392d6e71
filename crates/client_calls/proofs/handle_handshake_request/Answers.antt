-- 21, or what the handler promises. Assumes nothing.
use mathlib.Core.List.{[]}
use Rattle.answers.proofs.Meetings.{unsound_answered, sound-answered}
use Rattle.client_calls.proofs.handle_handshake_request.Goals as goal

pub returns-in_err-check_sound : goal.returns-in_err-check_sound
returns-in_err-check_sound c =
    λ clock. unsound_answered c.in_err-check_sound.ensures c.from_residual.ensures.1

pub returns : goal.returns
returns c =
    λ clock. sound-answered c.in_ok-check_sound.ensures (c.handle_handshake_request.ensures c.args.control.now [] clock)
