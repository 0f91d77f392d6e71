-- The call's answer, as a number; an opcode past the last is refused. Assumes nothing.
use mathlib.Core.Path.{refl, sym}
use native.Mathlib.Omega.{arith}
use Rattle.bozterrun.proofs.client.bozterrun_unexpected_handshake.Goals as goal

pub returns-then-opcode-gt4 : goal.returns-then-opcode-gt4
returns-then-opcode-gt4 c =
    record {
      told = λ low. absurd (omega arith);
      value = λ high. refl;
    }

pub returns : goal.returns
returns c =
    record {
      told = λ low.
          record {
            answer = c.handle_handshake_request-answer.result;
            promised = rw (sym c.handshake_request-request.ensures) c.handle_handshake_request-answer.ensures;
            status_is = c.status.ensures;
            rest = tt;
          };
      value = λ high. absurd (omega arith);
    }
