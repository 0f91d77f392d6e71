-- The call's answer, as numbers. Assumes nothing.
use mathlib.Core.Path.{refl}
use native.Mathlib.Omega.{arith}
use Rattle.bozterrun.proofs.station.bozterrun_add_seat.Goals as goal

pub returns-then-given-gt1 : goal.returns-then-given-gt1
returns-then-given-gt1 c =
    record {
      gave = λ low. absurd (omega arith);
      value = λ high. (refl, (refl, (refl, (refl, refl))));
    }

pub returns : goal.returns
returns c =
    record {
      gave = λ low. record { answer = c.add_seat-answer.result; promised = rw c.if_given-name.ensures at c.add_seat-answer.ensures; status_is = c.gave.ensures.status_is; rest = (c.gave.ensures.count_is, c.gave.ensures.id_is) };
      value = λ high. absurd (omega arith);
    }
