-- The call's answer, as a number. Assumes nothing.
use Rattle.bozterrun.proofs.client.queue.Goals as goal

pub returns : goal.returns
returns c =
    λ i only waits.
    record {
      answer = c.queue_for_interface-answer.result;
      promised = λ version. c.queue_for_interface-answer.ensures version i only waits;
      status_is = c.status.ensures;
      rest = tt;
    }
