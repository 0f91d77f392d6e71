-- The call's reply, as a number. Assumes nothing.
use Rattle.bozterrun.proofs.Unlent.{no_out}
use Rattle.bozterrun.proofs.handshakes.message.Goals as goal

pub returns : goal.returns
returns c =
    record {
      reply = c.handle_request-reply.result;
      promised = no_out c.handle_request-reply.auto.out c.handle_request-reply.ensures;
      status_is = c.status.ensures;
      rest = tt;
    }
