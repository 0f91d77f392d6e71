-- What the call promises of the bytes, as numbers, and whether the session has begun. Assumes nothing.
use mathlib.Core.Path.{ap, ◌∙◌}
use Rattle.bozterrun.specs.declared.message.MessageTold.{MessageTold}
use Rattle.bozterrun.proofs.message.bozterrun_handshake_pending_request.Goals as goal

pub returns : goal.returns
returns c =
    record {
      received = c.pending_request-answer.result;
      promised = c.pending_request-answer.ensures;
      status_is = c.tell.ensures.status_is ∙ ap (λ (t : MessageTold). t.status) c.told_reply.ensures;
      taken_is = c.tell.ensures.taken_is ∙ ap (λ (t : MessageTold). t.taken) c.told_reply.ensures;
      count_is = c.tell.ensures.count_is ∙ ap (λ (t : MessageTold). t.count) c.told_reply.ensures;
      error_is = c.tell.ensures.error_is ∙ ap (λ (t : MessageTold). t.error) c.told_reply.ensures;
      first_is = c.tell.ensures.first_is ∙ ap (λ (t : MessageTold). t.first) c.told_reply.ensures;
      second_is = c.tell.ensures.second_is ∙ ap (λ (t : MessageTold). t.second) c.told_reply.ensures;
      rest = c.begun_by.ensures;
    }
