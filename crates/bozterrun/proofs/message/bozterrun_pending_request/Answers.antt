-- What the call promises of the bytes, as numbers. Assumes nothing.
use mathlib.Core.Path.{ap, ◌∙◌}
use Rattle.bozterrun.specs.declared.message.MessageTold.{MessageTold}
use Rattle.bozterrun.proofs.message.bozterrun_pending_request.Goals as goal

pub returns : goal.returns
returns c =
    record {
      received = c.pending_request-received.result;
      promised = c.pending_request-received.ensures;
      status_is = c.tell.ensures.status_is ∙ ap (λ (t : MessageTold). t.status) c.told_received.ensures;
      taken_is = c.tell.ensures.taken_is ∙ ap (λ (t : MessageTold). t.taken) c.told_received.ensures;
      count_is = c.tell.ensures.count_is ∙ ap (λ (t : MessageTold). t.count) c.told_received.ensures;
      error_is = c.tell.ensures.error_is ∙ ap (λ (t : MessageTold). t.error) c.told_received.ensures;
      first_is = c.tell.ensures.first_is ∙ ap (λ (t : MessageTold). t.first) c.told_received.ensures;
      second_is = c.tell.ensures.second_is ∙ ap (λ (t : MessageTold). t.second) c.told_received.ensures;
      rest = tt;
    }
