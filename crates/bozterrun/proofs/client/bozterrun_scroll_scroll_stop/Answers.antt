-- The request waits as it came. Assumes nothing.
use Rattle.model.specs.Call.{Input}
use Rattle.handlers.proofs.Timed.{stop-queued}
use Rattle.bozterrun.proofs.client.bozterrun_scroll_scroll_stop.Goals as goal

pub returns : goal.returns
returns c = c.queue.ensures (Input.ScrollStop _ _ _) (stop-queued _ _ _) c.scroll_stop-request.ensures
