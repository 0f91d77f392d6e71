-- One call of `handle_request`. Assumes nothing.
use Rattle.bench_calls.specs.Sent.{Sent}
use Rattle.bench_calls.proofs.client.with_text.Goals as goal

pub returns : goal.returns
returns c = Sent.sent c.handle_request.ensures Sent.none
