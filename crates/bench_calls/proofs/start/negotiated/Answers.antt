-- One message of the client. Assumes nothing.
use Rattle.bench_calls.specs.Begun.{Knows}
use Rattle.bench_calls.proofs.start.negotiated.Goals as goal

pub returns : goal.returns
returns c = Knows.knows c.handle_request.ensures
