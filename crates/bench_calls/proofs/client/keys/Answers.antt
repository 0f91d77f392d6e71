-- A press, then a release. Assumes nothing.
use Rattle.bench_calls.proofs.Sends.{sent_join, sent_as}
use Rattle.bench_calls.proofs.client.keys.Goals as goal

pub returns : goal.returns
returns c =
    sent_join (sent_as _ c.key.ensures c.without_text.ensures) (sent_as _ c.key-2.ensures c.without_text-2.ensures)
