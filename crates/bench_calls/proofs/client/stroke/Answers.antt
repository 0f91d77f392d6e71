-- Down, motion, up. Assumes nothing.
use Rattle.bench_calls.proofs.Sends.{sent_join, sent_as}
use Rattle.bench_calls.proofs.client.stroke.Goals as goal

pub returns : goal.returns
returns c =
    sent_join (sent_as _ c.down.ensures c.without_text.ensures)
    (sent_join (sent_as _ c.motion.ensures c.without_text-2.ensures) (sent_as _ c.up.ensures c.without_text-3.ensures))
