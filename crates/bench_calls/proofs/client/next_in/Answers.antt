-- Asked once more in each turn. Assumes nothing.
use Rattle.std.proofs.Common.{refl, arith}
use Rattle.bench_calls.specs.Sent.{Asked}
use Rattle.bench_calls.proofs.Sends.{asked_all, asked-more}
use Rattle.bench_calls.proofs.client.next_in.Goals as goal

pub loop-asked-init : goal.loop-asked-init
loop-asked-init c = (omega arith, Asked.none)

pub loop-asked-preserved : goal.loop-asked-preserved
loop-asked-preserved c =
    let o = c.loop-asked in
    asked-more c.next_request-answer.result (omega arith) o.invariant.0 c.count-given.ensures refl o.invariant.1 o.auto.buffer c.next_request-answer.ensures

pub returns : goal.returns
returns c = asked_all _ (omega arith) c.loop-asked.invariant.1
