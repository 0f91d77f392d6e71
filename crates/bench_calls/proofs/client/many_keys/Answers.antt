-- A press more in each turn. Assumes nothing.
use Rattle.bench_calls.specs.Sent.{Sent, presses}
use Rattle.bench_calls.proofs.Sends.{sent_as, pressed-more, pressed_all}
use Rattle.std.proofs.Common.{arith}
use Rattle.bench_calls.proofs.client.many_keys.Goals as goal

pub loop-code-init : goal.loop-code-init
unfolding presses
loop-code-init c = Sent.none

pub loop-code-preserved : goal.loop-code-preserved
loop-code-preserved c =
    pressed-more _ c.loop-code.invariant (sent_as _ c.key.ensures c.without_text.ensures)

pub returns : goal.returns
returns c = pressed_all _ (omega arith) c.loop-code.invariant
