-- The call's request with its part of the message is the definition's. Assumes nothing.
use Prim.Native.Nat.{◌+◌, ◌-◌}
use mathlib.Core.Path.{◌≡◌}
use native.Mathlib.Omega.{arith}
use Rattle.handshake_messages.proofs.hand_on.Goals as goal

pub returns : goal.returns
returns c =
    let a = c.args in
    let n = c.call_of-call.result.length in
    let k : a.a.start + n - a.a.start ≡ n = omega arith in
    rw (← c.call_of-call.ensures.request a.message.now) (rw k at c.handle_request.ensures)
