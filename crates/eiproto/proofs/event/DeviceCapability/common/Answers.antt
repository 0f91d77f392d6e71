-- Bitwise and gives the shared bits. Assumes nothing.
use native.Mathlib.Omega.{arith}
use Rattle.eiproto.proofs.Bits.{and-common}
use Rattle.eiproto.proofs.event.DeviceCapability.common.Goals as goal

pub returns : goal.returns
returns c = and-common c.args.a c.args.b (omega arith)
