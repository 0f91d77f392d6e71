-- The count of ones is the number of set bits. Assumes nothing.
use mathlib.Core.Path.{sym}
use native.Mathlib.Omega.{arith}
use Rattle.eiproto.proofs.Bits.{bits-length}
use Rattle.eiproto.proofs.event.DeviceCapability.count.Goals as goal

pub returns : goal.returns
returns c = sym (bits-length c.args.mask (omega arith))
