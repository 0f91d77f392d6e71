-- Bitwise and with the whole leaves a part as it is. Assumes nothing.
use mathlib.Core.Path.{sym, ap, ◌∙◌}
use Prim.Native.Nat.{ℕ}
use lib.Dec.{eqb}
use native.Mathlib.Omega.{arith}
use Rattle.eiproto.proofs.Bits.{and-common, contains_is}
use Rattle.eiproto.proofs.event.DeviceCapability.contains.Goals as goal

pub returns : goal.returns
returns c =
    ap (λ (x : ℕ). eqb x c.args.part) (and-common c.args.part c.args.whole (omega arith))
    ∙ sym (contains_is c.args.whole c.args.part (omega arith))
