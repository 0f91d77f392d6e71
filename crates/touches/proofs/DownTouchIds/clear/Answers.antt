-- A count of 0 holds none of the ids, whatever they are. Assumes nothing.
use mathlib.Core.Path.{refl}
use native.Mathlib.Omega.{arith}
use Rattle.touches.proofs.DownTouchIds.clear.Goals as goal

pub returns : goal.returns
returns c = record { ids_are = refl; counted = refl; within = omega arith }
