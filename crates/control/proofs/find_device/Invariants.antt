-- The loop passes slots with other ids. Assumes nothing.
use Rattle.std.proofs.Common.{◌≡◌, ℕ, ◌<◌, false, eqb}
use Rattle.control.specs.Control.{core_at}
use Rattle.control.proofs.find_device.Given as goal

abbrev pub invariant-loop-k : goal.invariant-loop-k
invariant-loop-k l = (j : ℕ) → j < l.k → eqb (core_at l.control j).id l.id ≡ false
