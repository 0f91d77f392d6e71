-- The loop passes slots whose device does not list it. Assumes nothing.
use Rattle.std.proofs.Common.{◌≡◌, ℕ, ◌<◌, false}
use Rattle.model.specs.Decide.{lists_as}
use Rattle.control.specs.Control.{core_at}
use Rattle.control.proofs.find_interface.Given as goal

abbrev pub invariant-loop-k : goal.invariant-loop-k
invariant-loop-k l = (j : ℕ) → j < l.k → lists_as l.bit l.id (core_at l.control j).interfaces ≡ false
