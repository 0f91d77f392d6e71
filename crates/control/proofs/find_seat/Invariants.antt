-- The loop passes slots with other ids. Assumes nothing.
use Rattle.std.proofs.Common.{◌≡◌, ℕ, ◌<◌, false, eqb}
use Rattle.control.specs.Control.{seat_at}
use Rattle.control.proofs.find_seat.Given as goal

abbrev pub invariant-loop-k : goal.invariant-loop-k
invariant-loop-k l = (j : ℕ) → j < l.k → eqb (seat_at l.control j).id l.id ≡ false
