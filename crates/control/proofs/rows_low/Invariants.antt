-- Each count is at most all of them joined bit by bit, and these are below a power of two that is no limit yet. Assumes nothing.
use Rattle.std.proofs.Common.{ℕ, ◌<◌, ◌≤◌}
use Rattle.control.specs.Control.{pending_at, held_at}
use Rattle.control.proofs.rows_low.Given as goal

abbrev pub invariant-loop-k : goal.invariant-loop-k
invariant-loop-k l =
    (j : ℕ) → j < l.k → (pending_at l.control j ≤ l.pending) × (held_at l.control j ≤ l.held)
