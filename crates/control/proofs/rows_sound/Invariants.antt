-- The loop passes rows whose test holds. Assumes nothing.
use Rattle.std.proofs.Common.{◌≡◌, ℕ, ◌<◌, true}
use Rattle.control.specs.Sound.{row_sound}
use Rattle.control.proofs.rows_sound.Given as goal

abbrev pub invariant-loop-k : goal.invariant-loop-k
invariant-loop-k l = (j : ℕ) → j < l.k → row_sound l.control j ≡ true
