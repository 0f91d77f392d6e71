-- The loop passes devices that list none with the id. Assumes nothing.
use Rattle.std.proofs.Common.{◌≡◌, ℕ, ◌<◌}
use mathlib.Core.Option.{none}
use Rattle.model.specs.Live.{listed_as}
use Rattle.control.specs.Control.{core_at}
use Rattle.objects.proofs.find_listed.Given as goal

abbrev pub invariant-loop-k : goal.invariant-loop-k
invariant-loop-k l = (j : ℕ) → j < l.k → listed_as l.id (core_at l.control j).interfaces ≡ none
