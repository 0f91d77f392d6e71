-- From the id's place on, each place gets the id behind it: the ids before k are the held ones up to k, without it, and those behind k are as
-- they were. Assumes nothing.
use Prim.Native.Nat.{ℕ, suc, ◌+◌, ◌≤◌, ◌<◌}
use mathlib.Core.Path.{◌≡◌}
use lib.ListN.{length, take, get_or}
use Rattle.touches.specs.declared.DownTouchIds.{DownTouchIds}
use Rattle.touches.specs.Touches.{held, without}
use Rattle.touches.proofs.Laws.{place}
use Rattle.touches.proofs.DownTouchIds.remove.Given as goal

-- k is at the id's place or behind it, and before the last held id
pub record Moved (id : ℕ) (d : DownTouchIds) (k : ℕ) (e : DownTouchIds) : Type 0 where
  pub from : place id (held d) ≤ k
  pub to : k < length (held d)
  pub places : length e.ids ≡ 16
  pub ids : take k e.ids ≡ without id (take (suc k) (held d))
  pub behind : (i : ℕ) → k < i → get_or e.ids i 0 ≡ get_or d.ids i 0

-- the next place is one behind k
abbrev pub invariant-loop-place : goal.invariant-loop-place
invariant-loop-place l = (k : ℕ) × ((l.place ≡ k + 1) × Moved l.id l.initial.self k l.self)
