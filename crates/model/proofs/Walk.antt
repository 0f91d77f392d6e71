-- THE WALK: every plan of `decide` is one of seventeen (Leaves). What is to hold of every plan is shown of these. Assumes nothing.
use Prim.Native.Nat.{ℕ}
use mathlib.Core.Bool.{Bool, true, false}
use Rattle.model.specs.Call.{Sight, Call}
use Rattle.model.specs.Session.{View}
use Rattle.model.specs.Decide.{decide}
use Rattle.model.proofs.Leaves.{Leaf, timed_leaf, plain_leaf}

pub walk : (v : View) (now : ℕ) (c : Call Sight) → Leaf v now c (decide v now c)
unfolding decide
walk v now (Call.timed i ver x) = timed_leaf v now i ver x
walk v now (Call.plain c) = plain_leaf v now c

-- whether a call is a timed request
unfoldable pub is_timed : {A : Type 0} → Call A → Bool
is_timed (Call.timed i v a) = true
is_timed (Call.plain c) = false
