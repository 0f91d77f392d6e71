-- A line of a trail, as the definitions compute it. Assumes nothing.
use Rattle.std.specs.Prelude.{ℕ, ◌+◌, ◌*◌, List, [], ◌∷◌, map, Float}
use Rattle.std.proofs.Math.Option.{Option}
use Rattle.std.specs.Float.Ieee.{of_bits}
use Rattle.std.specs.Float.{binary32}
use Rattle.model.specs.Call.{Kind, Input, Load, Call, Turn}
use Rattle.model.specs.Session.{Item, Queued}
use Rattle.model.specs.Plan.{Result, records}
use Rattle.model.specs.Step.{Step}
use Rattle.model.specs.Demand3.{trail}

-- bytes as one number, behind a 1 so that none is lost
unfoldable pub digits : ℕ → List ℕ → ℕ
digits n [] = n
digits n (b ∷ bs) = digits (n * 256 + b) bs

pub record Line : Type 0 where
  pub outcome : Result
  pub events : ℕ
  pub given : List (Queued Load)

abbrev pub line : Result → ℕ → List (Queued Load) → Line
line o e g = record { outcome = o; events = e; given = g }

abbrev pub an : Kind → (touch size : ℕ) → Load → Item Load
an k t z p = record { kind = k; touch = t; size = z; load = p }

abbrev pub turn : Call Input → (now room : ℕ) → Turn
turn c now room = record { call = c; now = now; room = room }

unfoldable pub f32 : ℕ → Float
f32 bits = of_bits binary32 bits

unfoldable pub line_of : Step Load → Line
unfolding digits records
line_of r = record { outcome = r.outcome; events = digits 1 (records r.events); given = r.gave }

unfoldable pub computed : (connection serial next_id : ℕ) (versions : List (Option ℕ)) → List Turn → List Line
unfolding line_of trail
computed c s n vs ts = map line_of (trail c s n vs ts)
