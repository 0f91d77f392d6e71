-- The refusals that a running session answers. proofs/Refusals.antt proves the statement. Assumes nothing.
use Rattle.std.specs.Prelude.{ℕ, ◌≡◌, Bool, true, ◌&&◌, ◌||◌, leb, eqb}
use Rattle.model.specs.Call.{Load, Split}
use Rattle.model.specs.Session.{Session}
use Rattle.model.specs.Plan.{refusal}
use Rattle.model.specs.Step.{step}

-- 0, which is no refusal, 1 to 6, 10 to 20 and 25: 7, 8 and 9 are the handshake's, 21 is for slices that hold no session, 22 for a record of a read, and 23 and
-- 24 for bytes that are no call
abbrev pub of_session : ℕ → Bool
of_session n = leb n 6 || ((leb 10 n && leb n 20) || eqb n 25)

-- no call on any session answers another number: never 21, nor 7, 8, 9
unfoldable pub OwnRefusals : Type 0
unfolding refusal step
OwnRefusals = (t : Split Load) (s : Session Load) → of_session (refusal (step t s).outcome) ≡ true
