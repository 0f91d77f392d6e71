-- Where no limit is met, the source decides. Assumes nothing.
use Rattle.std.specs.Prelude.{◌<◌, ◌≡◌}
use Rattle.model.specs.Call.{Split}
use Rattle.model.specs.Session.{Session}
use Rattle.model.specs.Plan.{refusal}
use Rattle.model.specs.Step.{source, step}

-- Demand 2: "the source decides .. on every session within the limits". "A session is within the limits while none of 10 to 21 is met": a call that
-- meets none of the refusals that the port added does what the source does, with its session, answer, events and given request. (21 is of stored
-- numbers that are no session)
unfoldable pub SourceDecides : Type 1
unfolding refusal step source
SourceDecides = (P : Type 0) (t : Split P) (s : Session P) → refusal (step t s).outcome < 10 → step t s ≡ source t s
