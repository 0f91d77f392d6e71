-- What is promised of a call that is lent the first bytes of a buffer, as many as the script says. Assumes nothing.
use Rattle.std.specs.Borrow.{Bor}
use Rattle.std.specs.Prelude.{ℕ, min, ◌≡◌, List, ◌++◌, length, take, drop, Option, Result}
use Rattle.model.specs.Call.{Input, Call}
use Rattle.session.specs.View.{Lending, store}
use Rattle.session.specs.Slices.{Numbers, SharedNumbers, Reals, SharedReals, before, after, rows_before, rows_after}
use Rattle.answers.specs.declared.Answer.{Answer}
use Rattle.answers.specs.declared.Error.{Error}
use Rattle.answers.specs.Meets.{Answered}
use Rattle.requests.specs.declared.request.EisRequest.{EisRequest}
use Rattle.converter.specs.Next.{Delivered}
use Rattle.script_asked.specs.declared.Station.{Station}
use Rattle.script_calls.specs.Station.{is_lent, lent_bytes, lending, station_call}

-- how many bytes are lent of those that there are
abbrev pub room : (said : ℕ) → List ℕ → ℕ
room said out = min said (length out)

-- What holds of the lent bytes before and after; those behind them are as they were
pub record InRoom (said : ℕ) (out exit : List ℕ) (Holds : (lent later : List ℕ) → Type 0) : Type 0 where
  pub later : List ℕ
  pub holds : Holds (take (room said out) out) later
  pub rest : exit ≡ later ++ drop (room said out) out

-- a client's request
abbrev pub PromiseIn : (control words : Numbers) (reals : Reals) (texts : Numbers) (said : ℕ) (out : Numbers) → Call Input → (clock : ℕ) → Result Answer Error → Type 0
PromiseIn c w r t said out call clock a =
    InRoom said out.entry.now out.exit.now (λ lent later. Answered Lending.all (before c w r t) (after c w r t) lent later call clock a)

-- a call of the station, at any clock and whatever the texts are
abbrev pub StationIn : (control words : Numbers) (reals : Reals) (said : ℕ) (out : Numbers) → Station → (text : Option (Bor (List ℕ))) → Result Answer Error → Type 0
StationIn c w r said out call text a =
    InRoom said out.entry.now out.exit.now
    (λ lent later. (clock : ℕ) (t : List ℕ) → Answered (lending call) (rows_before c w r t) (rows_after c w r t) lent later (Call.plain (station_call call (is_lent text) (lent_bytes text))) clock a)

-- next_request
abbrev pub DeliversIn : (control : Numbers) (words : SharedNumbers) (reals : SharedReals) (texts : SharedNumbers) (said : ℕ) (buffer : Numbers) → Result (Option EisRequest) Error → Type 0
DeliversIn c w r t said buffer a =
    InRoom said buffer.entry.now buffer.exit.now (λ lent later. Delivered (store c.entry.now w.entry.now r.entry.now t.entry.now) (store c.exit.now w.entry.now r.entry.now t.entry.now) lent later a)
