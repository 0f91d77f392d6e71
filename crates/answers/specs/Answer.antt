-- "For an answer that is an enum, a definition gives this paper's number and values for each case." Assumes nothing.
use Rattle.std.specs.Prelude.{ℕ, ◌≡◌, Result, Ok, Err}
use Rattle.answers.specs.declared.Error.{Error}
use Rattle.answers.specs.declared.Outcome.{Outcome}
use Rattle.answers.specs.declared.Answer.{Answer}
use Rattle.model.specs.Plan.{refusal}
use Rattle.model.specs.Plan as plan

abbrev pub error_of : Error → plan.Result
error_of Error.UnexpectedHandshakeEvent = plan.Result.refused 1
error_of (Error.InvalidInterfaceVersion i v) = plan.Result.refused_version i v
error_of Error.InvalidCapabilities = plan.Result.refused 3
error_of Error.TooManyTouches = plan.Result.refused 4
error_of Error.DuplicatedTouchDown = plan.Result.refused 5
error_of Error.InvalidTextLength = plan.Result.refused 6
error_of Error.BadUtf8 = plan.Result.refused 10
error_of Error.NameLong = plan.Result.refused 11
error_of Error.UnknownHandle = plan.Result.refused 12
error_of Error.BadCapabilities = plan.Result.refused 13
error_of Error.FullSeats = plan.Result.refused 14
error_of Error.FullDevices = plan.Result.refused 15
error_of Error.FullPending = plan.Result.refused 16
error_of Error.FullQueue = plan.Result.refused 17
error_of Error.FullTexts = plan.Result.refused 18
error_of Error.ShortOut = plan.Result.refused 19
error_of Error.IdsSpent = plan.Result.refused 20
error_of Error.BadState = plan.Result.refused 21
error_of Error.BadPart = plan.Result.refused 22
error_of Error.InvalidId = plan.Result.refused 25

-- the number of a refusal
unfoldable pub number_of : Error → ℕ
unfolding refusal
number_of e = refusal (error_of e)

-- how a call ends that is not refused
abbrev pub ending_of : Outcome → plan.Result
ending_of Outcome.Accepted = plan.Result.accepted
ending_of (Outcome.Seat id) = plan.Result.seat id
ending_of (Outcome.Device id) = plan.Result.device id
ending_of (Outcome.Value n) = plan.Result.value n
ending_of (Outcome.Truth b) = plan.Result.truth b
ending_of Outcome.None = plan.Result.none

-- how a call ends
abbrev pub outcome_of : Result Answer Error → plan.Result
outcome_of (Ok a) = ending_of a.outcome
outcome_of (Err e) = error_of e

-- how many bytes of events it wrote: one that is refused writes none
abbrev pub count_of : Result Answer Error → ℕ
count_of (Ok a) = a.count
count_of (Err e) = 0

-- both
abbrev pub Tells : Result Answer Error → plan.Result → (count : ℕ) → Type 0
Tells r o n = (outcome_of r ≡ o) × (count_of r ≡ n)
