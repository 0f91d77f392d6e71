-- What C is told of a record or a message that is turned into the other. Assumes nothing.
use Rattle.std.specs.Prelude.{ℕ, List, ◌≡◌}
use Rattle.session.specs.Slices.{Numbers}
use Rattle.event_messages.specs.Stands.{Turned}
use Rattle.event_messages.specs.declared.MessageError.{MessageError}
use Rattle.event_messages.specs.Written.{Written}
use Rattle.std.specs.Prelude.{Ok, Err}
use Rattle.answer_numbers.specs.Numbers.{malformed_number, unsendable_number}
use Rattle.bozterrun.specs.Reply.{Number}

-- 26, 23, and "19 SHORT_OUT"
abbrev pub error_number : MessageError → ℕ
error_number MessageError.Unsendable = unsendable_number
error_number MessageError.Malformed = malformed_number
error_number MessageError.ShortOut = 19

-- 0, or the refusal's number; and how many bytes were written
abbrev pub written_status : Written → ℕ
written_status (Ok n) = 0
written_status (Err e) = error_number e

abbrev pub written_count : Written → ℕ
written_count (Ok n) = n
written_count (Err e) = 0

-- THE NUMBERS ARE THOSE OF WHAT THE CALL PROMISES
pub record Turns (Asked : List ℕ → Type 0) (refusal : MessageError) (out : Numbers) (count : Number) (status : ℕ) : Type 0 where
  pub written : Written
  pub promised : Turned Asked refusal out.entry.now out.exit.now written
  pub status_is : status ≡ written_status written
  pub count_is : count.exit.now ≡ written_count written
