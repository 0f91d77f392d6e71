-- The lines of a trail that an event's message and its record have. Assumes nothing.
use Rattle.std.specs.Prelude.{ℕ, ◌+◌, Bool, true, cond, List, [], ◌∷◌, ◌++◌, take}
use Rattle.model.specs.Plan.{Result}
use Rattle.event_messages.specs.declared.MessageError.{MessageError}
use Rattle.event_messages.specs.Written.{Written}
use Rattle.std.specs.Prelude.{Ok, Err}
use Rattle.script_asked.specs.declared.Event.{Event}
use Rattle.script_pattern.specs.Pattern.{first_event, shown, bytes_of}
use Rattle.script_pattern.specs.declared.table.Shown.{Shown}
use Rattle.script_show.specs.Answer.{result_shown}
use Rattle.script_show.specs.Records.{each_record, record_bytes}

-- "They are refused with 26 and 19, with 23 (without a case) and 19"
abbrev pub refused : (explained : Bool) → MessageError → Shown
refused x MessageError.Unsendable = result_shown x (Result.refused 26)
refused x MessageError.Malformed = result_shown x (Result.refused 23)
refused x MessageError.ShortOut = result_shown x (Result.refused 19)

-- the pattern of what was turned: "`message t:HEX` · `record t:HEX`"
abbrev pub event_pattern : Event → ℕ
event_pattern (Event.Write interface) = first_event
event_pattern (Event.Read interface) = first_event + 1

abbrev pub event_shown : (explained : Bool) → Event → Written → Shown
event_shown x event (Ok n) = shown (event_pattern event) 0 0 0 0 0
event_shown x event (Err e) = refused x e

-- how many bytes were written
abbrev pub event_count : Written → ℕ
event_count (Ok n) = n
event_count (Err e) = 0

-- a record in words, on a line of its own; a message has none
abbrev pub event_words : Event → (bytes : List ℕ) → List ℕ
event_words (Event.Write interface) bytes = []
event_words (Event.Read interface) bytes = each_record (record_bytes true) bytes

-- WHAT AN EVENT'S RECORD OR MESSAGE IS ANSWERED; what was written begins `out`. Explained, a record has its words behind it
unfoldable pub event_line : Event → Written → (out : List ℕ) → (explained : Bool) → List ℕ
unfolding bytes_of each_record record_bytes
event_line event r out x =
    let bytes = take (event_count r) out in
    (bytes_of (event_shown x event r) bytes ++ (0x0a ∷ [])) ++ cond x (event_words event bytes) []
