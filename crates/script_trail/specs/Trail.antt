-- What a trail has of a line. Assumes nothing.
use Rattle.std.specs.Prelude.{ℕ, Bool, List, []}
use Rattle.script_show.specs.Answer.{answer_line, handshake_line, next_line, read_line, error_line}
use Rattle.script_message.specs.Shown.{message_line, handshake_message_line}
use Rattle.script_events.specs.Shown.{event_line}
use Rattle.script_run.specs.declared.call.Run.{Run}
use Rattle.script_run.specs.declared.call.Told.{Told}
use Rattle.script_run.specs.declared.call.Took.{Took}

abbrev pub line_of : Run → Told → (out : List ℕ) → (explained : Bool) → List ℕ
line_of run Told.Nothing out x = []
line_of run (Told.Error why) out x = error_line run.line
line_of run Told.Shaken out x = handshake_line run.shaken out x
line_of run (Told.Answered a) out x = answer_line a out x
line_of run (Told.Given next) out x = next_line next out x
line_of run (Told.Begun n) out x = []
line_of run Told.Gathered out x = []
line_of run (Told.Handed n count refusal) out x = read_line n count refusal out x
line_of run (Told.Received r) out x = message_line r out x
line_of run (Told.ShakenBy n) out x = handshake_message_line run.shaken n out x
line_of run (Told.Turned event r) out x = event_line event r out x

-- nothing of a comment, of a setting and of a read before its last record; `error line N`; or the answer, with the event records that begin `out`
abbrev pub trail_of : Took → (out : List ℕ) → (explained : Bool) → List ℕ
trail_of t out x = line_of t.run t.told out x
