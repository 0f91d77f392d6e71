-- A line of a read, and the texts of a read, which stand in its first line. Assumes nothing.
use Rattle.std.specs.Prelude.{ℕ, ◌≡◌, Bool, true, false, cond, List, [], Option, Some, None, Result, Ok, Err}
use Rattle.script.specs.declared.value.Value.{Value}
use Rattle.script.specs.declared.text.Part.{Part}
use Rattle.script.specs.declared.line.Args.{Args}
use Rattle.script.specs.declared.line.Line.{Line}
use Rattle.script.specs.Text.{text_bytes, Copied}
use Rattle.script.specs.Told.{part_in, Parsed}
use Rattle.script_asked.specs.declared.Asked.{Asked}
use Rattle.script_asked.specs.Asked.{asked}
use Rattle.script_run.specs.declared.call.Why.{Why}
use Rattle.script_record.specs.declared.Record.{Record}
use Rattle.script_run.specs.Line.{text_first}

abbrev pub has_part : Value → Bool
has_part Value.Nothing = false
has_part (Value.U64 n) = false
has_part (Value.U32 n) = false
has_part (Value.I32 z) = false
has_part (Value.F32 x) = false
has_part (Value.Text t) = false
has_part Value.NoText = false
has_part (Value.Part p) = true

-- a part stands first or second behind the first word of its line; a request without text has the empty one
abbrev pub part_first : Args → Part
part_first w = cond (has_part w.a) (part_in w.a) (part_in w.b)

-- "Each of the N lines is a client's line": none but a client's request is a record
abbrev pub record_of : Asked → Part → Result (Option Record) Why
record_of (Asked.Now n) p = Err Why.NoRecord
record_of (Asked.Out n) p = Err Why.NoRecord
record_of (Asked.Buffer n) p = Err Why.NoRecord
record_of (Asked.Start serial) p = Err Why.NoRecord
record_of (Asked.Client object version request) p = Ok (Some (record { object = object; version = version; request = request; part = p }))
record_of Asked.NextRequest p = Err Why.NoRecord
record_of (Asked.Station call) p = Err Why.NoRecord
record_of (Asked.Read count) p = Err Why.NoRecord
record_of Asked.Message p = Err Why.NoRecord
record_of (Asked.Event event) p = Err Why.NoRecord

abbrev pub line_record : Line → Result (Option Record) Why
line_record Line.Blank = Ok None
line_record (Line.Setting v w) = record_of (asked v w) (part_first w)
line_record (Line.Call v w) = record_of (asked v w) (part_first w)
line_record Line.NoCall = Err Why.NoRecord

-- A LINE OF A READ. One whose first bytes are gone is no record; any other is what it says, with parts for texts
pub record Records (line : List ℕ) (cut : Bool) (r : Result (Option Record) Why) : Type 0 where
  pub long : cut ≡ true → r ≡ Err Why.Long
  pub reads : cut ≡ false → (l : Line) × (Parsed true line l × (r ≡ line_record l))

-- the text of a call
unfoldable pub call_text : (line : List ℕ) → Line → List ℕ
unfolding text_bytes
call_text line Line.Blank = []
call_text line (Line.Setting v w) = []
call_text line (Line.Call v w) = text_bytes line (text_first w)
call_text line Line.NoCall = []

-- as much of it as has room stands at the start of what is lent
abbrev pub Lends : (line before after : List ℕ) → ℕ → Type 0
Lends line before after r = (l : Line) × (Parsed false line l × Copied (call_text line l) before after r)
