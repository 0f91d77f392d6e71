-- A read of a script: what its lines gather, and the one call that they make. Assumes nothing.
use Rattle.std.specs.Prelude.{ℕ, ◌+◌, ◌-◌, ◌*◌, ◌≤◌, ◌<◌, ◌≡◌, Bool, false, cond, ◌||◌, List, [], ◌∷◌, ◌++◌, map, eqb, Float, length, take, Option, Some, None, Result, Ok, Err}
use Rattle.requests.specs.declared.eis.Request.{Request}
use Rattle.session.specs.View.{Store}
use Rattle.session.specs.Slices.{Numbers, Reals, SharedNumbers, SharedReals, before, after}
use Rattle.reads.specs.declared.ReadAnswer.{ReadAnswer}
use Rattle.reads.specs.declared.record.RequestRecord.{RequestRecord}
use Rattle.reads.specs.Record.{entry_of}
use Rattle.reads.specs.Handed.{Handed}
use Rattle.lent_read.specs.Numbers.{record_words, record_reals, record_count, records_in}
use Rattle.script.specs.declared.text.Part.{Part}
use Rattle.script.specs.declared.line.Line.{Line}
use Rattle.script.specs.Told.{Parsed}
use Rattle.script_session.specs.Lent.{InRoom}
use Rattle.script_run.specs.declared.call.Run.{Run}
use Rattle.script_run.specs.declared.call.Why.{Why}
use Rattle.script_run.specs.declared.call.Told.{Told}
use Rattle.script_run.specs.declared.call.Took.{Took}
use Rattle.script_record.specs.declared.Record.{Record}
use Rattle.script_run.specs.Take.{quiet, no_call, counted}
use Rattle.script_run.specs.Take as lines
use Rattle.script_record.specs.Record.{Records, call_text}
use Rattle.script_read.specs.declared.Reading.{Reading}
use Rattle.script_read.specs.declared.Taken.{Taken}

-- ---- what is gathered

abbrev pub no_read : Reading
no_read = record { left = 0; held = 0; length = 0 }

-- a read begins: so many records are to come, and its texts are so long
abbrev pub opened : (count length : ℕ) → Reading
opened n m = record { left = n; held = 0; length = m }

-- one record more
abbrev pub onward : Reading → Reading
onward g = record { left = g.left - 1; held = g.held + 1; length = g.length }

-- the records that stand in the slices, and the texts
unfoldable pub gathered : Reading → (records : List ℕ) (points : List Float) → List RequestRecord
unfolding records_in
gathered g records points = records_in (take (g.held * record_words) records) (take (g.held * record_reals) points)

abbrev pub texts_of : Reading → (lent : List ℕ) → List ℕ
texts_of g lent = take g.length lent

-- they lie within the slices, and so do the records to come
pub record Fits (g : Reading) (records : List ℕ) (points : List Float) (lent : List ℕ) : Type 0 where
  pub room : g.held + g.left ≤ record_count records points
  pub texts : g.length ≤ length lent

-- a client's request with a part, as a record
abbrev pub as_record : (object version : ℕ) → Request → Part → RequestRecord
as_record object version request p = record { object = object; version = version; request = request; start = p.start; length = p.length }

-- ---- what there is to tell

abbrev pub taken : Took → Reading → Taken
taken t g = record { took = t; reading = g }

abbrev pub waiting : Run → Took
waiting r = record { run = r; told = Told.Gathered }

-- "the number accepted and, if there was one, the first refusal", with the bytes that the accepted ones wrote
abbrev pub handed : ReadAnswer → Told
handed a = Told.Handed a.accepted a.count a.refusal

-- "A script that ends within a read ends with `error line N`, N being the line behind its last"
abbrev pub closing : Run → Reading → Took
closing r g = cond (r.ended || eqb g.left 0) (quiet r) (no_call Why.Within (counted r))

-- ---- the lines. s are the session's slices before a line, e those after it, out and later the buffer; a slice of the read after it has a mark

-- "The N lines make one call with `read`": the records and the texts of the read, at the clock and with so much of `out` as the script says
abbrev pub HandsIn : Run → List RequestRecord → (texts : List ℕ) (s e : Store) (out later : List ℕ) → ReadAnswer → Type 0
HandsIn run rs texts s e out later a = InRoom run.out out later (λ lent after. Handed s e lent after (map (entry_of texts) rs) run.clock a)

pub record Hands (run : Run) (rs : List RequestRecord) (texts : List ℕ) (s e : Store) (out later : List ℕ) (r : Taken) : Type 0 where
  pub answer : ReadAnswer
  pub meets : HandsIn run rs texts s e out later answer
  pub told : r ≡ taken (record { run = run; told = handed answer }) no_read

-- behind a line of a read: before the last record nothing is done, and no call is made
pub record Settles (run : Run) (g : Reading) (rs : List RequestRecord) (texts : List ℕ) (s e : Store) (out later : List ℕ) (r : Taken) : Type 0 where
  pub last : g.left ≡ 0 → Hands run rs texts s e out later r
  pub waits : (g.left ≡ 0 → ⊥) → (r ≡ taken (waiting run) g) × ((e ≡ s) × (later ≡ out))

-- the first line of a read: its texts, as much of them as has room, are the first m bytes that are lent; where there is no room for its records it is no
-- call
pub record Begins (run : Run) (count : ℕ) (line : List ℕ) (s e : Store) (out later : List ℕ) (rs : List ℕ) (ps : List Float) (lent lent' : List ℕ) (r : Taken) : Type 0 where
  pub many : record_count rs ps < count → (r ≡ taken (no_call Why.Many run) no_read) × ((e ≡ s) × (later ≡ out))
  pub begins : count ≤ record_count rs ps
      → (l : Line) × (m : ℕ) × (Parsed false line l × ((take m lent' ≡ take (length lent) (call_text line l))
      × Settles run (opened count m) [] (take (length lent) (call_text line l)) s e out later r))
  pub fits : Fits r.reading rs ps lent'

-- a line outside of a read is carried out as `script_run` has it, and may begin a read
pub record Opens (run : Run) (cut : Bool) (line : List ℕ) (s e : Store) (out later : List ℕ) (rs : List ℕ) (ps : List Float) (lent lent' : List ℕ) (r : Taken) : Type 0 where
  pub took : Took
  pub between : Store
  pub bytes : List ℕ
  pub takes : lines.Takes run cut line s between out bytes took
  pub begun : (n : ℕ) → took.told ≡ Told.Begun n → Begins took.run n line between e bytes later rs ps lent lent' r
  pub other : ((n : ℕ) → took.told ≡ Told.Begun n → ⊥) → (r ≡ taken took no_read) × ((e ≡ between) × (later ≡ bytes))
  pub fits : Fits r.reading rs ps lent'

-- a line of a read, by what it is: a record joins those before it
abbrev pub RecordDoes : Run → Reading → Result (Option Record) Why → (s e : Store) (out later : List ℕ) (rs rs' : List ℕ) (ps ps' : List Float) (lent : List ℕ) → Taken → Type 0
RecordDoes run g (Ok None) s e out later rs rs' ps ps' lent r = (r ≡ taken (quiet run) g) × ((e ≡ s) × ((later ≡ out) × ((rs' ≡ rs) × (ps' ≡ ps))))
RecordDoes run g (Ok (Some x)) s e out later rs rs' ps ps' lent r =
    (gathered (onward g) rs' ps' ≡ gathered g rs ps ++ (as_record x.object x.version x.request x.part ∷ []))
    × Settles run (onward g) (gathered g rs ps ++ (as_record x.object x.version x.request x.part ∷ [])) (texts_of g lent) s e out later r
RecordDoes run g (Err why) s e out later rs rs' ps ps' lent r = (r ≡ taken (no_call why run) no_read) × ((e ≡ s) × (later ≡ out))

pub record GoesOn (run : Run) (g : Reading) (cut : Bool) (line : List ℕ) (s e : Store) (out later : List ℕ) (rs rs' : List ℕ) (ps ps' : List Float) (lent : List ℕ) (r : Taken) : Type 0 where
  pub is : Result (Option Record) Why
  pub reads : Records line cut is
  pub does : RecordDoes (counted run) g is s e out later rs rs' ps ps' lent r
  pub fits : Fits r.reading rs' ps' lent

-- A LINE of a script, outside of a read and in one
pub record Takes (run : Run) (g : Reading) (cut : Bool) (line : List ℕ) (s e : Store) (out later : List ℕ) (rs rs' : List ℕ) (ps ps' : List Float) (lent lent' : List ℕ) (r : Taken) : Type 0 where
  pub outside : g.left ≡ 0 → Opens run cut line s e out later rs ps lent lent' r × ((rs' ≡ rs) × (ps' ≡ ps))
  pub within : (g.left ≡ 0 → ⊥) → GoesOn run g cut line s e out later rs rs' ps ps' lent r × (lent' ≡ lent)
  pub fits : Fits r.reading rs' ps' lent'

-- ---- the same of the slices that a function is lent

abbrev pub HandsLent : Run → Reading → (control words : Numbers) (reals : Reals) (texts : Numbers) (records : SharedNumbers) (points : SharedReals) (lent : SharedNumbers) (out : Numbers) → ReadAnswer → Type 0
HandsLent run g c w q t records points lent out a =
    HandsIn run (gathered g records.entry.now points.entry.now) (texts_of g lent.entry.now) (before c w q t) (after c w q t) out.entry.now out.exit.now a

abbrev pub SettlesLent : Run → Reading → (control words : Numbers) (reals : Reals) (texts : Numbers) (records : SharedNumbers) (points : SharedReals) (lent : SharedNumbers) (out : Numbers) → Taken → Type 0
SettlesLent run g c w q t records points lent out r =
    Settles run g (gathered g records.entry.now points.entry.now) (texts_of g lent.entry.now) (before c w q t) (after c w q t) out.entry.now out.exit.now r

abbrev pub GoesOnLent : Run → Reading → Bool → (line : SharedNumbers) (control words : Numbers) (reals : Reals) (texts : Numbers) (records : Numbers) (points : Reals) (lent : SharedNumbers) (out : Numbers) → Taken → Type 0
GoesOnLent run g cut line c w q t records points lent out r =
    GoesOn run g cut line.entry.now (before c w q t) (after c w q t) out.entry.now out.exit.now records.entry.now records.exit.now
    points.entry.now points.exit.now lent.entry.now r

abbrev pub BeginsLent : Run → (count : ℕ) → (line : SharedNumbers) (control words : Numbers) (reals : Reals) (texts : Numbers) (records : SharedNumbers) (points : SharedReals) (lent out : Numbers) → Taken → Type 0
BeginsLent run n line c w q t records points lent out r =
    Begins run n line.entry.now (before c w q t) (after c w q t) out.entry.now out.exit.now records.entry.now points.entry.now
    lent.entry.now lent.exit.now r

abbrev pub OpensLent : Run → Bool → (line : SharedNumbers) (control words : Numbers) (reals : Reals) (texts : Numbers) (records : SharedNumbers) (points : SharedReals) (lent out : Numbers) → Taken → Type 0
OpensLent run cut line c w q t records points lent out r =
    Opens run cut line.entry.now (before c w q t) (after c w q t) out.entry.now out.exit.now records.entry.now points.entry.now
    lent.entry.now lent.exit.now r

abbrev pub TakesLent : Run → Reading → Bool → (line : SharedNumbers) (control words : Numbers) (reals : Reals) (texts : Numbers) (records : Numbers) (points : Reals) (lent out : Numbers) → Taken → Type 0
TakesLent run g cut line c w q t records points lent out r =
    Takes run g cut line.entry.now (before c w q t) (after c w q t) out.entry.now out.exit.now records.entry.now records.exit.now
    points.entry.now points.exit.now lent.entry.now lent.exit.now r
