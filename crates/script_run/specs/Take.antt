-- What a line of a script does: to the run, to the session's slices, and to the buffer that calls are lent. Assumes nothing.
use Rattle.std.specs.Prelude.{◌≡◌, ℕ, ◌+◌, ◌%◌, ◌^◌, Bool, true, false, cond, List, length, Option, Result}
use Rattle.model.specs.Call.{Call}
use Rattle.requests.specs.declared.eis.Request.{Request}
use Rattle.handshake.specs.Handshake as paper
use Rattle.handshake.specs.View.{request_of, is_finished, Meets, Handled}
use Rattle.handshake.specs.declared.handshake.HandshakeAnswer.{HandshakeAnswer}
use Rattle.session.specs.View.{Store, store, Lending}
use Rattle.answers.specs.declared.Answer.{Answer}
use Rattle.answers.specs.declared.Error.{Error}
use Rattle.answers.specs.Meets.{Answered}
use Rattle.handlers.specs.Call.{call_of}
use Rattle.requests.specs.declared.request.EisRequest.{EisRequest}
use Rattle.converter.specs.Next.{Delivered}
use Rattle.messages.specs.Received.{Received, ReceivedFrom}
use Rattle.handshake_messages.specs.Reading as shaking
use Rattle.std.specs.Prelude.{Ok, Err}
use Rattle.handshake_messages.specs.declared.HandshakeReceived.{HandshakeReceived}
use Rattle.event_messages.specs.Written.{Written}
use Rattle.script_message.specs.Lent.{unhanded}
use Rattle.script_events.specs.Lent.{EventTurned}
use Rattle.script.specs.declared.line.Line.{Line}
use Rattle.script.specs.Told.{Parsed}
use Rattle.script_asked.specs.declared.Event.{Event}
use Rattle.script_asked.specs.declared.Station.{Station}
use Rattle.script_asked.specs.declared.Asked.{Asked}
use Rattle.script_asked.specs.Asked.{asked}
use Rattle.script_calls.specs.Station.{lending, station_call}
use Rattle.script_session.specs.Lent.{InRoom}
use Rattle.script_handshake.specs.Shaken.{message_of, Opens}
use Rattle.script_run.specs.declared.call.Stage.{Stage}
use Rattle.script_run.specs.declared.call.Run.{Run}
use Rattle.script_run.specs.declared.call.Why.{Why}
use Rattle.script_run.specs.declared.call.Told.{Told}
use Rattle.script_run.specs.declared.call.Took.{Took}
use Rattle.script_run.specs.Line.{is_given, line_text}

-- ---- the run

-- before the first line: the settings as the format's page has them, and no handshake, whatever its answer
abbrev pub first : HandshakeAnswer → Run
first a = record { line = 0; out = 4096; buffer = 254; clock = 0; stage = Stage.Early; shaken = a; ended = false }

-- one more line, counted with 64 bits
abbrev pub counted : Run → Run
counted r = record r { line = (r.line + 1) % 2 ^ 64 }

-- the settings
abbrev pub at_clock : ℕ → Run → Run
at_clock n r = record r { clock = n }

abbrev pub with_out : ℕ → Run → Run
with_out n r = record r { out = n }

abbrev pub with_buffer : ℕ → Run → Run
with_buffer n r = record r { buffer = n }

-- the handshake was answered: the session runs where it finished
abbrev pub after_shaking : HandshakeAnswer → Run → Run
after_shaking a r = record r { stage = cond (is_finished a.outcome) Stage.Running Stage.Shaking; shaken = a }

abbrev pub ended_run : Run → Run
ended_run r = record r { ended = true }

-- ---- what there is to tell

abbrev pub quiet : Run → Took
quiet r = record { run = r; told = Told.Nothing }

abbrev pub no_call : Why → Run → Took
no_call why r = record { run = ended_run r; told = Told.Error why }

abbrev pub answered : Result Answer Error → Run → Took
answered a r = record { run = r; told = Told.Answered a }

abbrev pub given : Result (Option EisRequest) Error → Run → Took
given n r = record { run = r; told = Told.Given n }

abbrev pub begun : ℕ → Run → Took
begun n r = record { run = r; told = Told.Begun n }

abbrev pub shaken : HandshakeAnswer → Run → Took
shaken a r = record { run = after_shaking a r; told = Told.Shaken }

abbrev pub received : Received → Run → Took
received x r = record { run = r; told = Told.Received x }

-- what is told of bytes on the handshake: its answer, or why they were not handed on
abbrev pub told_by : shaking.Told → (taken : ℕ) → Told
told_by (Ok u) n = Told.ShakenBy n
told_by (Err why) n = Told.Received (unhanded why)

abbrev pub shaken_by : HandshakeReceived → Run → Took
shaken_by x r = record { run = after_shaking x.answer r; told = told_by x.told x.taken }

abbrev pub turned : Event → Written → Run → Took
turned event x r = record { run = r; told = Told.Turned event x }

-- ---- the calls. s are the session's slices before the line, e those after it, out and later the buffer

-- nothing is changed, and this is told
abbrev pub Still : (s e : Store) (out later : List ℕ) (told r : Took) → Type 0
Still s e out later told r = (r ≡ told) × ((e ≡ s) × (later ≡ out))

-- a fresh handshake
pub record Starts (run : Run) (serial : ℕ) (out later : List ℕ) (r : Took) : Type 0 where
  pub answer : HandshakeAnswer
  pub meets : InRoom run.out out later (λ lent after. Meets lent after (paper.start serial (length lent)) answer)
  pub told : r ≡ shaken answer run

-- a client's request before the session: on the handshake, and where that finishes a session begins in the control words, of which c are those before
pub record Shakes (run : Run) (request : Request) (text : List ℕ) (c d : List ℕ) (out later : List ℕ) (r : Took) : Type 0 where
  pub answer : HandshakeAnswer
  pub handled : InRoom run.out out later (λ lent after. Handled run.shaken.handshaker (request_of (message_of request) text) lent after answer)
  pub opens : Opens c d answer
  pub told : r ≡ shaken answer run

-- a client's request on the session
pub record Handles (run : Run) (object version : ℕ) (request : Request) (text : List ℕ) (s e : Store) (out later : List ℕ) (r : Took) : Type 0 where
  pub answer : Result Answer Error
  pub meets : InRoom run.out out later (λ lent after. Answered Lending.all s e lent after (call_of request object version text) run.clock answer)
  pub told : r ≡ answered answer run

-- a client's bytes on the session
pub record Receives (run : Run) (bytes : List ℕ) (s e : Store) (out later : List ℕ) (r : Took) : Type 0 where
  pub came : Received
  pub meets : InRoom run.out out later (λ lent after. ReceivedFrom s e lent after bytes run.clock came)
  pub told : r ≡ received came run

-- before it, on the handshake: a Finish that succeeds begins the session, as in `Shakes`
pub record ShakesBy (run : Run) (bytes : List ℕ) (c d : List ℕ) (out later : List ℕ) (r : Took) : Type 0 where
  pub came : HandshakeReceived
  pub meets : InRoom run.out out later (λ lent after. shaking.Received run.shaken.handshaker bytes lent after came)
  pub opens : Opens c d came.answer
  pub told : r ≡ shaken_by came run

-- an event's record written as its message, or read from it
pub record Turns (run : Run) (event : Event) (bytes : List ℕ) (out later : List ℕ) (r : Took) : Type 0 where
  pub written : Written
  pub meets : InRoom run.out out later (λ lent after. EventTurned event bytes lent after written)
  pub told : r ≡ turned event written run

-- next_request
pub record Delivers (run : Run) (s e : Store) (out later : List ℕ) (r : Took) : Type 0 where
  pub next : Result (Option EisRequest) Error
  pub meets : InRoom run.buffer out later (λ lent after. Delivered s e lent after next)
  pub told : r ≡ given next run

-- a call of the station, at any clock
pub record Makes (run : Run) (call : Station) (text_given : Bool) (text : List ℕ) (s e : Store) (out later : List ℕ) (r : Took) : Type 0 where
  pub answer : Result Answer Error
  pub meets : InRoom run.out out later (λ lent after. (clock : ℕ) → Answered (lending call) s e lent after (Call.plain (station_call call text_given text)) clock answer)
  pub told : r ≡ answered answer run

-- a client's request: on the session, before it on the handshake, and before `start` no call
pub record ClientDoes (run : Run) (object version : ℕ) (request : Request) (text : List ℕ) (s e : Store) (out later : List ℕ) (r : Took) : Type 0 where
  pub session : run.stage ≡ Stage.Running → Handles run object version request text s e out later r
  pub handshake : run.stage ≡ Stage.Shaking
      → Shakes run request text s.control e.control out later r × (e ≡ store e.control s.words s.reals s.texts)
  pub early : run.stage ≡ Stage.Early → Still s e out later (no_call Why.Early run) r

-- next_request and the station's calls: on the session alone
pub record NextDoes (run : Run) (s e : Store) (out later : List ℕ) (r : Took) : Type 0 where
  pub session : run.stage ≡ Stage.Running → Delivers run s e out later r
  pub early : (run.stage ≡ Stage.Running → ⊥) → Still s e out later (no_call Why.Early run) r

pub record StationDoes (run : Run) (call : Station) (text_given : Bool) (text : List ℕ) (s e : Store) (out later : List ℕ) (r : Took) : Type 0 where
  pub session : run.stage ≡ Stage.Running → Makes run call text_given text s e out later r
  pub early : (run.stage ≡ Stage.Running → ⊥) → Still s e out later (no_call Why.Early run) r

-- a read begins, on the session alone: its texts are the line's, and its records are to come
pub record ReadDoes (run : Run) (count : ℕ) (s e : Store) (out later : List ℕ) (r : Took) : Type 0 where
  pub session : run.stage ≡ Stage.Running → Still s e out later (begun count run) r
  pub early : (run.stage ≡ Stage.Running → ⊥) → Still s e out later (no_call Why.Early run) r

-- a client's bytes: on the session, before it on the handshake, and before `start` no call
pub record MessageDoes (run : Run) (bytes : List ℕ) (s e : Store) (out later : List ℕ) (r : Took) : Type 0 where
  pub session : run.stage ≡ Stage.Running → Receives run bytes s e out later r
  pub handshake : run.stage ≡ Stage.Shaking
      → ShakesBy run bytes s.control e.control out later r × (e ≡ store e.control s.words s.reals s.texts)
  pub early : run.stage ≡ Stage.Early → Still s e out later (no_call Why.Early run) r

-- WHAT A LINE DOES, by what it asks for
abbrev pub Does : Run → Asked → (text_given : Bool) (text : List ℕ) (s e : Store) (out later : List ℕ) → Took → Type 0
Does run (Asked.Now n) g text s e out later r = Still s e out later (quiet (at_clock n run)) r
Does run (Asked.Out n) g text s e out later r = Still s e out later (quiet (with_out n run)) r
Does run (Asked.Buffer n) g text s e out later r = Still s e out later (quiet (with_buffer n run)) r
Does run (Asked.Start serial) g text s e out later r = Starts run serial out later r × (e ≡ s)
Does run (Asked.Client object version request) g text s e out later r = ClientDoes run object version request text s e out later r
Does run Asked.NextRequest g text s e out later r = NextDoes run s e out later r
Does run (Asked.Station call) g text s e out later r = StationDoes run call g text s e out later r
Does run (Asked.Read count) g text s e out later r = ReadDoes run count s e out later r
Does run Asked.Message g text s e out later r = MessageDoes run text s e out later r
-- "Neither asks for a session or a handshake: both may stand before the first `start`"
Does run (Asked.Event event) g text s e out later r = Turns run event text out later r × (e ≡ s)

-- by what it is: a comment does nothing, and one that is no call ends the trail
abbrev pub LineDoes : Run → (line : List ℕ) → Line → (s e : Store) (out later : List ℕ) → Took → Type 0
LineDoes run line Line.Blank s e out later r = Still s e out later (quiet run) r
LineDoes run line (Line.Setting v w) s e out later r = Does run (asked v w) (is_given w) (line_text line w) s e out later r
LineDoes run line (Line.Call v w) s e out later r = Does run (asked v w) (is_given w) (line_text line w) s e out later r
LineDoes run line Line.NoCall s e out later r = Still s e out later (no_call Why.NoCall run) r

-- A LINE outside of a read. Behind the end of the trail nothing is done; a line whose first bytes are gone ends it; any other does what it says, and `Parsed` tells what that is
pub record Takes (run : Run) (cut : Bool) (line : List ℕ) (s e : Store) (out later : List ℕ) (r : Took) : Type 0 where
  pub over : run.ended ≡ true → Still s e out later (quiet run) r
  pub long : run.ended ≡ false → cut ≡ true → Still s e out later (no_call Why.Long (counted run)) r
  pub done : run.ended ≡ false → cut ≡ false → (l : Line) × (Parsed false line l × LineDoes (counted run) line l s e out later r)
