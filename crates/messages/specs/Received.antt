-- What is promised of a client's bytes. Assumes nothing.
use Rattle.std.specs.Prelude.{ℕ, ◌≡◌, true, false, List, Result, Ok, Err}
use Rattle.model.specs.Call.{Input, Call}
use Rattle.model.specs.Session.{view}
use Rattle.model_reads.specs.Message.{Reading, taken_of}
use Rattle.session.specs.View.{Store, session, is_whole}
use Rattle.session.specs.Loan as loan
use Rattle.session.specs.Slices.{Numbers, Reals, before, after}
use Rattle.answers.specs.declared.Error.{Error}
use Rattle.answers.specs.declared.Answer.{Answer}
use Rattle.answers.specs.Answer.{outcome_of}
use Rattle.answers.specs.Meets.{Handled}
use Rattle.messages.specs.Reading.{reading}
use Rattle.messages.specs.declared.Handed.{Handed}
use Rattle.messages.specs.declared.Unhanded.{Unhanded}

-- what becomes of the bytes: a request was handed on, or why none was
abbrev pub Received : Type 0
Received = Result Handed Unhanded

-- bytes that are no call: the answer, and everything as it was, bit for bit. s are the slices before, e those after, out and later the lent `out`
abbrev pub Told : (s e : Store) (out later : List ℕ) → (told r : Received) → Type 0
Told s e out later told r = (r ≡ told) × ((e ≡ s) × (later ≡ out))

-- a message that was handed on: its request's answer is the model's, and its length is taken where that was not refused
pub record HandedOn (s e : Store) (out later : List ℕ) (call : Call Input) (length clock : ℕ) (r : Received) : Type 0 where
  pub answer : Result Answer Error
  pub told : r ≡ Ok (record { answer = answer; taken = taken_of (outcome_of answer) length })
  pub handled : Handled s e out later call clock answer

abbrev pub ReceivedAs : (s e : Store) (out later : List ℕ) → Reading (Call Input) → (clock : ℕ) → Received → Type 0
ReceivedAs s e out later Reading.wait clock r = Told s e out later (Err Unhanded.Wait) r
ReceivedAs s e out later Reading.no_object clock r = Told s e out later (Err Unhanded.NoObject) r
ReceivedAs s e out later (Reading.malformed p) clock r = Told s e out later (Err (Unhanded.Malformed p)) r
ReceivedAs s e out later (Reading.request call n) clock r = HandedOn s e out later call n clock r

-- EVERY BYTE STRING: 21 first, then as the bytes read in the session
pub record ReceivedFrom (s e : Store) (out later bytes : List ℕ) (clock : ℕ) (r : Received) : Type 0 where
  pub damaged : is_whole s ≡ false → Told s e out later (Ok (record { answer = Err Error.BadState; taken = 0 })) r
  pub read : is_whole s ≡ true → ReceivedAs s e out later (reading (view (session s)) bytes) clock r

-- ---- the same, said of the slices that the call is lent

abbrev pub ReceivesBy : (session : loan.Session) (texts out : Numbers) → Reading (Call Input) → (clock : ℕ) → Received → Type 0
ReceivesBy s t out reading clock r =
    ReceivedAs (loan.store_of s.entry.now t.entry.now) (loan.store_of s.exit.now t.exit.now) out.entry.now out.exit.now reading clock r

abbrev pub Receives : (control words : Numbers) (reals : Reals) (texts out : Numbers) → (bytes : List ℕ) → (clock : ℕ) → Received → Type 0
Receives c w q t out bytes clock r = ReceivedFrom (before c w q t) (after c w q t) out.entry.now out.exit.now bytes clock r
