-- What is promised of `next_request`, and of a session's beginning. Assumes nothing.
use Rattle.std.specs.Prelude.{ℕ, ◌≡◌, true, false, List, [], ◌∷◌, ◌++◌, Float, length, take, Option, Some, None, Result, Ok, Err}
use Rattle.wire.specs.Bits.{splice}
use Rattle.model.specs.Call.{Load, Plain, Call, split}
use Rattle.model.specs.Session.{Queued, fresh}
use Rattle.model.specs.Plan as plan
use Rattle.model.specs.Step.{Step, refuses, step}
use Rattle.requests.specs.Request.{text_length}
use Rattle.session.specs.View.{Store, store, session, request_in, text_in, words_length, reals_length, texts_length, is_whole, Whole}
use Rattle.session.specs.Slices.{Numbers, SharedNumbers, SharedReals}
use Rattle.control.specs.Control.{control_length}
use Rattle.handshake.specs.View.{versions_of}
use Rattle.handshake.specs.declared.handshake.EisHandshakeResp.{EisHandshakeResp}
use Rattle.answers.specs.Answer.{error_of, outcome_of, count_of}
use Rattle.answers.specs.Meets.{turn}
use Rattle.answers.specs.declared.Error.{Error}
use Rattle.answers.specs.declared.Answer.{Answer}
use Rattle.requests.specs.Row.{request_of}
use Rattle.requests.specs.declared.cell.Cell.{Cell}
use Rattle.requests.specs.declared.request.EisRequest.{EisRequest}

-- the oldest queued request, or that none is queued, or a refusal
abbrev pub NextRequest : Type 0
NextRequest = Result (Option EisRequest) Error

-- the same as numbers
abbrev pub NextCell : Type 0
NextCell = Result (Option Cell) Error

-- what is given as numbers, as the request that they mean
abbrev pub next_of : NextCell → NextRequest
next_of (Ok (Some c)) = Ok (Some (request_of c))
next_of (Ok None) = Ok None
next_of (Err e) = Err e

abbrev pub next_outcome : NextRequest → plan.Result
next_outcome (Ok (Some r)) = plan.Result.given
next_outcome (Ok None) = plan.Result.none
next_outcome (Err e) = error_of e

-- what the answer and the buffer tell of the request that was given: a text is the buffer's first bytes
abbrev pub given_in : NextRequest → (buffer : List ℕ) → List (Queued Load)
given_in (Ok (Some r)) buffer = request_in r (take (text_length r) buffer) ∷ []
given_in (Ok None) buffer = []
given_in (Err e) buffer = []

-- the text of what is given
unfoldable pub given_text : List (Queued Load) → List ℕ
given_text [] = []
given_text (Queued.timed d t i ∷ rs) = text_in i.load ++ given_text rs
given_text (Queued.untimed r ∷ rs) = given_text rs

-- the answer is the step's
pub record Gives (s e : Store) (buffer later : List ℕ) (to : Step Load) (r : NextRequest) : Type 0 where
  pub whole : Whole e
  pub view : session e ≡ to.session
  pub outcome : next_outcome r ≡ to.outcome
  pub gave : given_in r later ≡ to.gave
  -- "a text goes to the lent buffer, of which the rest keeps its bytes"
  pub bytes : later ≡ splice buffer 0 (given_text to.gave)
  pub kept : refuses to.outcome ≡ true → e ≡ s
  -- a text is copied out of its slot, which keeps its bytes
  pub texts : e.texts ≡ s.texts

pub record Delivered (s e : Store) (buffer later : List ℕ) (r : NextRequest) : Type 0 where
  pub damaged : is_whole s ≡ false → (r ≡ Err Error.BadState) × ((e ≡ s) × (later ≡ buffer))
  -- whatever the clock is
  pub handled : (clock : ℕ) → is_whole s ≡ true → Gives s e buffer later (step (split (turn (Call.plain Plain.next_request) clock buffer)) (session s)) r

-- the same, of the slices that the call is lent
abbrev pub Delivers : (control : Numbers) (words : SharedNumbers) (reals : SharedReals) (texts : SharedNumbers) (buffer : Numbers) → NextRequest → Type 0
Delivers c w q t buffer r =
    Delivered (store c.entry.now w.entry.now q.entry.now t.entry.now) (store c.exit.now w.exit.now q.exit.now t.exit.now) buffer.entry.now buffer.exit.now r

-- "Both lists start from the same session, as a successful Finish leaves it": the connection's id, the serial, the next id and the versions that it settled.
-- c are the control words before, d those after. Of another length they are no session's, and are left as they were
pub record Begins (c d : List ℕ) (response : EisHandshakeResp) (r : Result Answer Error) : Type 0 where
  pub count : count_of r ≡ 0
  pub damaged : (length c ≡ control_length → ⊥) → (r ≡ Err Error.BadState) × (d ≡ c)
  pub accepted : length c ≡ control_length → outcome_of r ≡ plan.Result.accepted
  -- whatever the other slices hold
  pub begun : length c ≡ control_length → (words : List ℕ) (reals : List Float) (texts : List ℕ)
      → length words ≡ words_length → length reals ≡ reals_length → length texts ≡ texts_length
      → Whole (store d words reals texts)
      × (session (store d words reals texts) ≡ fresh response.connection response.serial response.next (versions_of response.interfaces))
