-- What is promised of every call on a running session. Assumes nothing.
use Rattle.std.specs.Prelude.{ℕ, ◌≡◌, true, false, List, Float, length, Result, Err}
use Rattle.wire.specs.Bits.{splice}
use Rattle.model.specs.Call.{Input, Load, Call, Turn, split}
use Rattle.model.specs.Plan.{records}
use Rattle.model.specs.Step.{Step, refuses, step}
use Rattle.session.specs.View.{Store, store, session, Whole, Lending, is_intact}
use Rattle.answers.specs.Answer.{outcome_of, count_of}
use Rattle.answers.specs.Texts.{TextsAfter}
use Rattle.answers.specs.declared.Error.{Error}
use Rattle.answers.specs.declared.Answer.{Answer}

-- The answer is the step's. s are the slices before the call, e those after it, out and later the lent `out`; T is what is said of the text store.
-- "Outcome, session, count and each byte of the lent buffers, refused calls included."
pub record Meets (s e : Store) (out later : List ℕ) (T : Type 0) (to : Step Load) (r : Result Answer Error) : Type 0 where
  pub whole : Whole e
  pub view : session e ≡ to.session
  pub outcome : outcome_of r ≡ to.outcome
  pub count : count_of r ≡ length (records to.events)
  -- "The rest of `out` always keeps its bytes."
  pub bytes : later ≡ splice out 0 (records to.events)
  -- "A refusal returns the session unchanged", bit for bit
  pub kept : refuses to.outcome ≡ true → e ≡ s
  pub texts : T

-- a call, with the clock and the length of `out`
abbrev pub turn : Call Input → (clock : ℕ) → (out : List ℕ) → Turn
turn call clock out = record { call = call; now = clock; room = length out }

-- on a session that is not damaged: the step of the model, and "closing a frame leaves the text store bit for bit as it was"; so does all but a Utf8 that is taken
abbrev pub Handled : (s e : Store) (out later : List ℕ) (call : Call Input) (clock : ℕ) (r : Result Answer Error) → Type 0
Handled s e out later call clock r = Meets s e out later (TextsAfter s e call) (step (split (turn call clock out)) (session s)) r

-- a call that no text is changed by, whatever they are
abbrev pub HandledRows : (c w : List ℕ) (r : List Float) (d v : List ℕ) (q : List Float) (out later : List ℕ) (call : Call Input) (clock : ℕ) (a : Result Answer Error) → Type 0
HandledRows c w r d v q out later call clock a = (texts : List ℕ) → Whole (store c w r texts) → Handled (store c w r texts) (store d v q texts) out later call clock a

-- a call that the control words alone are changed by
abbrev pub HandledControl : (c d out later : List ℕ) (call : Call Input) (clock : ℕ) (a : Result Answer Error) → Type 0
HandledControl c d out later call clock a = (w : List ℕ) (r : List Float) → HandledRows c w r d w r out later call clock a

-- EVERY CALL: "21; .." comes first, and hands everything back as it was. It looks at what the call is lent; the slices that it is not lent may be
-- any, and on a session that is whole the call is the model's
pub record Answered (l : Lending) (s e : Store) (out later : List ℕ) (call : Call Input) (clock : ℕ) (r : Result Answer Error) : Type 0 where
  pub damaged : is_intact l s ≡ false → (r ≡ Err Error.BadState) × ((e ≡ s) × (later ≡ out))
  pub handled : is_intact l s ≡ true → Whole s → Handled s e out later call clock r
