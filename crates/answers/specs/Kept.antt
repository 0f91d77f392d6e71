-- The text store at a call, accepted or refused, that is lent all four slices, whole or damaged. proofs/Texts.antt proves the statements. Assumes nothing.
use Rattle.std.specs.Prelude.{ℕ, ◌*◌, ◌≤◌, ◌≡◌, List, take, drop, Result}
use Rattle.requests.specs.Row.{row_at}
use Rattle.model.specs.Call.{Input, Call}
use Rattle.model.specs.Step.{counts}
use Rattle.session.specs.View.{Store, slot_length, session, Free, Lending}
use Rattle.answers.specs.Meets.{Answered}
use Rattle.answers.specs.declared.Error.{Error}
use Rattle.answers.specs.declared.Answer.{Answer}

-- the call is no Utf8
abbrev pub NoText : Call Input → Type 0
NoText call = (interface version : ℕ) (text : List ℕ) → call ≡ Call.timed interface version (Input.Utf8 text) → ⊥

-- EVERY CALL BUT A UTF8 leaves the text store bit for bit as it was
abbrev pub OthersKeepTexts : Type 0
OthersKeepTexts =
    (s e : Store) (out later : List ℕ) (call : Call Input) (clock : ℕ) (r : Result Answer Error) → Answered Lending.all s e out later call clock r
    → NoText call → e.texts ≡ s.texts

-- so does a Utf8 by which no text more stands: one that is refused, or ignored
abbrev pub UntakenKeepsTexts : Type 0
UntakenKeepsTexts =
    (s e : Store) (out later : List ℕ) (call : Call Input) (clock : ℕ) (r : Result Answer Error) → Answered Lending.all s e out later call clock r
    → (counts (session e)).texts ≤ (counts (session s)).texts → e.texts ≡ s.texts

-- "the text should remain in its slot": a slot that a pending or queued request has its text in keeps its bytes at every call, a Utf8 too
abbrev pub UsedSlotsStay : Type 0
UsedSlotsStay =
    (s e : Store) (out later : List ℕ) (call : Call Input) (clock : ℕ) (r : Result Answer Error) → Answered Lending.all s e out later call clock r
    → (slot : ℕ) → (Free s.control (row_at s.words s.reals) slot → ⊥)
    → take slot_length (drop (slot_length * slot) e.texts) ≡ take slot_length (drop (slot_length * slot) s.texts)
