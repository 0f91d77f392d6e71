-- The text store at a client's request, told of `handle_request`. proofs/Texts.antt proves the statements. Assumes nothing.
use Rattle.answers.specs.declared.Error.{Error}
use Rattle.std.specs.Prelude.{ℕ, ◌+◌, ◌*◌, ◌<◌, ◌≡◌, List, get_or, set, Result}
use Rattle.requests.specs.Row.{texts_limit}
use Rattle.requests.specs.declared.eis.DeviceRequest.{DeviceRequest}
use Rattle.requests.specs.declared.eis.Request.{Request}
use Rattle.model.specs.Call.{Input, Call, split}
use Rattle.model.specs.Step.{step}
use Rattle.session.specs.View.{Store, store, slot_length, session, Lending}
use Rattle.answers.specs.Meets.{Meets, turn, Handled, Answered}
use Rattle.answers.specs.Kept.{NoText}
use Rattle.model.specs.Plan as plan
use Rattle.answers.specs.Answer.{outcome_of}
use Rattle.answers.specs.declared.Answer.{Answer}
use Rattle.handlers.specs.Call.{call_of}

-- "closing a frame leaves the text store bit for bit as it was": a client's Frame, and the flush that Ready, StartEmulating, StopEmulating and Release make,
-- refused or not, on slices that are whole or damaged
abbrev pub FrameKeepsTexts : Type 0
FrameKeepsTexts =
    (s e : Store) (out later : List ℕ) (device version clock : ℕ) (request : DeviceRequest) (text : List ℕ) (a : Result Answer Error)
    → Answered Lending.all s e out later (call_of (Request.Device request) device version text) clock a → e.texts ≡ s.texts

-- ---- a false friend: a call that writes the last byte of a slot, which is no text's

abbrev pub last_byte : (slot : ℕ) → ℕ
last_byte slot = slot_length * slot + 255

abbrev pub scribbled : Store → (slot byte : ℕ) → Store
scribbled e slot byte = store e.control e.words e.reals (set e.texts (last_byte slot) byte)

-- the clause on the text store refuses it; with nothing said of the store, it meets all that is promised
pub record ShutOut (s e : Store) (out later : List ℕ) (call : Call Input) (clock : ℕ) (a : Result Answer Error) : Type 0 where
  pub refused : Handled s e out later call clock a → ⊥
  pub besides : Meets s e out later (Unit {0}) (step (split (turn call clock out)) (session s)) a

-- whatever the call is, but a Utf8, where it is accepted
abbrev pub ScribbleShutOut : Type 0
ScribbleShutOut =
    (s e : Store) (out later : List ℕ) (call : Call Input) (clock : ℕ) (a : Result Answer Error) (slot byte : ℕ) → Handled s e out later call clock a
    → outcome_of a ≡ plan.Result.accepted → NoText call → slot < texts_limit → (get_or e.texts (last_byte slot) 0 ≡ byte → ⊥)
    → ShutOut s (scribbled e slot byte) out later call clock a
