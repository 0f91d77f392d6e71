-- A timed request as it waits: its kind, its touch and its payload are those of the model. Assumes nothing.
use Rattle.answers.specs.Answer.{error_of, Tells}
use Rattle.std.specs.Prelude.{Result}
use Prim.Native.Nat.{ℕ}
use mathlib.Core.Path.{◌≡◌, refl, sym, ap, ◌∙◌}
use mathlib.Core.Bool.{Bool, true, false, not, cond}
use mathlib.Core.List.{List}
use lib.Dec.{eqb}
use Rattle.eiproto.specs.declared.event.DeviceCapability.{DeviceCapability}
use Rattle.utf8.specs.Rfc3629.{is_utf8}
use Rattle.requests.specs.declared.request.EisRequest.{EisRequest}
use Rattle.requests.specs.Row.{Row, entry}
use Rattle.model.specs.Call.{Kind, Input, sight, load, Call, map_call}
use Rattle.model.specs.Edit.{item}
use Rattle.model.specs.Plan.{refuse}
use Rattle.model.specs.Decide.{Rule, handled_by, handler, handle_timed, decide}
use Rattle.session.specs.View.{Store, request_in, item_in, request_at, item_at, Whole}
use Rattle.answers.specs.Meets.{Handled}
use Rattle.answers.specs.declared.Error.{Error}
use Rattle.answers.specs.declared.Answer.{Answer}
use Rattle.client_requests.proofs.Handling.{handled-answer}
use Rattle.client_requests.specs.Decision.{OnlyQueued}

-- a row that is a request's waits as the request does
pub row-waits : (input : Input) {row : Row} (request : EisRequest) → row ≡ entry request 32
    → ((texts : List ℕ) → item (sight input) (load input) ≡ item_at texts (entry request 32))
    → (texts : List ℕ) → item (sight input) (load input) ≡ item_at texts row
row-waits input request e is texts = is texts ∙ ap (λ (z : Row). item_at texts z) (sym e)

-- ---- "ScrollStop with `is_cancel` not 0 becomes ScrollCancel"

module _ (x y cancel : ℕ) {a b : Bool} {row : Row} (p : a ≡ not (eqb x 0)) (q : b ≡ not (eqb y 0)) (texts : List ℕ) where
  pub stop-waits : row ≡ entry (EisRequest.ScrollStop 0 0 a b) 32 → eqb cancel 0 ≡ true
      → item (sight (Input.ScrollStop x y cancel)) (load (Input.ScrollStop x y cancel)) ≡ item_at texts row
  unfolding sight load item item_at request_at request_in item_in entry
  stop-waits e h = row-waits (Input.ScrollStop x y cancel) (EisRequest.ScrollStop 0 0 a b) e (λ t. rw (h, p, q)) texts

  pub cancel-waits : row ≡ entry (EisRequest.ScrollCancel 0 0 a b) 32 → eqb cancel 0 ≡ false
      → item (sight (Input.ScrollStop x y cancel)) (load (Input.ScrollStop x y cancel)) ≡ item_at texts row
  unfolding sight load item item_at request_at request_in item_in entry
  cancel-waits e h = row-waits (Input.ScrollStop x y cancel) (EisRequest.ScrollCancel 0 0 a b) e (λ t. rw (h, p, q)) texts

pub stop-queued : (x y cancel : ℕ) → OnlyQueued DeviceCapability.Scroll (Input.ScrollStop x y cancel)
unfolding sight handler
stop-queued x y cancel = record { by = by (eqb cancel 0); valid = refl }
  where
    by : (b : Bool) → handler (cond b Kind.ScrollStop Kind.ScrollCancel) ≡ handled_by DeviceCapability.Scroll Rule.queued
    by true = refl
    by false = refl

-- ---- a text that is not UTF-8, for a text interface

pub utf8-bad : (s : Store) (out : List ℕ) (clock : ℕ) (r : Result Answer Error) (w : Whole s) (text : List ℕ) (interface version : ℕ) → is_utf8 text ≡ false → Tells r (error_of Error.BadUtf8) 0
    → Handled s s out out (Call.timed interface version (Input.Utf8 text)) clock r
unfolding map_call sight decide handle_timed refuse
utf8-bad s out clock r w text interface version h a = handled-answer s out (Call.timed interface version (Input.Utf8 text)) clock r w (rw h) a
