-- What a decision on a timed request says of the step: nothing of the payload has a part in it. Assumes nothing.
use Rattle.std.specs.Prelude.{ℕ, ◌<◌, ◌≡◌, Bool, true, false, cond, List, [], ◌∷◌, ◌++◌, map, leb, length, Option, Some, None, Result, Ok, Err}
use Rattle.eiproto.specs.declared.event.DeviceCapability.{DeviceCapability}
use Rattle.touches.specs.Touches.{touches_limit, member}
use Rattle.requests.specs.Row.{row_of}
use Rattle.requests.specs.declared.cell.Cell.{Cell}
use Rattle.model.specs.Call.{Kind, Input, Sight, sight, touching, Load, load, Call, Split}
use Rattle.model.specs.Session.{Session}
use Rattle.model.specs.Edit.{Amend, Edit, item}
use Rattle.model.specs.Plan as plan
use Rattle.model.specs.Decide.{Found, Rule, handled_by, handler, if_held, handle}
use Rattle.model.specs.Step.{Step, unchanged, carried_out, step}
use Rattle.control.specs.Control.{pending_limit, device_count, pending_at, core_at}
use Rattle.session.specs.View.{Store, session, item_at}
use Rattle.session.specs.Loan as loan
use Rattle.answers.specs.Answer.{error_of}
use Rattle.answers.specs.Promise.{SilentRows}
use Rattle.answers.specs.declared.Error.{Error}
use Rattle.answers.specs.declared.Answer.{Answer}
use Rattle.client_requests.specs.declared.timed.TouchChange.{TouchChange}
use Rattle.client_requests.specs.declared.timed.Queued.{Queued}

-- ---- the held touches

abbrev pub amends_of : TouchChange → List Amend
amends_of TouchChange.Nothing = []
amends_of (TouchChange.Down id) = Amend.touch_down id ∷ []
amends_of (TouchChange.Up id) = Amend.touch_up id ∷ []

abbrev pub goes_down : TouchChange → Bool
goes_down TouchChange.Nothing = false
goes_down (TouchChange.Down id) = true
goes_down (TouchChange.Up id) = false

-- a touch that goes down is not held, and fewer than 16 are
abbrev pub CanChange : TouchChange → (held : List ℕ) → Type 0
CanChange change held = (id : ℕ) → change ≡ TouchChange.Down id → (length held < touches_limit) × (member id held ≡ false)

-- ---- a decision

-- a request is refused, ignored, or waits
abbrev pub Decision : Type 0
Decision = Result (Option Queued) Error

-- "16 FULL_PENDING: the device has 64 pending", where nothing else is asked
unfoldable pub queue_on : List ℕ → ℕ → TouchChange → Cell → Decision
unfolding core_at
queue_on c k change request = cond (leb pending_limit (core_at c k).pending) (Err Error.FullPending) (Ok (Some (record { slot = k; change = change; request = request })))

-- the step that a decision stands for: the held touches change before the request waits
abbrev pub decided_step : Decision → (sight : Sight) (load : Load) → Session Load → Step Load
decided_step (Ok None) i load s = unchanged s plan.Result.accepted
decided_step (Err e) i load s = unchanged s (error_of e)
decided_step (Ok (Some q)) i load s =
    carried_out (plan.edit (map (λ a. Edit.amend q.slot a) (amends_of q.change) ++ (Edit.pend q.slot i ∷ []))) load s

-- the device in slot k has room for a request that waits
pub record CanQueue (c : List ℕ) (k : ℕ) (change : TouchChange) : Type 0 where
  pub known : k < device_count c
  pub room : pending_at c k < pending_limit
  pub touch : CanChange change (core_at c k).down_touch_ids

abbrev pub Fits : List ℕ → Decision → Type 0
Fits c d = (q : Queued) → d ≡ Ok (Some q) → CanQueue c q.slot q.change

-- c are the control words, which are all that a decision reads
pub record Decided (c : List ℕ) (interface version : ℕ) (sight : Sight) (request : Cell) (d : Decision) : Type 0 where
  pub step_is : (s : Store) (t : Split Load) → s.control ≡ c → t.call ≡ Call.timed interface version sight
      → step t (session s) ≡ decided_step d sight t.load (session s)
  pub fits : Fits c d
  pub same : (q : Queued) → d ≡ Ok (Some q) → q.request ≡ request

-- ---- what is asked of a request

-- nothing but a known interface, of the capability
pub record OnlyQueued (capability : DeviceCapability) (input : Input) : Type 0 where
  pub by : handler (sight input).kind ≡ handled_by capability Rule.queued
  pub valid : (sight input).valid ≡ true

-- nothing but a known touchscreen and that the touch is held, which then changes
pub record OnlyHeld (kind : Kind) (version touch : ℕ) (change : TouchChange) : Type 0 where
  pub by : (handler kind).capability ≡ DeviceCapability.Touch
  pub asks : (f : Found) → handle (handler kind).rule version f (touching kind touch) ≡ if_held f (touching kind touch) (amends_of change)

-- ---- a request that waits

-- the cell is the request's, as it came
abbrev pub Waits : Input → Cell → Type 0
Waits input request = (texts : List ℕ) → item (sight input) (load input) ≡ item_at texts (row_of request)

-- a request met what was decided on it
abbrev pub CarriesOut : (session : loan.Session) → Decision → Result Answer Error → Type 0
CarriesOut s d a =
    (interface version clock : ℕ) (input : Input) (request : Cell) → Decided s.entry.now.control.now interface version (sight input) request d → Waits input request
    → SilentRows s (Call.timed interface version input) clock a
