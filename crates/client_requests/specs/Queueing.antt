-- What is asked of a request that is not timed, and is queued at once. Assumes nothing.
use Rattle.answers.specs.declared.Error.{Error}
use Rattle.std.specs.Prelude.{ℕ, ◌≡◌, List, [], ◌∷◌, Result}
use Rattle.requests.specs.declared.request.EisRequest.{EisRequest}
use Rattle.model.specs.Call.{Input, sight, Call, map_call}
use Rattle.model.specs.Session.{Untimed, Queued, View, view}
use Rattle.model.specs.Edit.{Edit}
use Rattle.model.specs.Plan.{Plan, edit}
use Rattle.model.specs.Decide.{decide}
use Rattle.session.specs.View.{Store, session, request_in, Whole}
use Rattle.session.specs.Loan.{Session, store_of}
use Rattle.answers.specs.Meets.{Handled}
use Rattle.answers.specs.declared.Answer.{Answer}

-- the model queues the request at this call, as a handler of it says
pub record Planned (request : EisRequest) (call : Call Input) (clock : ℕ) (handler : View → Untimed → Plan) : Type 0 where
  pub untimed : Untimed
  pub is : request_in request [] ≡ Queued.untimed untimed
  pub plan : (v : View) → decide v clock (map_call sight call) ≡ handler v untimed

-- the same of a session at hand, where nothing else is asked
pub record Queues (request : EisRequest) (call : Call Input) (clock : ℕ) (s : Store) : Type 0 where
  pub untimed : Untimed
  pub is : request_in request [] ≡ Queued.untimed untimed
  pub plan : decide (view (session s)) clock (map_call sight call) ≡ edit (Edit.queue untimed ∷ [])

-- the request is queued, or the queue is full
abbrev pub QueuesRows : (session : Session) → EisRequest → Result Answer Error → Type 0
QueuesRows s request a =
    (call : Call Input) (clock : ℕ) (texts out : List ℕ) → let before = store_of s.entry.now texts in Queues request call clock before → Whole before
    → Handled before (store_of s.exit.now texts) out out call clock a
