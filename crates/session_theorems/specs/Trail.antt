-- Lists of calls of the code, each as its contract has it, and what holds of them. Made.antt has the lists in which whole reads stand among them.
-- proofs/Trails.antt proves the statements. Assumes nothing.
use Rattle.answers.specs.declared.Error.{Error}
use Rattle.std.specs.Prelude.{ℕ, ◌+◌, ◌≤◌, ◌<◌, ◌≡◌, Bool, true, ◌&&◌, List, [], ◌∷◌, ◌++◌, map, take, Result}
use Rattle.std.proofs.Math.Option.{Option, some}
use Rattle.model.specs.Call.{Input, Load, Plain, Call, Turn, split}
use Rattle.model.specs.Session.{Item, Queued, Seat, fresh, map_queued, blank, view}
use Rattle.model.specs.Plan.{Sent, records, refusal}
use Rattle.model.specs.Decide.{seat_of}
use Rattle.model.specs.Step.{run}
use Rattle.model.specs.Demand3.{Observed, observed, taken, items_of}
use Rattle.model.specs.Refusals.{of_session}
use Rattle.model.specs.Reachable.{count_of, device_ids, new_ids, ascends_from}
use Rattle.model.specs.Kept.{pending_of}
use Rattle.model.specs.Destroyed.{destroyed_of, standing}
use Rattle.session.specs.View.{Store, session, is_whole, Lending}
use Rattle.answers.specs.Answer.{outcome_of}
use Rattle.answers.specs.Answer as tells
use Rattle.answers.specs.Meets.{turn, Answered}
use Rattle.answers.specs.declared.Answer.{Answer}
use Rattle.converter.specs.Next.{next_outcome, given_in, Delivered, NextRequest}

-- A call that was made: what it was given, what it answered, its buffer before and after it, and the slices after it. `called` is a client's request or
-- a station's call, `asked` is `next_request`, which is made in no other way
pub data Exchange : Type 0 where
  called : (call : Call Input) (other : call ≡ Call.plain Plain.next_request → ⊥) (clock : ℕ) (out later : List ℕ) (answer : Result Answer Error) (after : Store) → Exchange
  asked : (clock : ℕ) (buffer later : List ℕ) (answer : NextRequest) (after : Store) → Exchange

abbrev pub turn_of : Exchange → Turn
turn_of (Exchange.called call other clock out later answer e) = turn call clock out
turn_of (Exchange.asked clock buffer later answer e) = turn (Call.plain Plain.next_request) clock buffer

-- "each call gets the session the one before returned, and nobody else changes it"
pub data Calls : Store → List Exchange → Type 0 where
  none : {s : Store} → Calls s []
  -- whatever part of the session it is lent
  called : {l : Lending} {s e : Store} {call : Call Input} {other : call ≡ Call.plain Plain.next_request → ⊥} {clock : ℕ} {out later : List ℕ} {answer : Result Answer Error}
      {xs : List Exchange} → Answered l s e out later call clock answer → Calls e xs → Calls s (Exchange.called call other clock out later answer e ∷ xs)
  asked : {s e : Store} {clock : ℕ} {buffer later : List ℕ} {answer : NextRequest} {xs : List Exchange} → Delivered s e buffer later answer
      → Calls e xs → Calls s (Exchange.asked clock buffer later answer e ∷ xs)

-- the slices after the calls
unfoldable pub slices_after : Store → List Exchange → Store
slices_after s [] = s
slices_after s (Exchange.called call other clock out later answer e ∷ xs) = slices_after e xs
slices_after s (Exchange.asked clock buffer later answer e ∷ xs) = slices_after e xs

abbrev pub serial_in : Store → ℕ
serial_in e = (session e).connection.last_serial

-- What is seen of a call, payload aside: "the outcome ..; the count of event bytes and those bytes in `out`; the last serial; a station call's answer; what
-- `next_request` gives, payload aside, and its text's length"
abbrev pub seen : Exchange → Observed
seen (Exchange.called call other clock out later answer e) =
    record {
      outcome = outcome_of answer;
      count = tells.count_of answer;
      bytes = take (tells.count_of answer) later;
      last_serial = serial_in e;
      given = [];
    }
seen (Exchange.asked clock buffer later answer e) =
    record {
      outcome = next_outcome answer;
      count = 0;
      bytes = [];
      last_serial = serial_in e;
      given = map (map_queued blank) (given_in answer later);
    }

-- what is seen of calls on a session that is not damaged is what the definitions say of them, and nothing else has a part in it
abbrev pub SeenIsRun : Type 0
SeenIsRun = (s : Store) (xs : List Exchange) → is_whole s ≡ true → Calls s xs → map seen xs ≡ map observed (run (map split (map turn_of xs)) (session s))

-- the refusals of what was seen are a running session's
unfoldable pub all_of_session : List Observed → Bool
all_of_session [] = true
all_of_session (o ∷ os) = of_session (refusal o.outcome) && all_of_session os

-- NEVER 21 BY CALLS ALONE (nor 7, 8, 9): calls lead from slices that are not damaged to such slices, and never answer that they are
abbrev pub Never21 : Type 0
Never21 =
    (s : Store) (xs : List Exchange) → is_whole s ≡ true → Calls s xs → (all_of_session (map seen xs) ≡ true) × (is_whole (slices_after s xs) ≡ true)

-- "Both lists start from the same session, as a successful Finish leaves it": calls on slices that hold a fresh session
pub record FreshCalls (c n i : ℕ) (vs : List (Option ℕ)) (s : Store) (xs : List Exchange) : Type 0 where
  pub whole : is_whole s ≡ true
  pub starts : session s ≡ fresh c n i vs
  pub calls : Calls s xs

-- what `next_request` gave, in order, as its answers and the text buffers tell it, and of it the timed requests of a device
unfoldable pub delivered_to : List Exchange → List (Queued Load)
delivered_to [] = []
delivered_to (Exchange.called call other clock out later answer e ∷ xs) = delivered_to xs
delivered_to (Exchange.asked clock buffer later answer e ∷ xs) = given_in answer later ++ delivered_to xs

unfoldable pub given_to : (device : ℕ) → List Exchange → List (Item Load)
unfolding items_of delivered_to
given_to d xs = items_of d (delivered_to xs)

-- DEMAND 3, SECOND HALF, OF THE CODE. "The n-th timed request that `next_request` gives for a device came from the n-th taken on that device", "each delivered
-- payload is, bit for bit, that of the one request it came from": kind, touch id, length and payload; `left` is what is not given (yet)
abbrev pub AlwaysGivenInOrder : Type 0
AlwaysGivenInOrder =
    (c n i : ℕ) (vs : List (Option ℕ)) (s : Store) (xs : List Exchange) (d : ℕ) → FreshCalls c n i vs s xs
    → (left : List (Item Load)) × (taken c n i vs d (map turn_of xs) ≡ given_to d xs ++ left)

-- while the device stands, that is what the slices hold of it: queued, then pending
abbrev pub SeenNothingLost : Type 0
SeenNothingLost =
    (c n i : ℕ) (vs : List (Option ℕ)) (s : Store) (xs : List Exchange) (d : ℕ) → FreshCalls c n i vs s xs →
    let after = session (slices_after s xs) in
    0 < count_of d (device_ids after) →
    taken c n i vs d (map turn_of xs) ≡ given_to d xs ++ (items_of d after.requests ++ pending_of d after.devices)

-- The ids that calls gave, a seat's, a device's and those of its interfaces, and those that they destroyed, told by the answers and by events whose records
-- are the bytes that were written
pub data Told : List Exchange → (given gone : List ℕ) → Type 0 where
  none : Told [] [] []
  called : {call : Call Input} {other : call ≡ Call.plain Plain.next_request → ⊥} {clock : ℕ} {out later : List ℕ} {answer : Result Answer Error} {e : Store} {xs : List Exchange}
      {given gone : List ℕ} (es : List Sent) → take (tells.count_of answer) later ≡ records es → Told xs given gone
      → Told (Exchange.called call other clock out later answer e ∷ xs) (new_ids (outcome_of answer) es ++ given) (destroyed_of es ++ gone)
  asked : {clock : ℕ} {buffer later : List ℕ} {answer : NextRequest} {e : Store} {xs : List Exchange} {given gone : List ℕ} → Told xs given gone
      → Told (Exchange.asked clock buffer later answer e ∷ xs) given gone

-- the life of every object, from the session's next id on
pub record Lives (i : ℕ) (xs : List Exchange) (after : Store) : Type 0 where
  pub given : List ℕ
  pub gone : List ℕ
  pub told : Told xs given gone
  -- "never given twice by one .. session"
  pub ascend : ascends_from i given ≡ true
  -- "The protocol gives an object one.": no id is the object of two destroyed events
  pub once : (id : ℕ) → count_of id gone ≤ 1
  -- what was given was destroyed or stands in a table, and never both
  pub stands : (id : ℕ) → count_of id given ≡ count_of id gone + standing id (session after)

abbrev pub SeenLives : Type 0
SeenLives =
    (c n i : ℕ) (vs : List (Option ℕ)) (s : Store) (xs : List Exchange) → FreshCalls c n i vs s xs → Lives i xs (slices_after s xs)

-- A client's release of a seat that stands, and the station's removal of it, on the same slices with the same clock and `out`: the same session,
-- outcome, count and bytes, refused or not
pub record Same (e e' : Store) (later later' : List ℕ) (r r' : Result Answer Error) : Type 0 where
  pub view : session e ≡ session e'
  pub outcome : outcome_of r ≡ outcome_of r'
  pub count : tells.count_of r ≡ tells.count_of r'
  pub bytes : later ≡ later'

abbrev pub SeenReleaseIsRemoval : Type 0
SeenReleaseIsRemoval =
    (l l' : Lending) (s e e' : Store) (out later later' : List ℕ) (clock seat : ℕ) (x : Seat) (r r' : Result Answer Error)
    → is_whole s ≡ true → seat_of seat (view (session s)) ≡ some x
    → Answered l s e out later (Call.plain (Plain.seat_release seat)) clock r → Answered l' s e' out later' (Call.plain (Plain.remove_seat seat)) clock r'
    → Same e e' later later' r r'
