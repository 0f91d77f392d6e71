-- Lists of calls of the code in which whole reads and messages stand among the others, each as its contract has it, and what holds of them: demand 3 over them, and
-- that a read is its requests handed in singly, and a message its request or nothing, so that all that Trail.antt says of single calls is said of them.
-- proofs/Making.antt proves the statements.
-- "Every session call that these requests add joins those of demand 3." Assumes nothing.
use Rattle.std.specs.Prelude.{ℕ, suc, ◌+◌, ◌≡◌, true, List, [], ◌∷◌, ◌++◌, map, length, take, drop, Some, Result, Ok, Err}
use Rattle.std.proofs.Math.Option.{Option}
use Rattle.model.specs.Call.{Input, Load, Plain, Call}
use Rattle.model.specs.Session.{Item, Queued, fresh, view}
use Rattle.model.specs.Demand3.{Observed, taken, items_of}
use Rattle.model_reads.specs.Read.{Entry, loaded}
use Rattle.model_reads.specs.Message.{Reading, taken_of}
use Rattle.model_reads.specs.Acts.{Act, map_act, ObservedAct, observed_acts, loaded_by, MatchedActs}
use Rattle.session.specs.View.{Store, session, is_whole}
use Rattle.answers.specs.declared.Error.{Error}
use Rattle.answers.specs.declared.Answer.{Answer}
use Rattle.answers.specs.Answer.{outcome_of}
use Rattle.answers.specs.Answer as tells
use Rattle.reads.specs.declared.ReadAnswer.{ReadAnswer}
use Rattle.reads.specs.declared.record.RequestRecord.{RequestRecord}
use Rattle.reads.specs.Record.{entry_of}
use Rattle.reads.specs.Handed.{opened, Handed}
use Rattle.reads.specs.Agrees.{first_of}
use Rattle.messages.specs.declared.Handed as messages
use Rattle.messages.specs.declared.Unhanded.{Unhanded}
use Rattle.messages.specs.Reading.{reading}
use Rattle.messages.specs.Received.{Received, ReceivedFrom}
use Rattle.messages.specs.Same.{SameMessage}
use Rattle.session_theorems.specs.Trail.{Exchange, turn_of, Calls, slices_after, serial_in, seen, FreshCalls, delivered_to}

-- a call, or a whole read: its records with the texts lent beside them, the clock, its buffer before and after it, what it answered, and the slices after it; or
-- a client's bytes, likewise
pub data Made : Type 0 where
  one : Exchange → Made
  message : (bytes : List ℕ) (clock : ℕ) (out later : List ℕ) (received : Received) (after : Store) → Made
  read : (records : List RequestRecord) (lent : List ℕ) (clock : ℕ) (out later : List ℕ) (answer : ReadAnswer) (after : Store) → Made

-- the records as the model has them
abbrev pub entries_of : (records : List RequestRecord) (lent : List ℕ) → List (Entry (Call Input))
entries_of records lent = map (entry_of lent) records

abbrev pub act_of : Made → Act (Call Input)
act_of (Made.one x) = Act.one (turn_of x).call (turn_of x).now (turn_of x).room
act_of (Made.read records lent clock out later answer e) = Act.read (entries_of records lent) clock (length out)
act_of (Made.message bytes clock out later received e) = Act.message bytes clock (length out)

-- the slices after it, which were s before
abbrev pub after_one : Store → Made → Store
after_one s (Made.one x) = slices_after s (x ∷ [])
after_one s (Made.read records lent clock out later answer e) = e
after_one s (Made.message bytes clock out later received e) = e

unfoldable pub after_made : Store → List Made → Store
after_made s [] = s
after_made s (x ∷ xs) = after_made (after_one s x) xs

-- "each call gets the session the one before returned, and nobody else changes it"
pub data MadeCalls : Store → List Made → Type 0 where
  none : {s : Store} → MadeCalls s []
  one : {s : Store} {x : Exchange} {xs : List Made} → Calls s (x ∷ []) → MadeCalls (slices_after s (x ∷ [])) xs → MadeCalls s (Made.one x ∷ xs)
  read : {s e : Store} {records : List RequestRecord} {lent : List ℕ} {clock : ℕ} {out later : List ℕ} {answer : ReadAnswer} {xs : List Made}
      → Handed s e out later (entries_of records lent) clock answer → MadeCalls e xs → MadeCalls s (Made.read records lent clock out later answer e ∷ xs)
  message : {s e : Store} {bytes : List ℕ} {clock : ℕ} {out later : List ℕ} {received : Received} {xs : List Made}
      → ReceivedFrom s e out later bytes clock received → MadeCalls e xs → MadeCalls s (Made.message bytes clock out later received e ∷ xs)

-- what is seen of a message: that it waits, its refusal, or what is seen of its request with the bytes taken
abbrev pub received_seen : (later : List ℕ) → Store → Received → Reading Observed
received_seen later e (Err Unhanded.Wait) = Reading.wait
received_seen later e (Err Unhanded.NoObject) = Reading.no_object
received_seen later e (Err (Unhanded.Malformed p)) = Reading.malformed p
received_seen later e (Ok handed) =
    let answer = handed.answer in
    Reading.request
    (record {
      outcome = outcome_of answer;
      count = tells.count_of answer;
      bytes = take (tells.count_of answer) later;
      last_serial = serial_in e;
      given = [];
    })
    handed.taken

-- what is seen, payload aside; of a read "the number accepted ..., the number of event bytes these wrote, and the first refusal", the bytes and the last serial
abbrev pub seen_of : Made → ObservedAct
seen_of (Made.one x) = ObservedAct.one (seen x)
seen_of (Made.read records lent clock out later answer e) =
    ObservedAct.read answer.accepted
    (record {
      outcome = first_of answer.refusal;
      count = answer.count;
      bytes = take answer.count later;
      last_serial = serial_in e;
      given = [];
    })
seen_of (Made.message bytes clock out later received e) = ObservedAct.message (received_seen later e received) (serial_in e)

-- what is seen of calls, reads and messages on a session that is not damaged is what the definitions say of them, and nothing else has a part in it
abbrev pub MadeIsActs : Type 0
MadeIsActs =
    (s : Store) (xs : List Made) → is_whole s ≡ true → MadeCalls s xs → map seen_of xs ≡ observed_acts (loaded_by reading) (map (map_act loaded) (map act_of xs)) (session s)

-- "Both lists start from the same session, as a successful Finish leaves it"
pub record FreshMade (c n i : ℕ) (vs : List (Option ℕ)) (s : Store) (xs : List Made) : Type 0 where
  pub whole : is_whole s ≡ true
  pub starts : session s ≡ fresh c n i vs
  pub calls : MadeCalls s xs

-- DEMAND 3, FIRST HALF, OF THE CODE. Equally placed calls, and equally placed records of reads, are the same in all but payload (`MatchedActs`), and equally placed
-- messages have equal bytes but for payload (`SameMessage`): then everything that is seen but payload is equal
abbrev pub EqualSeen : Type 0
EqualSeen =
    (c n i : ℕ) (vs : List (Option ℕ)) (s s' : Store) (xs xs' : List Made) → FreshMade c n i vs s xs → FreshMade c n i vs s' xs'
    → MatchedActs reading SameMessage (fresh c n i vs) (map act_of xs) (map act_of xs') → map seen_of xs ≡ map seen_of xs'

-- ---- a read is its requests handed in singly

-- the single calls of a read with this answer: "the requests tried ..., each with what is left of `out`"
pub data InTurn (clock : ℕ) : (out later : List ℕ) → List (Entry (Call Input)) → ReadAnswer → List Exchange → Type 0 where
  none : {out : List ℕ} → InTurn clock out out [] (opened true) []
  bad_part : {out : List ℕ} {es : List (Entry (Call Input))}
      → InTurn clock out out (Entry.bad_part ∷ es) (record { accepted = 0; count = 0; refusal = Some Error.BadPart }) []
  refused : {out later : List ℕ} {call : Call Input} {other : call ≡ Call.plain Plain.next_request → ⊥} {es : List (Entry (Call Input))} {error : Error}
      {e : Store} → InTurn clock out later (Entry.request call ∷ es) (record { accepted = 0; count = 0; refusal = Some error })
      (Exchange.called call other clock out later (Err error) e ∷ [])
  accepted : {out mid later : List ℕ} {call : Call Input} {other : call ≡ Call.plain Plain.next_request → ⊥} {es : List (Entry (Call Input))} {answer : Answer}
      {others : ReadAnswer} {e : Store} {zs : List Exchange} → InTurn clock (drop answer.count mid) later es others zs
      → InTurn clock out (take answer.count mid ++ later) (Entry.request call ∷ es)
      (record { accepted = suc others.accepted; count = answer.count + others.count; refusal = others.refusal })
      (Exchange.called call other clock out mid (Ok answer) e ∷ zs)

-- Calls, reads and messages on the slices s, each read replaced by its single calls, and each message by the request that its bytes stand for in the session that the
-- slices hold, or by nothing where they are none
pub data Singles : (s : Store) → List Made → List Exchange → Type 0 where
  none : {s : Store} → Singles s [] []
  one : {s : Store} {x : Exchange} {xs : List Made} {ys : List Exchange} → Singles (slices_after s (x ∷ [])) xs ys → Singles s (Made.one x ∷ xs) (x ∷ ys)
  read : {s : Store} {records : List RequestRecord} {lent : List ℕ} {clock : ℕ} {out later : List ℕ} {answer : ReadAnswer} {e : Store} {xs : List Made} {zs ys : List Exchange}
      → InTurn clock out later (entries_of records lent) answer zs → Singles e xs ys → Singles s (Made.read records lent clock out later answer e ∷ xs) (zs ++ ys)
  handed : {s : Store} {bytes : List ℕ} {clock : ℕ} {out later : List ℕ} {call : Call Input} {n : ℕ} {other : call ≡ Call.plain Plain.next_request → ⊥} {answer : Result Answer Error} {e : Store}
      {xs : List Made} {ys : List Exchange} → reading (view (session s)) bytes ≡ Reading.request call n → Singles e xs ys
      → Singles s (Made.message bytes clock out later (Ok (record { answer = answer; taken = taken_of (outcome_of answer) n })) e ∷ xs)
      (Exchange.called call other clock out later answer e ∷ ys)
  told : {s : Store} {bytes : List ℕ} {clock : ℕ} {out later : List ℕ} {received : Received} {e : Store} {xs : List Made} {ys : List Exchange}
      → ((handed : messages.Handed) → received ≡ Ok handed → ⊥) → Singles e xs ys → Singles s (Made.message bytes clock out later received e ∷ xs) ys

-- what `next_request` gave, and of it the timed requests of a device; a read gives none, and a message neither
unfoldable pub delivered_in : List Made → List (Queued Load)
unfolding delivered_to
delivered_in [] = []
delivered_in (Made.one x ∷ xs) = delivered_to (x ∷ []) ++ delivered_in xs
delivered_in (Made.read records lent clock out later answer e ∷ xs) = delivered_in xs
delivered_in (Made.message bytes clock out later received e ∷ xs) = delivered_in xs

unfoldable pub given_in : (device : ℕ) → List Made → List (Item Load)
unfolding items_of delivered_in
given_in d xs = items_of d (delivered_in xs)

-- "Session, bytes and outcomes equal those of the requests tried, handed in singly": there are single calls, each as its contract has it, on the same slices
-- and to the same slices, that give the same
pub record Replaced (s : Store) (xs : List Made) : Type 0 where
  pub singles : List Exchange
  pub are : Singles s xs singles
  pub calls : Calls s singles
  pub after : slices_after s singles ≡ after_made s xs
  pub delivered : delivered_to singles ≡ delivered_in xs

abbrev pub ReadsAreSingles : Type 0
ReadsAreSingles = (s : Store) (xs : List Made) → is_whole s ≡ true → MadeCalls s xs → Replaced s xs

-- DEMAND 3, SECOND HALF, OF THE CODE, over lists with reads and messages: what is given for a device is what was taken on it, in order, a request of a read and
-- that of a message being taken as one that is handed in singly
pub record GivenInOrder (c n i : ℕ) (vs : List (Option ℕ)) (s : Store) (xs : List Made) (d : ℕ) : Type 0 where
  pub replaced : Replaced s xs
  pub fresh_calls : FreshCalls c n i vs s replaced.singles
  pub left : List (Item Load)
  pub in_order : taken c n i vs d (map turn_of replaced.singles) ≡ given_in d xs ++ left

abbrev pub MadeInOrder : Type 0
MadeInOrder = (c n i : ℕ) (vs : List (Option ℕ)) (s : Store) (xs : List Made) (d : ℕ) → FreshMade c n i vs s xs → GivenInOrder c n i vs s xs d
