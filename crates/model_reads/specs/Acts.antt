-- Lists of calls in which whole reads and messages stand among the others, and demand 3's first half over them. "Every session call that these requests add joins
-- those of demand 3." Assumes nothing.
use Rattle.std.specs.Prelude.{ℕ, ◌≡◌}
use mathlib.Core.List.{List, [], ◌∷◌, map}
use Rattle.std.proofs.Math.Option.{Option}
use Rattle.std.proofs.Math.ListN.{length}
use Rattle.wire.specs.declared.ParseError.{ParseError}
use Rattle.model.specs.Call.{Input, Load, Plain, Call, Split}
use Rattle.model.specs.Session.{Session, View, fresh, view}
use Rattle.model.specs.Plan.{records}
use Rattle.model.specs.Step.{step}
use Rattle.model.specs.Demand3.{Observed, observed}
use Rattle.model.specs.Payload.{SameButPayload}
use Rattle.model_reads.specs.Read.{Entry, Loaded, loaded, map_entry, Read, handed_over}
use Rattle.model_reads.specs.Message.{Reading, map_reading, taken_of}

-- a call, a whole read, or the bytes of a message, with the clock and the length of the lent buffer
pub data Act (A : Type 0) : Type 0 where
  one : A → (now room : ℕ) → Act A
  read : List (Entry A) → (now room : ℕ) → Act A
  message : (bytes : List ℕ) → (now room : ℕ) → Act A

unfoldable pub map_act : {A B : Type 0} → (A → B) → Act A → Act B
unfolding map_entry
map_act f (Act.one c now room) = Act.one (f c) now room
map_act f (Act.read es now room) = Act.read (map (map_entry f) es) now room
map_act f (Act.message bytes now room) = Act.message bytes now room

-- What is seen of it, payload aside; of a read the number accepted too, and its outcome is the first refusal; of a message that it waits, its refusal with the
-- ParseError, or what is seen of its call with the bytes taken, and the last serial
pub data ObservedAct : Type 0 where
  one : Observed → ObservedAct
  read : (accepted : ℕ) → Observed → ObservedAct
  message : Reading Observed → (last_serial : ℕ) → ObservedAct

module _ {P : Type 0} where
  abbrev pub split_at : Loaded P → (now room : ℕ) → Split P
  split_at c now room = record { call = c.call; load = c.load; now = now; room = room }

  unfoldable pub observed_read : Read P → ObservedAct
  unfolding records
  observed_read r =
      ObservedAct.read r.accepted
      (record {
        outcome = r.outcome;
        count = length (records r.events);
        bytes = records r.events;
        last_serial = r.session.connection.last_serial;
        given = [];
      })

  -- a message that is handed on is its call
  unfoldable pub observed_message : Reading (Loaded P) → (now room : ℕ) → Session P → Reading Observed
  unfolding observed step taken_of
  observed_message Reading.wait now room s = Reading.wait
  observed_message Reading.no_object now room s = Reading.no_object
  observed_message (Reading.malformed e) now room s = Reading.malformed e
  observed_message (Reading.request c n) now room s =
      let r = step (split_at c now room) s in Reading.request (observed r) (taken_of r.outcome n)

  unfoldable pub after_message : Reading (Loaded P) → (now room : ℕ) → Session P → Session P
  unfolding step
  after_message Reading.wait now room s = s
  after_message Reading.no_object now room s = s
  after_message (Reading.malformed e) now room s = s
  after_message (Reading.request c n) now room s = (step (split_at c now room) s).session

-- `reads` is how bytes read in a session
module _ {P : Type 0} (reads : View → List ℕ → Reading (Loaded P)) where
  unfoldable pub after_act : Act (Loaded P) → Session P → Session P
  unfolding step handed_over after_message view
  after_act (Act.one c now room) s = (step (split_at c now room) s).session
  after_act (Act.read es now room) s = (handed_over es now room s).session
  after_act (Act.message bytes now room) s = after_message (reads (view s) bytes) now room s

  unfoldable pub observed_act : Act (Loaded P) → Session P → ObservedAct
  unfolding observed step observed_read handed_over observed_message after_message view
  observed_act (Act.one c now room) s = ObservedAct.one (observed (step (split_at c now room) s))
  observed_act (Act.read es now room) s = observed_read (handed_over es now room s)
  observed_act (Act.message bytes now room) s =
      let r = reads (view s) bytes in ObservedAct.message (observed_message r now room s) (after_message r now room s).connection.last_serial

  -- what is seen of a list of them
  unfoldable pub observed_acts : List (Act (Loaded P)) → Session P → List ObservedAct
  unfolding observed_act after_act
  observed_acts [] s = []
  observed_acts (x ∷ xs) s = observed_act x s ∷ observed_acts xs (after_act x s)

-- Two requests that are the same in all but payload
pub data MatchedCall : Call Input → Call Input → Type 0 where
  plain : (c : Plain) → MatchedCall (Call.plain c) (Call.plain c)
  timed : (interface version : ℕ) {a a' : Input} → SameButPayload a a' → MatchedCall (Call.timed interface version a) (Call.timed interface version a')

-- two lists of records: equally placed ones have such requests, or parts that both leave the texts
pub data MatchedEntries : List (Entry (Call Input)) → List (Entry (Call Input)) → Type 0 where
  none : MatchedEntries [] []
  bad_part : {es es' : List (Entry (Call Input))} → MatchedEntries es es' → MatchedEntries (Entry.bad_part ∷ es) (Entry.bad_part ∷ es')
  request : {c c' : Call Input} {es es' : List (Entry (Call Input))} → MatchedCall c c' → MatchedEntries es es'
      → MatchedEntries (Entry.request c ∷ es) (Entry.request c' ∷ es')

-- what two messages read as: the same, but for their calls' payload
pub data MatchedReading : Reading (Call Input) → Reading (Call Input) → Type 0 where
  wait : MatchedReading Reading.wait Reading.wait
  no_object : MatchedReading Reading.no_object Reading.no_object
  malformed : (e : ParseError) → MatchedReading (Reading.malformed e) (Reading.malformed e)
  request : {c c' : Call Input} (length : ℕ) → MatchedCall c c' → MatchedReading (Reading.request c length) (Reading.request c' length)

-- how bytes read, with the payload set apart
abbrev pub loaded_by : (View → List ℕ → Reading (Call Input)) → View → List ℕ → Reading (Loaded Load)
loaded_by reads v bytes = map_reading loaded (reads v bytes)

-- Two lists alike in all but payload. Which bytes are a message's payload goes by the object that it addresses, so the lists are gone along with the session of the
-- first; `Same` says when two messages are alike in a session
module _ (reads : View → List ℕ → Reading (Call Input)) (Same : View → (bytes bytes' : List ℕ) → Type 0) where
  pub data MatchedActs : Session Load → List (Act (Call Input)) → List (Act (Call Input)) → Type 0 where
    none : {s : Session Load} → MatchedActs s [] []
    one : {s : Session Load} {c c' : Call Input} (now room : ℕ) {xs xs' : List (Act (Call Input))} → MatchedCall c c'
        → MatchedActs (after_act (loaded_by reads) (map_act loaded (Act.one c now room)) s) xs xs' → MatchedActs s (Act.one c now room ∷ xs) (Act.one c' now room ∷ xs')
    read : {s : Session Load} {es es' : List (Entry (Call Input))} (now room : ℕ) {xs xs' : List (Act (Call Input))} → MatchedEntries es es'
        → MatchedActs (after_act (loaded_by reads) (map_act loaded (Act.read es now room)) s) xs xs' → MatchedActs s (Act.read es now room ∷ xs) (Act.read es' now room ∷ xs')
    message : {s : Session Load} {bytes bytes' : List ℕ} (now room : ℕ) {xs xs' : List (Act (Call Input))} → Same (view s) bytes bytes'
        → MatchedActs (after_act (loaded_by reads) (map_act loaded (Act.message bytes now room)) s) xs xs'
        → MatchedActs s (Act.message bytes now room ∷ xs) (Act.message bytes' now room ∷ xs')

  -- what is seen of calls, reads and messages from a fresh session on
  unfoldable pub seen_from : (connection serial next_id : ℕ) (versions : List (Option ℕ)) → List (Act (Call Input)) → List ObservedAct
  unfolding observed_acts map_act loaded fresh
  seen_from c s n vs xs = observed_acts (loaded_by reads) (map (map_act loaded) xs) (fresh c s n vs)

  -- DEMAND 3, FIRST HALF, OVER LISTS WITH READS AND MESSAGES. "For every two lists of calls alike in all but payload, everything observable but payload is equal":
  -- where messages that are alike read alike
  unfoldable pub EqualActs : Type 0
  unfolding seen_from fresh
  EqualActs =
      ((v : View) (bytes bytes' : List ℕ) → Same v bytes bytes' → MatchedReading (reads v bytes) (reads v bytes'))
      → (c s n : ℕ) (vs : List (Option ℕ)) (xs xs' : List (Act (Call Input))) → MatchedActs (fresh c s n vs) xs xs' → seen_from c s n vs xs ≡ seen_from c s n vs xs'
