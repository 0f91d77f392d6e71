-- Two lists of calls, reads and messages alike in all but payload: each act is seen as the one with the payload left out is, on the session with the payloads left
-- out. Assumes nothing.
use Prim.Native.Nat.{ℕ, ◌-◌}
use mathlib.Core.Path.{◌≡◌, refl, ap, ap₂, sym, ◌∙◌}
use mathlib.Core.Bool.{Bool, true, false, cond}
use mathlib.Core.List.{List, [], ◌∷◌, map}
use mathlib.Core.Option.{Option}
use lib.ListN.{length}
use Rattle.model.specs.Call.{Input, Load, Call}
use Rattle.model.specs.Session.{Session, View, map_session, blank, fresh, view}
use Rattle.model.specs.Plan.{records}
use Rattle.model.specs.Step.{Step, refuses, step}
use Rattle.model.specs.Demand3.{observed}
use Rattle.model.proofs.Commute.{map_split, map_step, blank-requests, step_map}
use Rattle.model.proofs.Payload.{sight_same}
use Rattle.model_reads.specs.Read.{Entry, Loaded, loaded, map_entry, Read, tried, before, handed_over}
use Rattle.model_reads.specs.Message.{Reading, map_reading, taken_of}
use Rattle.model_reads.specs.Acts.{Act, map_act, ObservedAct, split_at, observed_read, observed_message, after_message, observed_act, after_act, observed_acts, MatchedCall, MatchedEntries, MatchedReading, loaded_by, MatchedActs, seen_from, EqualActs}

-- ---- a read goes the same way whatever the payloads are
module _ {P Q : Type 0} (f : P → Q) where
  unfoldable map_loaded : Loaded P → Loaded Q
  map_loaded c = record { call = c.call; load = f c.load }

  unfoldable map_read : Read P → Read Q
  unfolding map_session
  map_read r = record { session = map_session f r.session; accepted = r.accepted; events = r.events; outcome = r.outcome }

  tried-map : (e : Entry (Loaded P)) (now room : ℕ) (s : Session P) → tried (map_entry map_loaded e) now room (map_session f s) ≡ map_step f (tried e now room s)
  unfolding tried map_step map_loaded map_split map_entry
  tried-map Entry.bad_part now room s = refl
  tried-map (Entry.request r) now room s = step_map f (split_at r now room) s

  cond_map : (b : Bool) (x y : Read P) → cond b (map_read x) (map_read y) ≡ map_read (cond b x y)
  cond_map true x y = refl
  cond_map false x y = refl

  before-map : (first : Step P) (others : Read P) → before (map_step f first) (map_read others) ≡ map_read (before first others)
  unfolding before map_read map_step
  before-map first others = cond_map (refuses first.outcome) _ _

  read-map : (es : List (Entry (Loaded P))) (now room : ℕ) (s : Session P)
      → handed_over (map (map_entry map_loaded) es) now room (map_session f s) ≡ map_read (handed_over es now room s)
  unfolding handed_over map_read map_step
  read-map [] now room s = refl
  read-map (e ∷ es) now room s =
      let first = tried e now room s in
      let left = room - length (records first.events) in
      rw (tried-map e now room s, read-map es now left first.session) (before-map first (handed_over es now left first.session))

  -- so does a message
  message-map : (r : Reading (Loaded P)) (now room : ℕ) (s : Session P) → observed_message (map_reading map_loaded r) now room (map_session f s) ≡ observed_message r now room s
  unfolding observed_message map_reading observed map_step map_split map_loaded
  message-map Reading.wait now room s = refl
  message-map Reading.no_object now room s = refl
  message-map (Reading.malformed e) now room s = refl
  message-map (Reading.request c n) now room s =
      let t = split_at c now room in
      ap (λ (r : Step Q). Reading.request (observed r) (taken_of r.outcome n)) (step_map f t s) ∙ rw (blank-requests f (step t s).gave)

  message-after : (r : Reading (Loaded P)) (now room : ℕ) (s : Session P) → after_message (map_reading map_loaded r) now room (map_session f s) ≡ map_session f (after_message r now room s)
  unfolding after_message map_reading map_step map_split map_loaded
  message-after Reading.wait now room s = refl
  message-after Reading.no_object now room s = refl
  message-after (Reading.malformed e) now room s = refl
  message-after (Reading.request c n) now room s = ap (λ (r : Step Q). r.session) (step_map f (split_at c now room) s)

-- ---- what a decision sees of matching calls is the same

-- a call without its payload
abbrev unloaded : Call Input → Loaded (Unit {0})
unloaded c = map_loaded blank (loaded c)

call_same : {c c' : Call Input} → MatchedCall c c' → unloaded c ≡ unloaded c'
unfolding map_loaded loaded
call_same (MatchedCall.plain c) = refl
call_same (MatchedCall.timed i v p) = rw (sight_same p)

entries_same : {es es' : List (Entry (Call Input))} → MatchedEntries es es' → map (map_entry unloaded) es ≡ map (map_entry unloaded) es'
unfolding map_entry
entries_same MatchedEntries.none = refl
entries_same (MatchedEntries.bad_part m) = rw (entries_same m)
entries_same (MatchedEntries.request p m) = rw (call_same p, entries_same m)

reading_same : {r r' : Reading (Call Input)} → MatchedReading r r' → map_reading unloaded r ≡ map_reading unloaded r'
unfolding map_reading
reading_same MatchedReading.wait = refl
reading_same MatchedReading.no_object = refl
reading_same (MatchedReading.malformed e) = refl
reading_same (MatchedReading.request n p) = rw (call_same p)

-- ---- payloads left out after they were set apart
entries-unloaded : (es : List (Entry (Call Input))) → map (map_entry (map_loaded blank)) (map (map_entry loaded) es) ≡ map (map_entry unloaded) es
unfolding map_entry
entries-unloaded [] = refl
entries-unloaded (Entry.bad_part ∷ es) = rw (entries-unloaded es)
entries-unloaded (Entry.request c ∷ es) = rw (entries-unloaded es)

reading-unloaded : (r : Reading (Call Input)) → map_reading (map_loaded blank) (map_reading loaded r) ≡ map_reading unloaded r
unfolding map_reading
reading-unloaded Reading.wait = refl
reading-unloaded Reading.no_object = refl
reading-unloaded (Reading.malformed e) = refl
reading-unloaded (Reading.request c n) = refl

-- ---- what is seen, and the session with no payloads afterwards, go by the session with no payloads
module _ (now room : ℕ) (s : Session Load) where
  call-seen : (c : Call Input) → observed (step (split_at (unloaded c) now room) (view s)) ≡ observed (step (split_at (loaded c) now room) s)
  unfolding observed map_step map_split map_loaded view
  call-seen c = let t = split_at (loaded c) now room in ap observed (step_map blank t s) ∙ rw (blank-requests (blank {P = Load}) (step t s).gave)

  call-after : (c : Call Input) → (step (split_at (unloaded c) now room) (view s)).session ≡ view (step (split_at (loaded c) now room) s).session
  unfolding map_step map_split map_loaded view
  call-after c = ap (λ (r : Step (Unit {0})). r.session) (step_map blank (split_at (loaded c) now room) s)

  read-unloaded : (es : List (Entry (Call Input))) → handed_over (map (map_entry unloaded) es) now room (view s) ≡ map_read blank (handed_over (map (map_entry loaded) es) now room s)
  unfolding view
  read-unloaded es = ap (λ (xs : List (Entry (Loaded (Unit {0})))). handed_over xs now room (view s)) (sym (entries-unloaded es)) ∙ read-map blank (map (map_entry loaded) es) now room s

  message-seen : (r : Reading (Call Input)) → observed_message (map_reading unloaded r) now room (view s) ≡ observed_message (map_reading loaded r) now room s
  unfolding view
  message-seen r = ap (λ (x : Reading (Loaded (Unit {0}))). observed_message x now room (view s)) (sym (reading-unloaded r)) ∙ message-map blank (map_reading loaded r) now room s

  message-later : (r : Reading (Call Input)) → after_message (map_reading unloaded r) now room (view s) ≡ view (after_message (map_reading loaded r) now room s)
  unfolding view
  message-later r = ap (λ (x : Reading (Loaded (Unit {0}))). after_message x now room (view s)) (sym (reading-unloaded r)) ∙ message-after blank (map_reading loaded r) now room s

serial-seen : (s : Session Load) → (view s).connection.last_serial ≡ s.connection.last_serial
unfolding view map_session
serial-seen s = refl

module _ (reads : View → List ℕ → Reading (Call Input)) (Same : View → (bytes bytes' : List ℕ) → Type 0)
    (alike : (v : View) (bytes bytes' : List ℕ) → Same v bytes bytes' → MatchedReading (reads v bytes) (reads v bytes')) where
  -- what is seen of one act of each list, and where they lead
  record Alongside (x x' : Act (Call Input)) (s s' : Session Load) : Type 0 where
    seen : observed_act (loaded_by reads) (map_act loaded x) s ≡ observed_act (loaded_by reads) (map_act loaded x') s'
    after : view (after_act (loaded_by reads) (map_act loaded x) s) ≡ view (after_act (loaded_by reads) (map_act loaded x') s')

  module _ (now room : ℕ) (s s' : Session Load) (e : view s ≡ view s') where
    ones : {c c' : Call Input} → MatchedCall c c' → Alongside (Act.one c now room) (Act.one c' now room) s s'
    unfolding observed_act after_act map_act
    ones {c} {c'} p =
        record {
          seen =
              ap ObservedAct.one
              (sym (call-seen now room s c) ∙ ap₂ (λ (x : Loaded (Unit {0})) (v : View). observed (step (split_at x now room) v)) (call_same p) e ∙ call-seen now room s' c');
          after = sym (call-after now room s c) ∙ ap₂ (λ (x : Loaded (Unit {0})) (v : View). (step (split_at x now room) v).session) (call_same p) e ∙ call-after now room s' c';
        }

    reads_alongside : {es es' : List (Entry (Call Input))} → MatchedEntries es es' → Alongside (Act.read es now room) (Act.read es' now room) s s'
    unfolding observed_act after_act map_act observed_read map_read view
    reads_alongside {es} {es'} p =
        let same = sym (read-unloaded now room s es) ∙ ap₂ (λ (x : List (Entry (Loaded (Unit {0})))) (v : View). handed_over x now room v) (entries_same p) e ∙ read-unloaded now room s' es' in
        record { seen = ap observed_read same; after = ap (λ (r : Read (Unit {0})). r.session) same }

    messages_alongside : {bytes bytes' : List ℕ} → Same (view s) bytes bytes' → Alongside (Act.message bytes now room) (Act.message bytes' now room) s s'
    unfolding observed_act after_act map_act
    messages_alongside {bytes} {bytes'} p =
        let r = reads (view s) bytes in
        let r' = reads (view s') bytes' in
        let same : map_reading unloaded r ≡ map_reading unloaded r' = reading_same (alike (view s) bytes bytes' p) ∙ ap (λ (v : View). map_reading unloaded (reads v bytes')) e in
        let after : view (after_message (map_reading loaded r) now room s) ≡ view (after_message (map_reading loaded r') now room s') =
        sym (message-later now room s r) ∙ ap₂ (λ (x : Reading (Loaded (Unit {0}))) (v : View). after_message x now room v) same e ∙ message-later now room s' r'
        in
        record {
          seen =
              ap₂ ObservedAct.message
              (sym (message-seen now room s r) ∙ ap₂ (λ (x : Reading (Loaded (Unit {0}))) (v : View). observed_message x now room v) same e ∙ message-seen now room s' r')
              (sym (serial-seen (after_message (map_reading loaded r) now room s)) ∙ ap (λ (v : View). v.connection.last_serial) after ∙ serial-seen (after_message (map_reading loaded r') now room s'));
          after = after;
        }

  abbrev seen_all : List (Act (Call Input)) → Session Load → List ObservedAct
  seen_all xs s = observed_acts (loaded_by reads) (map (map_act loaded) xs) s

  along : {s : Session Load} {xs xs' : List (Act (Call Input))} → MatchedActs reads Same s xs xs' → (s' : Session Load) → view s ≡ view s' → seen_all xs s ≡ seen_all xs' s'
  unfolding observed_acts
  along MatchedActs.none s' e = refl
  along {s} (MatchedActs.one now room p m) s' e =
      let a = ones now room s s' e p in ap₂ (λ (o : ObservedAct) (os : List ObservedAct). o ∷ os) a.seen (along m _ a.after)
  along {s} (MatchedActs.read now room p m) s' e =
      let a = reads_alongside now room s s' e p in ap₂ (λ (o : ObservedAct) (os : List ObservedAct). o ∷ os) a.seen (along m _ a.after)
  along {s} (MatchedActs.message now room p m) s' e =
      let a = messages_alongside now room s s' e p in ap₂ (λ (o : ObservedAct) (os : List ObservedAct). o ∷ os) a.seen (along m _ a.after)

pub equal_acts : (reads : View → List ℕ → Reading (Call Input)) (Same : View → (bytes bytes' : List ℕ) → Type 0) → EqualActs reads Same
unfolding EqualActs seen_from
equal_acts reads Same alike c s n vs xs xs' m = along reads Same alike m (fresh c s n vs) refl
