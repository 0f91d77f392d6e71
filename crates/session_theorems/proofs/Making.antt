-- Reads and messages among the other calls: each read is its single calls, one after another, each message its request or nothing, and what is seen of them all is
-- what the definitions say. Assumes nothing.
use Rattle.answers.specs.declared.Error.{Error}
use Rattle.std.specs.Prelude.{Result, Ok, Err}
use Prim.Native.Nat.{ℕ, ◌+◌}
use mathlib.Core.Path.{◌≡◌, refl, sym, ap, ap₂, ◌∙◌}
use mathlib.Core.Bool.{Bool, true, false, false≢true}
use mathlib.Core.List.{List, [], ◌∷◌, ◌++◌, map, append_assoc}
use mathlib.Core.Option.{Option}
use lib.ListN.{length, take, drop}
use lib.Seq.{take-append_seam}
use Rattle.wire.specs.Bits.{splice}
use Rattle.model.specs.Call.{Input, Load, Call, split}
use Rattle.model.specs.Session.{Queued, Session, view}
use Rattle.model.specs.Plan.{records}
use Rattle.model.specs.Plan as plan
use Rattle.model.specs.Step.{run, step}
use Rattle.model.specs.Demand3.{Observed, observed, items_of}
use Rattle.model.specs.Reachable.{session_after}
use Rattle.model_reads.specs.Read.{Entry, loaded, Read}
use Rattle.model_reads.specs.Message.{Reading, map_reading, taken_of}
use Rattle.model_reads.specs.Acts.{map_act, ObservedAct, observed_read, observed_message, after_message, observed_act, after_act, observed_acts, loaded_by, seen_from, EqualActs}
use Rattle.model_reads.proofs.EqualActs.{equal_acts}
use Rattle.session.specs.View.{Store, session, is_whole, Lending, is_intact}
use Rattle.session.proofs.Views.{whole_is}
use Rattle.answers.specs.declared.Answer.{Answer}
use Rattle.answers.specs.Meets.{Handled, Answered}
use Rattle.messages.specs.declared.Handed as messages
use Rattle.messages.specs.declared.Unhanded.{Unhanded}
use Rattle.messages.specs.Reading.{reading}
use Rattle.messages.specs.Received.{Received, Told, ReceivedAs}
use Rattle.messages.specs.Same.{SameMessage}
use Rattle.messages.proofs.Matching.{same_matched}
use Rattle.converter.specs.Next.{given_in as next_given}
use Rattle.reads.specs.declared.ReadAnswer.{ReadAnswer}
use Rattle.reads.specs.declared.record.RequestRecord.{RequestRecord}
use Rattle.reads.specs.Handed.{Singly}
use Rattle.reads.specs.Agrees.{Agrees}
use Rattle.reads.proofs.Agreed.{handed_is_read}
use Rattle.session_theorems.specs.Trail.{Exchange, turn_of, Calls, slices_after, serial_in, seen, FreshCalls, delivered_to, given_to}
use Rattle.session_theorems.specs.Made.{Made, entries_of, act_of, after_made, MadeCalls, received_seen, seen_of, MadeIsActs, FreshMade, EqualSeen, InTurn, Singles, delivered_in, given_in, Replaced, ReadsAreSingles, MadeInOrder}
use Rattle.session_theorems.proofs.Others.{Others, others, message-other}
use Rattle.session_theorems.proofs.Trails.{seen_is_run, stays-whole, session_after_lem, given_in_order}

-- ---- calls one after another

calls-append : {s : Store} (zs : List Exchange) {ys : List Exchange} → Calls s zs → Calls (slices_after s zs) ys → Calls s (zs ++ ys)
unfolding slices_after
calls-append [] Calls.none c = c
calls-append (Exchange.called call other clock out later answer e ∷ zs) (Calls.called a rest) c = Calls.called a (calls-append zs rest c)
calls-append (Exchange.asked clock buffer later answer e ∷ zs) (Calls.asked a rest) c = Calls.asked a (calls-append zs rest c)

after-append : (s : Store) (zs ys : List Exchange) → slices_after s (zs ++ ys) ≡ slices_after (slices_after s zs) ys
unfolding slices_after
after-append s [] ys = refl
after-append s (Exchange.called call other clock out later answer e ∷ zs) ys = after-append e zs ys
after-append s (Exchange.asked clock buffer later answer e ∷ zs) ys = after-append e zs ys

delivered-append : (zs ys : List Exchange) → delivered_to (zs ++ ys) ≡ delivered_to zs ++ delivered_to ys
unfolding delivered_to
delivered-append [] ys = refl
delivered-append (Exchange.called call other clock out later answer e ∷ zs) ys = delivered-append zs ys
delivered-append (Exchange.asked clock buffer later answer e ∷ zs) ys =
    let first = next_given answer later in
    ap (λ (rs : List (Queued Load)). first ++ rs) (delivered-append zs ys) ∙ sym (append_assoc first (delivered_to zs) (delivered_to ys))

-- ---- what is received

is_handed : Received → Bool
is_handed (Err why) = false
is_handed (Ok handed) = true

unhanded : {why : Unhanded} {h : messages.Handed} → ◌≡◌ {A = Received} (Err why) (Ok h) → ⊥
unfolding is_handed
unhanded e = false≢true (ap is_handed e)

-- on a session that is not damaged, what the model says is what is promised of every call
handled-answered : (s e : Store) (out later : List ℕ) (call : Call Input) (clock : ℕ) (answer : Result Answer Error) → is_whole s ≡ true → Handled s e out later call clock answer
    → Answered Lending.all s e out later call clock answer
unfolding is_intact
handled-answered s e out later call clock answer whole h = record { damaged = λ d. absurd (false≢true (sym d ∙ whole)); handled = λ _ _. h }

-- ---- a read is its single calls

record Turns (clock : ℕ) (s e : Store) (out later : List ℕ) (es : List (Entry (Call Input))) (r : ReadAnswer) : Type 0 where
  singles : List Exchange
  in_turn : InTurn clock out later es r singles
  calls : Calls s singles
  after : slices_after s singles ≡ e
  none_given : delivered_to singles ≡ []

turns : {clock : ℕ} {s e : Store} {out later : List ℕ} {es : List (Entry (Call Input))} {r : ReadAnswer} → Others es → Singly clock s e out later es r
    → Turns clock s e out later es r
unfolding slices_after delivered_to
turns Others.none Singly.none = record { singles = []; in_turn = InTurn.none; calls = Calls.none; after = refl; none_given = refl }
turns (Others.bad_part os) Singly.bad_part = record { singles = []; in_turn = InTurn.bad_part; calls = Calls.none; after = refl; none_given = refl }
turns {clock} {e = e} {out = out} {later = later} (Others.request {call = call} other os) (Singly.refused {error = error} a) =
    record {
      singles = Exchange.called call other clock out later (Err error) e ∷ [];
      in_turn = InTurn.refused;
      calls = Calls.called a Calls.none;
      after = refl;
      none_given = refl;
    }
turns {clock} {s = s} {out = out} (Others.request {call = call} other os) (Singly.accepted {m = m} {mid = mid} {answer = answer} a rest) =
    let t = turns {s = m} os rest in
    record {
      singles = Exchange.called call other clock out mid (Ok answer) m ∷ t.singles;
      in_turn = InTurn.accepted t.in_turn;
      calls = Calls.called a t.calls;
      after = t.after;
      none_given = t.none_given;
    }

pub reads_are_singles : ReadsAreSingles
unfolding after_made delivered_in slices_after delivered_to
reads_are_singles s [] whole MadeCalls.none =
    record { singles = []; are = Singles.none; calls = Calls.none; after = refl; delivered = refl }
reads_are_singles s (Made.one x ∷ xs) whole (MadeCalls.one c rest) =
    let r = reads_are_singles (slices_after s (x ∷ [])) xs (stays-whole s (x ∷ []) whole c) rest in
    record {
      singles = x ∷ r.singles;
      are = Singles.one r.are;
      calls = calls-append (x ∷ []) c r.calls;
      after = after-append s (x ∷ []) r.singles ∙ r.after;
      delivered = delivered-append (x ∷ []) r.singles ∙ ap (λ (rs : List (Queued Load)). delivered_to (x ∷ []) ++ rs) r.delivered;
    }
reads_are_singles s (Made.read rs lent clock out later answer e ∷ xs) whole (MadeCalls.read h rest) =
    let t = turns (others lent rs) (h.handled whole) in
    let w : is_whole e ≡ true = whole_is e (handed_is_read s e out later (entries_of rs lent) clock answer whole h).whole in
    let r = reads_are_singles e xs w rest in
    record {
      singles = t.singles ++ r.singles;
      are = Singles.read t.in_turn r.are;
      calls = calls-append t.singles t.calls (rw t.after r.calls);
      after = after-append s t.singles r.singles ∙ ap (λ (m : Store). slices_after m r.singles) t.after ∙ r.after;
      delivered = delivered-append t.singles r.singles ∙ ap₂ ◌++◌ t.none_given r.delivered;
    }
reads_are_singles s (Made.message bytes clock out later received e ∷ xs) whole (MadeCalls.message h rest) =
    by_reading (reading (view (session s)) bytes) refl (h.read whole) (λ w. reads_are_singles e xs w rest)
  where
    told : (answer : Received) → ((h : messages.Handed) → answer ≡ Ok h → ⊥) → Told s e out later answer received
        → (is_whole e ≡ true → Replaced e xs) → Replaced s (Made.message bytes clock out later received e ∷ xs)
    told answer other t later_ones =
        let r = later_ones (rw t.1.0 whole) in
        record {
          singles = r.singles;
          are = Singles.told (λ h q. other h (sym t.0 ∙ q)) r.are;
          calls = rw (← t.1.0) r.calls;
          after = ap (λ (m : Store). slices_after m r.singles) (sym t.1.0) ∙ r.after;
          delivered = r.delivered;
        }

    by_reading : (x : Reading (Call Input)) → reading (view (session s)) bytes ≡ x → ReceivedAs s e out later x clock received
        → (is_whole e ≡ true → Replaced e xs) → Replaced s (Made.message bytes clock out later received e ∷ xs)
    by_reading Reading.wait q t later_ones = told (Err Unhanded.Wait) (λ h z. unhanded z) t later_ones
    by_reading Reading.no_object q t later_ones = told (Err Unhanded.NoObject) (λ h z. unhanded z) t later_ones
    by_reading (Reading.malformed p) q t later_ones = told (Err (Unhanded.Malformed p)) (λ h z. unhanded z) t later_ones
    by_reading (Reading.request call n) q t later_ones =
        let r = later_ones (whole_is e t.handled.whole) in
        record {
          singles = Exchange.called call (message-other (view (session s)) bytes q) clock out later t.answer e ∷ r.singles;
          are = rw t.told (Singles.handed q r.are);
          calls = Calls.called (handled-answered s e out later call clock t.answer whole t.handled) r.calls;
          after = r.after;
          delivered = r.delivered;
        }

pub made_in_order : MadeInOrder
unfolding given_to given_in
made_in_order c n i vs s xs d f =
    let r = reads_are_singles s xs f.whole f.calls in
    let g : FreshCalls c n i vs s r.singles = record { whole = f.whole; starts = f.starts; calls = r.calls } in
    let k = given_in_order c n i vs s r.singles d g in
    record { replaced = r; fresh_calls = g; left = k.0; in_order = k.1 ∙ ap (λ (rs : List (Queued Load)). items_of d rs ++ k.0) r.delivered }

-- ---- what is seen

first_or : Observed → List Observed → Observed
first_or d [] = d
first_or d (o ∷ os) = o

-- of one call
one_seen : (s : Store) (x : Exchange) → is_whole s ≡ true → Calls s (x ∷ []) → seen x ≡ observed (step (split (turn_of x)) (session s))
unfolding run first_or
one_seen s x whole c = ap (first_or (seen x)) (seen_is_run s (x ∷ []) whole c)

one_after : (s : Store) (x : Exchange) → is_whole s ≡ true → Calls s (x ∷ []) → session (slices_after s (x ∷ [])) ≡ (step (split (turn_of x)) (session s)).session
unfolding session_after
one_after s x whole c = session_after_lem s (x ∷ []) whole c

-- of a message
message-seen : (s e : Store) (bytes : List ℕ) (clock : ℕ) (out later : List ℕ) (received : Received) → is_whole s ≡ true → (x : Reading (Call Input))
    → reading (view (session s)) bytes ≡ x → ReceivedAs s e out later x clock received
    → (received_seen later e received ≡ observed_message (map_reading loaded x) clock (length out) (session s))
    × ((session e ≡ after_message (map_reading loaded x) clock (length out) (session s)) × (is_whole e ≡ true))
unfolding observed_message after_message map_reading split loaded
message-seen s e bytes clock out later received whole Reading.wait q t = (ap (received_seen later e) t.0, (ap session t.1.0, rw t.1.0 whole))
message-seen s e bytes clock out later received whole Reading.no_object q t = (ap (received_seen later e) t.0, (ap session t.1.0, rw t.1.0 whole))
message-seen s e bytes clock out later received whole (Reading.malformed p) q t = (ap (received_seen later e) t.0, (ap session t.1.0, rw t.1.0 whole))
message-seen s e bytes clock out later received whole (Reading.request call n) q t =
    let other = message-other (view (session s)) bytes q in
    let x = Exchange.called call other clock out later t.answer e in
    let c : Calls s (x ∷ []) = Calls.called (handled-answered s e out later call clock t.answer whole t.handled) Calls.none in (
      ap (received_seen later e) t.told ∙ ap₂ (λ (o : Observed) (k : ℕ). Reading.request o k) (one_seen s x whole c) (ap (λ (o : plan.Result). taken_of o n) t.handled.outcome),
      (t.handled.view, whole_is e t.handled.whole),
    )

-- of a read
read-seen : {s e : Store} (rs : List RequestRecord) (lent : List ℕ) (clock : ℕ) (out : List ℕ) {later : List ℕ} {to : Read Load} {r : ReadAnswer}
    → Agrees s e out later to r → seen_of (Made.read rs lent clock out later r e) ≡ observed_read to
unfolding observed_read splice
read-seen {e = e} rs lent clock out {later} {to} {r} a =
    let wrote : take r.count later ≡ records to.events = rw (a.count, a.bytes) (take-append_seam (records to.events) (drop (0 + length (records to.events)) out)) in
    let serial : serial_in e ≡ to.session.connection.last_serial = ap (λ (x : Session Load). x.connection.last_serial) a.view in
    λ i. ObservedAct.read (a.accepted i) (record { outcome = a.outcome i; count = a.count i; bytes = wrote i; last_serial = serial i; given = [] })

pub made_is_acts : MadeIsActs
unfolding observed_acts observed_act after_act map_act split loaded
made_is_acts s [] whole MadeCalls.none = refl
made_is_acts s (Made.one x ∷ xs) whole (MadeCalls.one c rest) =
    ap₂ (λ (o : ObservedAct) (os : List ObservedAct). o ∷ os) (ap ObservedAct.one (one_seen s x whole c)) (made_is_acts (slices_after s (x ∷ [])) xs (stays-whole s (x ∷ []) whole c) rest ∙ ap (observed_acts (loaded_by reading) (map (map_act loaded) (map act_of xs))) (one_after s x whole c))
made_is_acts s (Made.message bytes clock out later received e ∷ xs) whole (MadeCalls.message h rest) =
    let m = message-seen s e bytes clock out later received whole (reading (view (session s)) bytes) refl (h.read whole) in
    ap₂ (λ (o : ObservedAct) (os : List ObservedAct). o ∷ os)
    (ap₂ ObservedAct.message m.0 (ap (λ (x : Session Load). x.connection.last_serial) m.1.0))
    (made_is_acts e xs m.1.1 rest ∙ ap (observed_acts (loaded_by reading) (map (map_act loaded) (map act_of xs))) m.1.0)
made_is_acts s (Made.read rs lent clock out later answer e ∷ xs) whole (MadeCalls.read h rest) =
    let a = handed_is_read s e out later (entries_of rs lent) clock answer whole h in
    ap₂ (λ (o : ObservedAct) (os : List ObservedAct). o ∷ os) (read-seen rs lent clock out a) (made_is_acts e xs (whole_is e a.whole) rest ∙ ap (observed_acts (loaded_by reading) (map (map_act loaded) (map act_of xs))) a.view)

module _ {c n i : ℕ} {vs : List (Option ℕ)} {s : Store} {xs : List Made} (f : FreshMade c n i vs s xs) where
  seen_from_lem : map seen_of xs ≡ seen_from reading SameMessage c n i vs (map act_of xs)
  unfolding seen_from
  seen_from_lem = made_is_acts s xs f.whole f.calls ∙ ap (observed_acts (loaded_by reading) (map (map_act loaded) (map act_of xs))) f.starts

pub equal_seen : EqualSeen
unfolding EqualActs
equal_seen c n i vs s s' xs xs' f f' matched =
    seen_from_lem f ∙ equal_acts reading SameMessage same_matched c n i vs (map act_of xs) (map act_of xs') matched ∙ sym (seen_from_lem f')
