-- Each call of the code is a step of the definitions, so a list of calls is a run of them. Assumes nothing.
use Rattle.answers.specs.declared.Error.{Error}
use Rattle.std.specs.Prelude.{Some, None, Result, Ok, Err}
use Prim.Native.Nat.{ℕ, ◌+◌}
use mathlib.Core.Path.{◌≡◌, refl, sym, ap, ap₂, ◌∙◌}
use mathlib.Core.Bool.{true, false, ◌&&◌, false≢true}
use mathlib.Core.List.{List, [], ◌∷◌, ◌++◌, map}
use mathlib.Core.Option.{Option}
use lib.ListN.{length, take, drop}
use lib.Seq.{take-append_seam}
use Rattle.wire.specs.Bits.{splice}
use Rattle.model.specs.Call.{Input, Load, Plain, Call, map_call, load_of, split}
use Rattle.model.specs.Session.{Item, Queued, Session, fresh, view, map_queued, blank}
use Rattle.model.specs.Plan.{records, refusal}
use Rattle.model.specs.Plan as plan
use Rattle.model.specs.Step.{Step, refuses, run, step}
use Rattle.model.specs.Demand3.{Observed, observed, trail, items_of, delivered, given, InOrder}
use Rattle.model.specs.Refusals.{OwnRefusals}
use Rattle.model.specs.Reachable.{session_after, new_ids, ids_in, IdsAscend}
use Rattle.model.specs.Kept.{NothingLost}
use Rattle.model.specs.Destroyed.{destroyed_of, destroyed_in, DestroyedOnce, LivesStanding, ReleaseIsRemoval}
use Rattle.model.proofs.Provenance.{in_order, nothing_lost}
use Rattle.model.proofs.Reachable.{refusal-ids, ids_ascend}
use Rattle.model.proofs.Destroyed.{destroyed_once, lives_standing}
use Rattle.model.proofs.Released.{release_is_removal}
use Rattle.model.proofs.Refusals.{own_refusals}
use Rattle.session.specs.View.{Store, session, is_whole}
use Rattle.session.proofs.Views.{whole_is}
use Rattle.answers.specs.Answer.{error_of, ending_of, outcome_of}
use Rattle.answers.specs.Answer as tells
use Rattle.answers.specs.Meets.{Meets, turn, Handled}
use Rattle.answers.specs.declared.Outcome.{Outcome}
use Rattle.answers.specs.declared.Answer.{Answer}
use Rattle.answers.proofs.Meetings.{answered-handled, error_refuses}
use Rattle.converter.specs.Next.{next_outcome, given_in, NextRequest}
use Rattle.session_theorems.specs.Trail.{Exchange, turn_of, Calls, slices_after, serial_in, seen, SeenIsRun, all_of_session, Never21, FreshCalls, delivered_to, given_to, AlwaysGivenInOrder, SeenNothingLost, Told, SeenLives, SeenReleaseIsRemoval}
use Rattle.session_theorems.proofs.Deliveries.{is_given, step-gave, step-quiet, asked-silent}

-- what the definitions say of calls of the code
abbrev run_of : List Exchange → Session Load → List (Step Load)
run_of xs t = run (map split (map turn_of xs)) t

-- the bytes at the start of `out`, as many as the count says, are the step's
bytes_are : {s e : Store} (out : List ℕ) {later : List ℕ} {T : Type 0} {to : Step Load} {r : Result Answer Error} → Meets s e out later T to r → take (tells.count_of r) later ≡ records to.events
unfolding splice
bytes_are out {to = to} m = rw (m.count, m.bytes) (take-append_seam (records to.events) (drop (0 + length (records to.events)) out))

serial_is : (e : Store) {t : Session Load} → session e ≡ t → serial_in e ≡ t.connection.last_serial
serial_is e h = ap (λ (x : Session Load). x.connection.last_serial) h

-- ---- what is given

-- what refuses gives nothing
refused-not-given : (o : plan.Result) → refuses o ≡ true → is_given o ≡ false
unfolding refuses refusal is_given
refused-not-given plan.Result.accepted h = refl
refused-not-given (plan.Result.refused n) h = refl
refused-not-given (plan.Result.refused_version i v) h = refl
refused-not-given (plan.Result.seat id) h = refl
refused-not-given (plan.Result.device id) h = refl
refused-not-given (plan.Result.value n) h = refl
refused-not-given (plan.Result.truth b) h = refl
refused-not-given plan.Result.none h = refl
refused-not-given plan.Result.given h = absurd (false≢true h)

ending-not-given : (o : Outcome) → is_given (ending_of o) ≡ false
unfolding is_given
ending-not-given Outcome.Accepted = refl
ending-not-given (Outcome.Seat id) = refl
ending-not-given (Outcome.Device id) = refl
ending-not-given (Outcome.Value n) = refl
ending-not-given (Outcome.Truth b) = refl
ending-not-given Outcome.None = refl

outcome-not-given : (r : Result Answer Error) → is_given (outcome_of r) ≡ false
outcome-not-given (Ok a) = ending-not-given a.outcome
outcome-not-given (Err e) = refused-not-given (error_of e) (error_refuses e)

-- no call but `next_request` gives a request
call-gave : (call : Call Input) (clock : ℕ) {s e : Store} (out : List ℕ) {later : List ℕ} {answer : Result Answer Error} → Handled s e out later call clock answer
    → (step (split (turn call clock out)) (session s)).gave ≡ []
call-gave call clock {s = s} out {answer = answer} m = step-gave (split (turn call clock out)) (session s) (ap is_given (sym m.outcome) ∙ outcome-not-given answer)

-- and that one writes no event
asked-quiet : (clock : ℕ) (buffer : List ℕ) (s : Session Load) → (step (split (turn (Call.plain Plain.next_request) clock buffer)) s).events ≡ []
unfolding split
asked-quiet clock buffer s = step-quiet (split (turn (Call.plain Plain.next_request) clock buffer)) s (asked-silent (view s) clock)

-- ---- what is seen

-- of one call, with any step in the place of the model's
called-seen : (call : Call Input) (other : call ≡ Call.plain Plain.next_request → ⊥) (clock : ℕ) {s e : Store} (out : List ℕ) {later : List ℕ} {T : Type 0} {to : Step Load} {answer : Result Answer Error}
    → Meets s e out later T to answer → to.gave ≡ [] → seen (Exchange.called call other clock out later answer e) ≡ observed to
unfolding observed
called-seen call other clock {e = e} out m g =
    let b = bytes_are out m in
    let n = serial_is e m.view in
    λ i. record { outcome = m.outcome i; count = m.count i; bytes = b i; last_serial = n i; given = map (map_queued blank) (sym g i) }

pub seen_is_run : SeenIsRun
unfolding run observed records
seen_is_run s [] whole Calls.none = refl
seen_is_run s (Exchange.called call other clock out later answer e ∷ xs) whole (Calls.called a rest) =
    let m = answered-handled s a whole in
    ap₂ (λ (o : Observed) (os : List Observed). o ∷ os)
    (called-seen call other clock out m (call-gave call clock out m))
    (seen_is_run e xs (whole_is e m.whole) rest ∙ ap (λ (t : Session Load). map observed (run_of xs t)) m.view)
seen_is_run s (Exchange.asked clock buffer later answer e ∷ xs) whole (Calls.asked a rest) =
    let m = a.handled clock whole in
    let n = serial_is e m.view in
    let q = asked-quiet clock buffer (session s) in
    ap₂ (λ (o : Observed) (os : List Observed). o ∷ os)
    (λ i.
    record {
      outcome = m.outcome i;
      count = length (records (sym q i));
      bytes = records (sym q i);
      last_serial = n i;
      given = map (map_queued blank) (m.gave i);
    })
    (seen_is_run e xs (whole_is e m.whole) rest ∙ ap (λ (t : Session Load). map observed (run_of xs t)) m.view)

-- the slices after the calls are not damaged, and hold the session after the steps
pub stays-whole : (s : Store) (xs : List Exchange) → is_whole s ≡ true → Calls s xs → is_whole (slices_after s xs) ≡ true
unfolding slices_after
stays-whole s [] whole Calls.none = whole
stays-whole s (Exchange.called call other clock out later answer e ∷ xs) whole (Calls.called a rest) =
    stays-whole e xs (whole_is e (answered-handled s a whole).whole) rest
stays-whole s (Exchange.asked clock buffer later answer e ∷ xs) whole (Calls.asked a rest) = stays-whole e xs (whole_is e (a.handled clock whole).whole) rest

pub session_after_lem : (s : Store) (xs : List Exchange) → is_whole s ≡ true → Calls s xs
    → session (slices_after s xs) ≡ session_after (map split (map turn_of xs)) (session s)
unfolding slices_after session_after
session_after_lem s [] whole Calls.none = refl
session_after_lem s (Exchange.called call other clock out later answer e ∷ xs) whole (Calls.called a rest) =
    let m = answered-handled s a whole in
    session_after_lem e xs (whole_is e m.whole) rest ∙ ap (session_after (map split (map turn_of xs))) m.view
session_after_lem s (Exchange.asked clock buffer later answer e ∷ xs) whole (Calls.asked a rest) =
    let m = a.handled clock whole in session_after_lem e xs (whole_is e m.whole) rest ∙ ap (session_after (map split (map turn_of xs))) m.view

run_of-session : (xs : List Exchange) (t : Session Load) → all_of_session (map observed (run_of xs t)) ≡ true
unfolding all_of_session run observed OwnRefusals
run_of-session [] t = refl
run_of-session (x ∷ xs) t =
    let u = split (turn_of x) in ap₂ ◌&&◌ (own_refusals u t) (run_of-session xs (step u t).session)

pub never_21 : Never21
never_21 s xs whole calls = (ap all_of_session (seen_is_run s xs whole calls) ∙ run_of-session xs (session s), stays-whole s xs whole calls)

-- ---- what is given for a device

delivered_is : (s : Store) (xs : List Exchange) → is_whole s ≡ true → Calls s xs → delivered_to xs ≡ delivered (run_of xs (session s))
unfolding delivered_to delivered run
delivered_is s [] whole Calls.none = refl
delivered_is s (Exchange.called call other clock out later answer e ∷ xs) whole (Calls.called a rest) =
    let m = answered-handled s a whole in
    delivered_is e xs (whole_is e m.whole) rest
    ∙ ap₂ (λ (rs : List (Queued Load)) (t : Session Load). rs ++ delivered (run_of xs t)) (sym (call-gave call clock out m)) m.view
delivered_is s (Exchange.asked clock buffer later answer e ∷ xs) whole (Calls.asked a rest) =
    let m = a.handled clock whole in
    ap (λ (rs : List (Queued Load)). given_in answer later ++ rs) (delivered_is e xs (whole_is e m.whole) rest)
    ∙ ap₂ (λ (rs : List (Queued Load)) (t : Session Load). rs ++ delivered (run_of xs t)) m.gave m.view

module _ {c n i : ℕ} {vs : List (Option ℕ)} {s : Store} {xs : List Exchange} (f : FreshCalls c n i vs s xs) where
  pub delivered_is_trail : delivered (trail c n i vs (map turn_of xs)) ≡ delivered_to xs
  unfolding trail
  delivered_is_trail = sym (delivered_is s xs f.whole f.calls ∙ ap (λ (t : Session Load). delivered (run_of xs t)) f.starts)

  given_is-trail : (d : ℕ) → given d (trail c n i vs (map turn_of xs)) ≡ given_to d xs
  unfolding given given_to
  given_is-trail d = ap (items_of d) delivered_is_trail

  pub after_is : session_after (map split (map turn_of xs)) (fresh c n i vs) ≡ session (slices_after s xs)
  after_is = sym (session_after_lem s xs f.whole f.calls ∙ ap (session_after (map split (map turn_of xs))) f.starts)

pub given_in_order : AlwaysGivenInOrder
unfolding InOrder
given_in_order c n i vs s xs d f =
    let k = in_order c n i vs (map turn_of xs) d in (k.0, k.1 ∙ ap (λ (is : List (Item Load)). is ++ k.0) (given_is-trail f d))

pub seen_nothing_lost : SeenNothingLost
unfolding NothingLost
seen_nothing_lost c n i vs s xs d f stands =
    rw (sym (given_is-trail f d), sym (after_is f)) (nothing_lost c n i vs (map turn_of xs) d (rw (after_is f) stands))

-- ---- the life of objects

-- `next_request` tells no id
asked_no_ids : (r : NextRequest) → new_ids (next_outcome r) [] ≡ []
unfolding new_ids
asked_no_ids (Ok (Some r)) = refl
asked_no_ids (Ok None) = refl
asked_no_ids (Err e) = refusal-ids (error_of e) (error_refuses e)

told_is : (s : Store) (xs : List Exchange) → is_whole s ≡ true → Calls s xs → Told xs (ids_in (run_of xs (session s))) (destroyed_in (run_of xs (session s)))
unfolding ids_in destroyed_in destroyed_of run
told_is s [] whole Calls.none = Told.none
told_is s (Exchange.called call other clock out later answer e ∷ xs) whole (Calls.called a rest) =
    let m = answered-handled s a whole in
    let to = step (split (turn call clock out)) (session s) in
    rw (sym m.outcome, sym m.view) (Told.called to.events (bytes_are out m) (told_is e xs (whole_is e m.whole) rest))
told_is s (Exchange.asked clock buffer later answer e ∷ xs) whole (Calls.asked a rest) =
    let m = a.handled clock whole in
    rw (sym m.outcome, asked-quiet clock buffer (session s), sym m.view, asked_no_ids answer) (Told.asked (told_is e xs (whole_is e m.whole) rest))

pub seen_lives : SeenLives
unfolding IdsAscend DestroyedOnce LivesStanding trail
seen_lives c n i vs s xs f =
    record {
      given = ids_in (run_of xs (session s));
      gone = destroyed_in (run_of xs (session s));
      told = told_is s xs f.whole f.calls;
      ascend = rw f.starts (ids_ascend c n i vs (map turn_of xs));
      once = λ id. rw f.starts (destroyed_once c n i vs (map turn_of xs) id);
      stands = λ id. rw (f.starts, sym (after_is f)) (lives_standing c n i vs (map turn_of xs) id);
    }

pub seen_release_is_removal : SeenReleaseIsRemoval
unfolding ReleaseIsRemoval split map_call load_of
seen_release_is_removal l l' s d d' out later later' clock seat x r r' whole e a b =
    let m = answered-handled s a whole in
    let k = answered-handled s b whole in
    let q = release_is_removal Load Load.None clock (length out) seat x (session s) e in
    record {
      view = m.view ∙ ap (λ (t : Step Load). t.session) q ∙ sym k.view;
      outcome = m.outcome ∙ ap (λ (t : Step Load). t.outcome) q ∙ sym k.outcome;
      count = m.count ∙ ap (λ (t : Step Load). length (records t.events)) q ∙ sym k.count;
      bytes = m.bytes ∙ ap (λ (t : Step Load). splice out 0 (records t.events)) q ∙ sym k.bytes;
    }
