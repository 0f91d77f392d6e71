-- Sync as a message is Sync; where it is accepted, the callback's id is kept. Assumes nothing.
use Rattle.std.specs.Prelude.{Result}
use Prim.Native.Nat.{ℕ, ◌≤◌, ◌<◌}
use mathlib.Core.Path.{◌≡◌, refl, sym, ap, subst, ◌∙◌}
use mathlib.Core.Bool.{Bool, true, false, ◌&&◌, cond, false≢true}
use mathlib.Core.List.{List, [], ◌∷◌}
use mathlib.Core.Logic.{◌⊎◌, inl, inr}
use native.Mathlib.Omega.{arith}
use types.Run.{OneOf}
use denote.Enum.Declared.{tag_of}
use borrow.Author.Tests.{leb-true, leb-false, lt-ltb, le-ltb}
use lib.Dec.{eqb, leb, ltb}
use lib.ListN.{length}
use Rattle.eiproto.specs.Interface.{ei_callback}
use Rattle.wire.specs.declared.event.Event.{Event}
use Rattle.model.specs.Call.{Input, Load, Plain, Call, Split, map_call, split}
use Rattle.model.specs.Session.{Session, view}
use Rattle.model.specs.Edit.{Edit, enact, enact_all}
use Rattle.model.specs.Plan as plan
use Rattle.model.specs.Plan.{Sent, on, records, refuse, send, refusal}
use Rattle.model.specs.Decide.{is_peer_id, handle_sync, handle_sync_message, decide_plain, decide}
use Rattle.model.specs.Step.{Step, refuses, unchanged, gave, gave_all, carried_out, step}
use Rattle.model_steps.proofs.Counted.{quiet_one, quiet_all, quiet_none}
use Rattle.model_steps.proofs.Steps.{step-answer, step-sent, step-sent-short}
use Rattle.control.specs.Control.{connection_of}
use Rattle.session.specs.View.{Store, store, session, Whole}
use Rattle.session.proofs.Views.{view-connection}
use Rattle.requests.proofs.Arms.{among}
use Rattle.session.specs.Enact.{Enacted}
use Rattle.answers.specs.Answer.{outcome_of, error_of, Tells}
use Rattle.answers.specs.Texts.{TextsAfter}
use Rattle.answers.specs.Meets.{Handled}
use Rattle.answers.specs.declared.Error.{Error}
use Rattle.answers.specs.declared.Outcome.{Outcome}
use Rattle.answers.specs.contracts.Outcome as outcome
use Rattle.answers.specs.declared.Answer.{Answer}
use Rattle.answers.proofs.Meetings.{whole-after, over-handled}

-- an accepted call with the client's object besides
unfoldable pub peered : ℕ → Step Load → Step Load
peered id r =
    cond (refuses r.outcome) r
    (record { session = enact (Edit.peer_object id) Load.None r.session; outcome = r.outcome; events = r.events; gave = r.gave })

module _ (s : Session Load) (callback version clock room : ℕ) where
  abbrev pub plainly : Split Load
  plainly = split (record { call = Call.plain (Plain.sync callback version); now = clock; room = room })

  abbrev pub message : Split Load
  message = split (record { call = Call.plain (Plain.sync_message callback version); now = clock; room = room })

  abbrev done : List Sent
  done = on callback (Event.CallbackDone 0) ∷ []

  -- 25 comes before all else
  pub not_mine : is_peer_id (view s) callback ≡ false → step message s ≡ unchanged s (plan.Result.refused 25)
  unfolding split map_call decide decide_plain handle_sync_message refuse
  not_mine h = step-answer message s (plan.Result.refused 25) (rw h)

  -- what becomes of the one and of the other
  abbrev pub Both : Type 0
  Both = step message s ≡ peered callback (step plainly s)

  both-refused : (o : plan.Result) → refuses o ≡ true → step plainly s ≡ unchanged s o → step message s ≡ unchanged s o → Both
  unfolding peered unchanged
  both-refused o h p m = m ∙ sym (ap (peered callback) p ∙ rw h)

  both-done : step plainly s ≡ carried_out (send done []) Load.None s → step message s ≡ carried_out (send done (Edit.peer_object callback ∷ [])) Load.None s → Both
  unfolding peered carried_out send refuses refusal enact_all gave_all gave
  both-done p m = m ∙ sym (ap (peered callback) p)

  pub both : is_peer_id (view s) callback ≡ true → Both
  unfolding split map_call decide decide_plain handle_sync handle_sync_message quiet_all quiet_one refuses refusal
  both mine = by_version (eqb version 1) refl
    where
      by_room : (b : Bool) → leb (length (records done)) room ≡ b → eqb version 1 ≡ true → Both
      by_room true l e =
          let fits = leb-true (length (records done)) room l in
          both-done (step-sent plainly s done [] (rw e) quiet_none fits) (step-sent message s done (Edit.peer_object callback ∷ []) (rw (mine, e)) refl fits)
      by_room false l e =
          let short = leb-false (length (records done)) room l in
          both-refused (plan.Result.refused 19) refl (step-sent-short plainly s done [] (rw e) quiet_none short)
          (step-sent-short message s done (Edit.peer_object callback ∷ []) (rw (mine, e)) refl short)

      by_version : (b : Bool) → eqb version 1 ≡ b → Both
      by_version true e = by_room (leb (length (records done)) room) refl e
      by_version false e =
          let o = plan.Result.refused_version ei_callback version in
          both-refused o refl (step-answer plainly s o (rw e)) (step-answer message s o (rw (mine, e)))

  -- Sync answers nothing else: it is refused or accepted
  pub ends : (refuses (step plainly s).outcome ≡ true) ⊎ ((step plainly s).outcome ≡ plan.Result.accepted)
  unfolding split map_call decide decide_plain handle_sync quiet_all quiet_one refuses refusal carried_out send unchanged
  ends = by_version (eqb version 1) refl
    where
      by_room : (b : Bool) → leb (length (records done)) room ≡ b → eqb version 1 ≡ true
          → (refuses (step plainly s).outcome ≡ true) ⊎ ((step plainly s).outcome ≡ plan.Result.accepted)
      by_room true l e = inr (ap (λ (x : Step Load). x.outcome) (step-sent plainly s done [] (rw e) quiet_none (leb-true (length (records done)) room l)))
      by_room false l e =
          inl (ap (λ (x : Step Load). refuses x.outcome) (step-sent-short plainly s done [] (rw e) quiet_none (leb-false (length (records done)) room l)))

      by_version : (b : Bool) → eqb version 1 ≡ b → (refuses (step plainly s).outcome ≡ true) ⊎ ((step plainly s).outcome ≡ plan.Result.accepted)
      by_version true e = by_room (leb (length (records done)) room) refl e
      by_version false e = inl (ap (λ (x : Step Load). refuses x.outcome) (step-answer plainly s (plan.Result.refused_version ei_callback version) (rw e)))

-- ---- whose id it is

module _ (s : Store) (id : ℕ) where
  pub peer_id : (connection_of s.control).last_peer_id < id → id < 0xff00_0000_0000_0000 → is_peer_id (view (session s)) id ≡ true
  unfolding is_peer_id
  peer_id l h = rw (view-connection s, lt-ltb (connection_of s.control).last_peer_id id l, lt-ltb id 0xff00_0000_0000_0000 h)

  pub low-id : id ≤ (connection_of s.control).last_peer_id → is_peer_id (view (session s)) id ≡ false
  unfolding is_peer_id
  low-id l = rw (view-connection s, le-ltb (connection_of s.control).last_peer_id id l)

  pub high_id : 0xff00_0000_0000_0000 ≤ id → is_peer_id (view (session s)) id ≡ false
  unfolding is_peer_id
  high_id l = rw (le-ltb id 0xff00_0000_0000_0000 l) (never (ltb (view (session s)).connection.last_peer_id id))
    where
      never : (b : Bool) → b && false ≡ false
      never true = refl
      never false = refl

-- ---- the call

-- the tags of an arm that has no accepted outcome
pub not-accepted : (o : Outcome) → OneOf (1 ∷ 2 ∷ 3 ∷ 4 ∷ 5 ∷ []) (tag_of outcome.the_type o) → o ≡ Outcome.Accepted → ⊥
not-accepted o k e = go (subst (λ (x : Outcome). OneOf (1 ∷ 2 ∷ 3 ∷ 4 ∷ 5 ∷ []) (tag_of outcome.the_type x)) e k)
  where
    go : OneOf (1 ∷ 2 ∷ 3 ∷ 4 ∷ 5 ∷ []) 0 → ⊥
    go o = let b = among 1 5 0 o in omega (arith, b.0)

pub whole-made : {s : Store} {c : List ℕ} {edits : List Edit} {load : Load} → Whole s → Enacted s (store c s.words s.reals s.texts) edits load
    → Whole (store c s.words s.reals s.texts)
whole-made {s} w made = whole-after s w made.sound refl refl

module _ (s : Store) (out : List ℕ) (callback version clock : ℕ) (r : Result Answer Error) where
  abbrev asked : Call Input
  asked = Call.plain (Plain.sync_message callback version)

  -- 25
  pub not_peer : Whole s → is_peer_id (view (session s)) callback ≡ false → Tells r (error_of Error.InvalidId) 0 → Handled s s out out asked clock r
  not_peer w h told = over-handled s out asked clock (error_of Error.InvalidId) r w (not_mine (session s) callback version clock (length out) h) told

  module _ (mine : is_peer_id (view (session s)) callback ≡ true) {later : List ℕ} (h : Handled s s out later (Call.plain (Plain.sync callback version)) clock r) where
    abbrev sync : Step Load
    sync = step (plainly (session s) callback version clock (length out)) (session s)

    abbrev pair : Both (session s) callback version clock (length out)
    pair = both (session s) callback version clock (length out) mine

    is_refused_lem : refuses sync.outcome ≡ true → step (message (session s) callback version clock (length out)) (session s) ≡ sync
    unfolding peered
    is_refused_lem e = pair ∙ rw e

    is_made : refuses sync.outcome ≡ false
        → step (message (session s) callback version clock (length out)) (session s)
        ≡ record { session = enact (Edit.peer_object callback) Load.None sync.session; outcome = sync.outcome; events = sync.events; gave = sync.gave }
    unfolding peered
    is_made e = pair ∙ rw e

    pub peer_refused : refuses (outcome_of r) ≡ true → Handled s s out later asked clock r
    peer_refused e =
        rw (is_refused_lem (ap refuses (sym h.outcome) ∙ e))
        (record { whole = h.whole; view = h.view; outcome = h.outcome; count = h.count; bytes = h.bytes; kept = h.kept; texts = TextsAfter.kept refl })

    -- nothing but a refusal is not accepted
    pub peer_other : (outcome_of r ≡ plan.Result.accepted → ⊥) → Handled s s out later asked clock r
    peer_other other = go (ends (session s) callback version clock (length out))
      where
        go : (refuses sync.outcome ≡ true) ⊎ (sync.outcome ≡ plan.Result.accepted) → Handled s s out later asked clock r
        go (inl e) = peer_refused (ap refuses h.outcome ∙ e)
        go (inr e) = absurd (other (h.outcome ∙ e))

    pub peer_made : refuses (outcome_of r) ≡ false → {d : List ℕ} → Whole (store d s.words s.reals s.texts)
        → Enacted s (store d s.words s.reals s.texts) (Edit.peer_object callback ∷ []) Load.None
        → Handled s (store d s.words s.reals s.texts) out later asked clock r
    unfolding enact_all refuses refusal
    peer_made goes w made =
        let fine : refuses sync.outcome ≡ false = ap refuses (sym h.outcome) ∙ goes in
        rw (is_made fine)
        (record {
          whole = w;
          view = made.view ∙ ap (enact (Edit.peer_object callback) Load.None) h.view;
          outcome = h.outcome;
          count = h.count;
          bytes = h.bytes;
          kept = λ z. absurd (false≢true (sym fine ∙ z));
          texts = TextsAfter.kept refl;
        })
