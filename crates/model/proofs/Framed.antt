-- EACH PRESS IN ONE FRAME: the account of Order, the blocks of Blocks, the numbers of Numbers and the held touches, in one record. Then that a device goes by a removal,
-- that a frame is closed by one of five requests, and that it takes all that is pending on its device. Assumes nothing.
use Prim.Native.Nat.{ℕ, suc, ◌+◌, ◌≤◌, ◌<◌}
use mathlib.Core.Path.{◌≡◌, refl, ap, sym, subst, ◌∙◌}
use mathlib.Core.Bool.{Bool, true, false, cond, true≢false, false≢true}
use mathlib.Core.List.{List, [], ◌∷◌, ◌++◌, map, map-append, append-nil, append_assoc}
use mathlib.Core.Option.{Option, none, some}
use native.Mathlib.Omega.{arith}
use lib.Dec.{eqb}
use borrow.Author.Tests.{eqb-true, ltb-true, lt-ltb}
use Rattle.model.specs.Call.{Sight, Load, Plain, Call, Split, map_call, load_of, split}
use Rattle.model.specs.Session.{Item, Untimed, Queued, Device, Session, View, map_device, blank, fresh, view}
use Rattle.model.specs.Edit.{Edit, emptied, framed, at, framed_at, enact, enact_all}
use Rattle.model.specs.Plan.{Plan, ignore, edit}
use Rattle.model.specs.Decide.{Found, find, device_of, on_found, handle_frame, handle_device, decide_plain, decide}
use Rattle.model.specs.Step.{refuses, gave, gave_all, carried_out, source, unchanged}
use Rattle.model.specs.Demand3.{given, trail}
use Rattle.model.specs.Reachable.{count_of, device_ids, session_after, ReachableOrderly}
use Rattle.model.specs.Kept.{pending_of}
use Rattle.model.specs.Framed.{stands, removed_by, places_after, in_all_blocks, run_of, AlwaysEachPress, LastRunCut, Removes, RemovedByRemovals, Closes, Closed, FrameTakesAll, FramedByClosers}
use Rattle.model.specs.Live.{is_found}
use Rattle.model.proofs.Lists.{moved_twice}
use Rattle.model.proofs.Finding.{found-holds}
use Rattle.model.proofs.Live.{device-stands}
use Rattle.model.proofs.Within.{step_by}
use Rattle.model.proofs.Sorted.{stays, Stays, ClosesOne, Sorted, staying, clearing, decide_sorted}
use Rattle.model.proofs.All.{All}
use Rattle.model.proofs.Leaves.{Closing}
use Rattle.model.proofs.Gone.{edits_stand, clearing-clears, clearing-gave}
use Rattle.model.proofs.OneDevice.{framed-run, oldest-rest, standing, none-pending, standing-append}
use Rattle.model.proofs.Order.{Keeps}
use Rattle.model.proofs.Provenance.{trail_keeps}
use Rattle.model.proofs.Blocks.{run-grown, blocks_cut}
use Rattle.model.proofs.Numbers.{numbered-once, numbered_same}
use Rattle.model.proofs.Reachable.{reachable_orderly}

pub each_press : AlwaysEachPress
unfolding AlwaysEachPress places_after given trail ReachableOrderly fresh
each_press c s n vs ts =
    let blocks = run-grown (map split ts) (fresh {P = Load} c s n vs) in
    record {
      account = λ d. (trail_keeps c s n vs ts d).sum;
      device = λ d. one d (trail_keeps c s n vs ts d);
      same_run = numbered_same c s n vs ts;
      once = λ l. numbered-once l c s n vs ts;
      blocks = blocks.blocks;
      in_blocks = blocks.are;
      held = (reachable_orderly c s n vs ts).held;
    }
  where
    after : Session Load
    after = session_after (map split ts) (fresh c s n vs)

    removed : List (Device Load)
    removed = removed_by (map split ts) (fresh c s n vs)

    one : (d : ℕ) {T G : List (Item Load)} → Keeps d after T G removed → standing d (after.devices ++ removed) ≤ 1
    one d k = omega (arith, standing-append d after.devices removed, k.once)

pub last_run_cut : LastRunCut
last_run_cut taken loads numbers x e = blocks_cut e.blocks x.delivered x.queued e.in_blocks

-- ---- a device goes by a removal

-- by its sort
sorted_removes : {P : Type 0} {v : View} {now : ℕ} {c : Call Sight} {es : List Edit} (p : P) (s : Session P) (d : ℕ) → Sorted v now es c → stands d s.devices ≡ true →
    stands d (enact_all es p s).devices ≡ false → (request : Plain) × ((c ≡ Call.plain request) × Removes request)
unfolding stands
sorted_removes {es = es} p s d (staying frames w a one) h g =
    let m = ltb-true 0 (standing d s.devices) h in
    absurd (true≢false (sym (lt-ltb 0 (standing d (enact_all es p s).devices) (omega (arith, edits_stand frames d p s a))) ∙ g))
sorted_removes p s d (clearing {request} r a) h g = (request, (refl, r))

pub removed_by_removals : RemovedByRemovals
unfolding RemovedByRemovals source carried_out unchanged
removed_by_removals P t s d h =
    step_by t s (λ r. stands d r.session.devices ≡ false → (request : Plain) × ((t.call ≡ Call.plain request) × Removes request))
    (λ o e g. absurd (true≢false (sym h ∙ g)))
    (sorted_removes t.load s d (decide_sorted (view s) t.now t.call) h)

-- ---- a frame is closed by one of five requests

module _ {P : Type 0} where
  abbrev untimed : List Untimed → List (Queued P)
  untimed us = map (λ u. Queued.untimed u) us

  -- nothing but untimed requests comes behind what was delivered and queued
  abbrev UntimedMore : (gave : List (Queued P)) (before after : Session P) → Type 0
  UntimedMore gave s s' = (us : List Untimed) × (gave ++ s'.requests ≡ s.requests ++ untimed us)

  still : (s : Session P) → UntimedMore [] s s
  still s = ([], sym (append-nil s.requests))

  edit-untimed : (e : Edit) (p : P) (s : Session P) → stays false e ≡ true → UntimedMore (gave e s) s (enact e p s)
  unfolding enact gave stays
  edit-untimed (Edit.raise n) p s h = still s
  edit-untimed (Edit.add_seat caps) p s h = still s
  edit-untimed (Edit.remove_seat seat) p s h = still s
  edit-untimed (Edit.add_device seat caps) p s h = still s
  edit-untimed (Edit.remove_device k) p s h = absurd (false≢true h)
  edit-untimed (Edit.remove_devices_of seat) p s h = absurd (false≢true h)
  edit-untimed (Edit.amend k a) p s h = still s
  edit-untimed (Edit.pend k sight) p s h = still s
  edit-untimed (Edit.frame k serial time) p s h = absurd (false≢true h)
  edit-untimed (Edit.queue u) p s h = (u ∷ [], refl)
  edit-untimed Edit.deliver p s h = ([], oldest-rest s.requests ∙ sym (append-nil s.requests))
  edit-untimed (Edit.peer_object id) p s h = still s
  edit-untimed Edit.end_connection p s h = still s

  edits-untimed : {es : List Edit} (p : P) (s : Session P) → All (Stays false) es → UntimedMore (gave_all es p s) s (enact_all es p s)
  unfolding gave_all enact_all
  edits-untimed p s All.none = still s
  edits-untimed p s (All.more {x = e} {xs = es} h a) =
      let first = edit-untimed e p s h in
      let others = edits-untimed p (enact e p s) a in (
        first.0 ++ others.0,
        rw (map-append (λ u. Queued.untimed u) first.0 others.0)
            (moved_twice s.requests (gave e s) (enact e p s).requests (gave_all es p (enact e p s)) _ (untimed first.0) (untimed others.0) first.1 others.1),
      )

  -- by its sort
  sorted_untimed : {v : View} {now : ℕ} {c : Call Sight} {es : List Edit} (p : P) (s : Session P) → Sorted v now es c → (ClosesOne v now c → ⊥) →
      UntimedMore (gave_all es p s) s (enact_all es p s)
  sorted_untimed p s (staying true w a one) h = absurd (h (w refl))
  sorted_untimed p s (staying false w a one) h = edits-untimed p s a
  sorted_untimed p s (clearing r a) h = rw (clearing-gave p s a, (clearing-clears p s a).requests) (still s)

pub framed_by_closers : FramedByClosers
unfolding FramedByClosers source carried_out unchanged view
framed_by_closers P t s other =
    step_by t s (λ r. UntimedMore r.gave s r.session) (λ o e. still s)
    (sorted_untimed t.load s (decide_sorted (view s) t.now t.call) λ w. none_closes w.0 w.1.0 w.1.1)
  where
    none_closes : (request : Plain) → t.call ≡ Call.plain request → Closing (view s) t.now request → ⊥
    none_closes request e (Closing.closing {device} {serial} {time} {behind} k) = other request device serial time behind e k

-- ---- a frame takes all that is pending on its device

-- what the requests that close a frame come to
closes_plan : (v : View) (now d : ℕ) {request : Plain} {serial time : ℕ} {behind : List Untimed} → Closes d v.connection.last_serial now request serial time behind →
    decide_plain v now request ≡ on_found (device_of d v) ignore (λ f. edit (Edit.frame f.slot serial time ∷ map (λ u. Edit.queue u) behind))
unfolding decide_plain handle_frame handle_device
closes_plan v now d (Closes.frame serial time) = refl
closes_plan v now d Closes.ready = refl
closes_plan v now d (Closes.start_emulating serial sequence) = refl
closes_plan v now d (Closes.stop_emulating serial) = refl
closes_plan v now d Closes.release = refl

module _ {P : Type 0} (d : ℕ) where
  -- a device that stands is found
  found : (ds : List (Device P)) → stands d ds ≡ true → (f : Found) × (find (λ x. eqb x.id d) (map (map_device blank) ds) ≡ some f)
  unfolding stands is_found
  found ds h = go (find (λ x. eqb x.id d) (map (map_device blank) ds)) (device-stands d ds ∙ h)
    where
      go : (o : Option Found) → is_found o ≡ true → (f : Found) × (o ≡ some f)
      go none e = absurd (false≢true e)
      go (some f) e = (f, refl)

  -- it is the one that has the id: its frame queues, and leaves, what is the id's
  record Only (serial time : ℕ) (ds : List (Device P)) (f : Found) : Type 0 where
    stood : 0 < standing d ds
    queues : standing d ds ≤ 1 → framed_at f.slot serial time ds ≡ framed d serial time (pending_of d ds)
    leaves : standing d ds ≤ 1 → pending_of d (at emptied f.slot ds) ≡ []

  module _ (serial time : ℕ) where
    here : (x : Device P) (xs : List (Device P)) → eqb x.id d ≡ true → Only serial time (x ∷ xs) (record { slot = 0; device = map_device blank x })
    unfolding count_of pending_of framed_at at emptied
    here x xs t =
        record {
          stood = rw t (omega arith);
          queues = λ h. rw (t, alone h, append-nil x.pending) (ap (λ i. framed i serial time x.pending) (eqb-true x.id d t));
          leaves = λ h. rw (t, alone h);
        }
      where
        alone : cond (eqb x.id d) 1 0 + standing d xs ≤ 1 → pending_of d xs ≡ []
        alone h = let one : 1 + standing d xs ≤ 1 = rw t at h in none-pending d xs (omega arith)

    past : (x : Device P) (xs : List (Device P)) (g : Found) → Only serial time xs g → Only serial time (x ∷ xs) (record { slot = suc g.slot; device = g.device })
    unfolding count_of pending_of framed_at at emptied
    past x xs g q = go (eqb x.id d) refl
      where
        go : (b : Bool) → eqb x.id d ≡ b → Only serial time (x ∷ xs) (record { slot = suc g.slot; device = g.device })
        go true t =
            let two : cond (eqb x.id d) 1 0 + standing d xs ≤ 1 → ⊥ = λ h. let one : 1 + standing d xs ≤ 1 = rw t at h in omega (arith, q.stood) in
            record { stood = rw t (omega arith); queues = λ h. absurd (two h); leaves = λ h. absurd (two h) }
        go false t =
            record {
              stood = rw t (omega (arith, q.stood));
              queues = λ h. rw t (q.queues (omega arith));
              leaves = λ h. rw t (q.leaves (omega arith));
            }

    found_only : (ds : List (Device P)) (f : Found) → find (λ x. eqb x.id d) (map (map_device blank) ds) ≡ some f → Only serial time ds f
    unfolding map_device
    found_only ds f e = found-holds (λ x. eqb x.id d) (Only serial time) here past ds f e

-- requests queued behind it
behind-queued : {P : Type 0} (us : List Untimed) (p : P) (s : Session P) →
    ((enact_all (map (λ u. Edit.queue u) us) p s).requests ≡ s.requests ++ map (λ u. Queued.untimed u) us) × ((enact_all (map (λ u. Edit.queue u) us) p s).devices ≡ s.devices)
unfolding enact_all enact
behind-queued [] p s = (sym (append-nil s.requests), refl)
behind-queued (u ∷ us) p s =
    let r = behind-queued us p (enact (Edit.queue u) p s) in
    (r.0 ∙ append_assoc s.requests (Queued.untimed u ∷ []) (map (λ u. Queued.untimed u) us), r.1)

module _ {P : Type 0} (d serial time : ℕ) (behind : List Untimed) (p : P) (s : Session P) where
  abbrev closing : Found → Plan
  closing f = edit (Edit.frame f.slot serial time ∷ map (λ u. Edit.queue u) behind)

  closed_by : (f : Found) → Only d serial time s.devices f → standing d s.devices ≤ 1 → Closed d serial time behind s (enact_all (closing f).edits p s)
  unfolding edit enact_all enact
  closed_by f o one =
      let r = behind-queued behind p (enact (Edit.frame f.slot serial time) p s) in
      let all = o.queues one ∙ framed-run d serial time (pending_of d s.devices) in
      record {
        queued =
            r.0
            ∙ ap (λ (q : List (Queued P)). (s.requests ++ q) ++ map (λ u. Queued.untimed u) behind) all
            ∙ append_assoc s.requests (in_all_blocks (run_of d serial time (pending_of d s.devices))) (map (λ u. Queued.untimed u) behind);
        empty = ap (pending_of d) r.1 ∙ o.leaves one;
      }

pub frame_takes_all : FrameTakesAll
unfolding FrameTakesAll ReachableOrderly device_ids stands source carried_out unchanged decide split map_call load_of on_found device_of view
frame_takes_all c s n vs ts request now room d serial time behind closes stood accepted =
    step_by t before (λ r. refuses r.outcome ≡ false → Closed d serial time behind before r.session)
    (λ o h e. absurd (true≢false (sym h ∙ e)))
    (λ _. by_source)
    accepted
  where
    before : Session Load
    before = session_after (map split ts) (fresh c s n vs)

    t : Split Load
    t = split (record { call = Call.plain request; now = now; room = room })

    by_source : Closed d serial time behind before (source t before).session
    by_source =
        let f = found d before.devices stood in
        subst (λ (plan : Plan). Closed d serial time behind before (enact_all plan.edits Load.None before))
        (sym (closes_plan (view before) now d closes ∙ ap (λ (o : Option Found). on_found o ignore (closing d serial time behind Load.None before)) f.1))
        (closed_by d serial time behind Load.None before f.0 (found_only d serial time before.devices f.0 f.1) ((reachable_orderly c s n vs ts).device_once d))
