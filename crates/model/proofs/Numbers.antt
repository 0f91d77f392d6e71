-- No number is in two places: run with the number of each call in the place of its payload, a call puts its number in one place at most, and no call puts another's
-- there a second time. Then that this run is the run of the calls, with a payload in the place of each number. Assumes nothing.
use Prim.Native.Nat.{ℕ, zero, suc, ◌+◌, ◌≤◌, ◌<◌}
use mathlib.Core.Path.{◌≡◌, refl, ap, sym, ◌∙◌}
use mathlib.Core.Bool.{Bool, true, false, cond, false≢true}
use mathlib.Core.List.{List, [], ◌∷◌, ◌++◌, map, map-append, append-nil, Sublistᴰ}
use mathlib.Core.Option.{Option}
use native.Mathlib.Omega.{arith}
use native.Mathlib.Nat.{le_refl}
use lib.Dec.{eqb, leb}
use borrow.Author.Tests.{eqb-true, leb-true, lt-ltb, le-leb}
use Rattle.model.specs.Call.{Sight, Load, Call, Turn, Split, sight, map_call, load_of, split}
use Rattle.model.specs.Session.{Item, Untimed, Queued, Device, Session, View, map_queued, map_device, map_session, fresh, view}
use Rattle.model.specs.Edit.{Amend, Edit, amended, item, pended, emptied, new_device, framed, at, framed_at, rest, enact, enact_all}
use Rattle.model.specs.Step.{Step, oldest, gave, gave_all, carried_out, source, unchanged, step, run}
use Rattle.model.specs.Demand3.{delivered}
use Rattle.model.specs.Reachable.{count_of, session_after}
use Rattle.model.specs.Framed.{stands, gone_from, removed_by, places_after, timed_in, pending_in, items_in, numbered, load_at, map_places, in_all_blocks, run_of}
use Rattle.model.proofs.All.{All, none, more}
use Rattle.model.proofs.Commute.{map_split, map_step, kept_map, step_map, run-map}
use Rattle.model.proofs.Lists.{count-append}
use Rattle.model.proofs.OneDevice.{framed-run, run_is, oldest-rest, standing, amended_keeps}
use Rattle.model.proofs.Within.{step_by}
use Rattle.model.proofs.Sorted.{stays, Stays, pends, pends_all, Sorted, staying, clearing, decide_sorted}
use Rattle.model.proofs.Gone.{first-stands, gone-none, staying-none, clearing-clears, clearing-gave}

-- how often a call has put its number there: once, if it did
abbrev once : Bool → ℕ → ℕ
once b n = cond b n 0

once-sum : (b : Bool) (n m : ℕ) → once b n + once b m ≡ once b (n + m)
once-sum true n m = refl
once-sum false n m = omega arith

once-most : (b : Bool) (n : ℕ) → n ≤ 1 → once b n ≤ once b 1
once-most true n h = h
once-most false n h = le_refl 0

module _ (l : ℕ) where
  -- ---- how often a number is among requests

  unfoldable times : List (Item ℕ) → ℕ
  unfolding count_of
  times is = count_of l (map (λ i. i.load) is)

  times-append : (is js : List (Item ℕ)) → times (is ++ js) ≡ times is + times js
  unfolding times
  times-append is js = ap (count_of l) (map-append (λ i. i.load) is js) ∙ count-append l (map (λ i. i.load) is) (map (λ i. i.load) js)

  timed-append : (q r : List (Queued ℕ)) → timed_in (q ++ r) ≡ timed_in q ++ timed_in r
  unfolding timed_in
  timed-append [] r = refl
  timed-append (Queued.timed d t i ∷ q) r = ap (λ (is : List (Item ℕ)). i ∷ is) (timed-append q r)
  timed-append (Queued.untimed u ∷ q) r = timed-append q r

  -- in a queue, and on devices
  abbrev queued : List (Queued ℕ) → ℕ
  queued rs = times (timed_in rs)

  abbrev waiting : List (Device ℕ) → ℕ
  waiting ds = times (pending_in ds)

  queued-append : (q r : List (Queued ℕ)) → queued (q ++ r) ≡ queued q + queued r
  queued-append q r = ap times (timed-append q r) ∙ times-append (timed_in q) (timed_in r)

  waiting-append : (ds es : List (Device ℕ)) → waiting (ds ++ es) ≡ waiting ds + waiting es
  unfolding pending_in times count_of
  waiting-append [] es = omega arith
  waiting-append (x ∷ ds) es = omega (arith, times-append x.pending (pending_in (ds ++ es)), times-append x.pending (pending_in ds), waiting-append ds es)

  -- ---- an edit under which every device stays

  amended-waiting : (a : Amend) (k : ℕ) (ds : List (Device ℕ)) → pending_in (at (amended a) k ds) ≡ pending_in ds
  unfolding at pending_in
  amended-waiting a k [] = refl
  amended-waiting a zero (x ∷ ds) = rw (amended_keeps a x).1
  amended-waiting a (suc k) (x ∷ ds) = rw (amended-waiting a k ds)

  pended-waiting : (i : Item ℕ) (k : ℕ) (ds : List (Device ℕ)) → waiting (at (pended i) k ds) ≤ waiting ds + once (eqb i.load l) 1
  unfolding at pended pending_in times count_of
  pended-waiting i k [] = omega arith
  pended-waiting i zero (x ∷ ds) =
      omega (
        arith,
        times-append (x.pending ++ (i ∷ [])) (pending_in ds),
        times-append x.pending (i ∷ []),
        times-append x.pending (pending_in ds),
      )
  pended-waiting i (suc k) (x ∷ ds) =
      omega (arith, times-append x.pending (pending_in (at (pended i) k ds)), times-append x.pending (pending_in ds), pended-waiting i k ds)

  map-timed : (d t : ℕ) (is : List (Item ℕ)) → timed_in (map (λ x. Queued.timed d t x) is) ≡ is
  unfolding timed_in
  map-timed d t [] = refl
  map-timed d t (i ∷ is) = ap (λ (js : List (Item ℕ)). i ∷ js) (map-timed d t is)

  run-timed : (d s t : ℕ) (is : List (Item ℕ)) → timed_in (in_all_blocks (run_of d s t is)) ≡ is
  unfolding run_of in_all_blocks timed_in
  run-timed d s t [] = refl
  run-timed d s t (i ∷ is) =
      ap timed_in (run_is d s t i is)
      ∙ timed-append (map (λ x. Queued.timed d t x) (i ∷ is)) (Queued.untimed (Untimed.Frame d s t) ∷ [])
      ∙ append-nil _
      ∙ map-timed d t (i ∷ is)

  framed-timed : (d s t : ℕ) (is : List (Item ℕ)) → timed_in (framed d s t is) ≡ is
  framed-timed d s t is = ap timed_in (framed-run d s t is) ∙ run-timed d s t is

  framed-waiting : (k s t : ℕ) (ds : List (Device ℕ)) → queued (framed_at k s t ds) + waiting (at emptied k ds) ≡ waiting ds
  unfolding framed_at at emptied timed_in pending_in times count_of
  framed-waiting k s t [] = refl
  framed-waiting zero s t (x ∷ ds) = rw (framed-timed x.id s t x.pending) (sym (times-append x.pending (pending_in ds)))
  framed-waiting (suc k) s t (x ∷ ds) =
      omega (arith, times-append x.pending (pending_in (at emptied k ds)), times-append x.pending (pending_in ds), framed-waiting k s t ds)

  queued_parted : (rs : List (Queued ℕ)) → queued (oldest rs) + queued (rest rs) ≡ queued rs
  queued_parted rs = sym (queued-append (oldest rs) (rest rs)) ∙ ap (λ (q : List (Queued ℕ)). queued q) (oldest-rest rs)

  -- what is given, and what stays in the session
  abbrev Adds : (gave : List (Queued ℕ)) (before after : Session ℕ) (more : ℕ) → Type 0
  Adds gave s s' n = queued gave + (queued s'.requests + waiting s'.devices) ≤ (queued s.requests + waiting s.devices) + n

  edit-adds : (frames : Bool) (e : Edit) (p : ℕ) (s : Session ℕ) → stays frames e ≡ true → Adds (gave e s) s (enact e p s) (once (eqb p l) (pends e))
  unfolding enact gave stays pends timed_in pending_in times count_of
  edit-adds frames (Edit.raise n) p s h = omega arith
  edit-adds frames (Edit.add_seat caps) p s h = omega arith
  edit-adds frames (Edit.remove_seat seat) p s h = omega arith
  edit-adds frames (Edit.add_device seat caps) p s h = omega (arith, waiting-append s.devices (new_device s.connection.next_id seat caps ∷ []))
  edit-adds frames (Edit.remove_device k) p s h = absurd (false≢true h)
  edit-adds frames (Edit.remove_devices_of seat) p s h = absurd (false≢true h)
  edit-adds frames (Edit.amend k a) p s h = rw (amended-waiting a k s.devices) (omega arith)
  edit-adds frames (Edit.pend k sight) p s h = omega (arith, pended-waiting (item sight p) k s.devices)
  edit-adds frames (Edit.frame k serial time) p s h =
      omega (arith, queued-append s.requests (framed_at k serial time s.devices), framed-waiting k serial time s.devices)
  edit-adds frames (Edit.queue u) p s h = omega (arith, queued-append s.requests (Queued.untimed u ∷ []))
  edit-adds frames Edit.deliver p s h = omega (arith, queued_parted s.requests)
  edit-adds frames (Edit.peer_object id) p s h = omega arith
  edit-adds frames Edit.end_connection p s h = omega arith

  edits-add : (frames : Bool) {es : List Edit} (p : ℕ) (s : Session ℕ) → All (Stays frames) es → Adds (gave_all es p s) s (enact_all es p s) (once (eqb p l) (pends_all es))
  unfolding gave_all enact_all pends_all timed_in times count_of
  edits-add frames p s none = omega arith
  edits-add frames p s (more {x = e} {xs = es} h a) =
      omega (
        arith,
        queued-append (gave e s) (gave_all es p (enact e p s)),
        edit-adds frames e p s h,
        edits-add frames p (enact e p s) a,
        once-sum (eqb p l) (pends e) (pends_all es),
      )

  -- ---- devices that go

  kept-waiting : (b : Bool) (x : Device ℕ) (ds : List (Device ℕ)) → waiting (cond b [] (x ∷ []) ++ ds) ≤ times x.pending + waiting ds
  unfolding pending_in
  kept-waiting true x ds = omega arith
  kept-waiting false x ds = omega (arith, times-append x.pending (pending_in ds))

  -- of some devices those that stand, and those that none after stands like
  gone-waiting : (after : List (Device ℕ)) {ys xs : List (Device ℕ)} → Sublistᴰ ys xs → ((d : ℕ) → 0 < standing d ys → 0 < standing d after) →
      waiting ys + waiting (gone_from after xs) ≤ waiting xs
  unfolding gone_from pending_in times count_of stands
  gone-waiting after Sublistᴰ.slnil h = omega arith
  gone-waiting after (Sublistᴰ.cons {a = x} {l₂ = xs} s) h =
      omega (arith, times-append x.pending (pending_in xs), kept-waiting (stands x.id after) x (gone_from after xs), gone-waiting after s h)
  gone-waiting after (Sublistᴰ.cons-cons {a = y} {b = x} {l₁ = ys} {l₂ = xs} e s) h =
      rw (← e, lt-ltb 0 (standing y.id after) (h y.id (first-stands y ys)))
      (omega (arith, times-append y.pending (pending_in ys), times-append y.pending (pending_in xs), gone-waiting after s (λ d q. h d (omega arith))))

  -- ---- a call

  -- what is given, what stays in the session, and what is lost
  abbrev Puts : (gave : List (Queued ℕ)) (lost : List (Device ℕ)) (before after : Session ℕ) (more : ℕ) → Type 0
  Puts gave lost s s' n = queued gave + (queued s'.requests + (waiting s'.devices + waiting lost)) ≤ (queued s.requests + waiting s.devices) + n

  plan_puts : {v : View} {now : ℕ} {c : Call Sight} {es : List Edit} (p : ℕ) (s : Session ℕ) → Sorted v now es c →
      Puts (gave_all es p s) (gone_from (enact_all es p s).devices s.devices) s (enact_all es p s) (once (eqb p l) 1)
  unfolding timed_in pending_in times count_of
  plan_puts {es = es} p s (staying frames w a one) = rw (staying-none frames p s a) (omega (arith, edits-add frames p s a, once-most (eqb p l) (pends_all es) one))
  plan_puts {es = es} p s (clearing r a) =
      let c = clearing-clears p s a in
      rw (clearing-gave p s a, c.requests) (omega (arith, gone-waiting (enact_all es p s).devices c.devices (λ d h. h)))

  step_puts : (t : Split ℕ) (s : Session ℕ) →
      let r = step t s in Puts r.gave (gone_from r.session.devices s.devices) s r.session (once (eqb t.load l) 1)
  unfolding source carried_out unchanged timed_in pending_in times count_of
  step_puts t s =
      step_by t s (λ r. Puts r.gave (gone_from r.session.devices s.devices) s r.session (once (eqb t.load l) 1))
      (λ o e. rw (gone-none s.devices s.devices (λ d h. h)) (omega arith))
      (plan_puts t.load s (decide_sorted (view s) t.now t.call))

  -- ---- a list of calls, with ascending numbers

  next-once : (n : ℕ) → once (eqb n l) 1 + once (leb (suc n) l) 1 ≤ once (leb n l) 1
  next-once n = go (eqb n l) refl (leb (suc n) l) refl
    where
      go : (b : Bool) → eqb n l ≡ b → (c : Bool) → leb (suc n) l ≡ c → once b 1 + once c 1 ≤ once (leb n l) 1
      go true e true f = let q : n ≡ l = eqb-true n l e in absurd (omega (arith, leb-true (suc n) l f))
      go true e false f = let q : n ≡ l = eqb-true n l e in rw (le-leb n l (omega arith)) (omega arith)
      go false e true f = rw (le-leb n l (omega (arith, leb-true (suc n) l f))) (omega arith)
      go false e false f = omega arith

  run_puts : (n : ℕ) (ts : List Turn) (s : Session ℕ) →
      Puts (delivered (run (numbered n ts) s)) (removed_by (numbered n ts) s) s (session_after (numbered n ts) s) (once (leb n l) 1)
  unfolding numbered run delivered removed_by session_after timed_in pending_in times count_of
  run_puts n [] s = omega arith
  run_puts n (t ∷ ts) s =
      let u : Split ℕ = record { call = map_call sight t.call; load = n; now = t.now; room = t.room } in
      let r = step u s in
      let us = numbered (suc n) ts in
      omega (
        arith,
        step_puts u s,
        run_puts (suc n) ts r.session,
        next-once n,
        queued-append r.gave (delivered (run us r.session)),
        waiting-append (gone_from r.session.devices s.devices) (removed_by us r.session),
      )

  -- "None is in two of these."
  pub numbered-once : (c s n : ℕ) (vs : List (Option ℕ)) (ts : List Turn) → count_of l (map (λ i. i.load) (items_in (places_after (numbered 0 ts) (fresh c s n vs)))) ≤ 1
  unfolding items_in places_after fresh times timed_in pending_in count_of
  numbered-once c s n vs ts =
      let start : Session ℕ = fresh c s n vs in
      let us = numbered 0 ts in
      let x = places_after us start in
      omega (
        arith,
        run_puts 0 ts start,
        times-append (timed_in x.delivered) (timed_in x.queued ++ (pending_in x.devices ++ pending_in x.removed)),
        times-append (timed_in x.queued) (pending_in x.devices ++ pending_in x.removed),
        times-append (pending_in x.devices) (pending_in x.removed),
        leb_once (leb 0 l),
      )
    where
      leb_once : (b : Bool) → once b 1 ≤ 1
      leb_once true = omega arith
      leb_once false = omega arith

-- ---- the run with payloads in the place of numbers

module _ {P Q : Type 0} (f : P → Q) where
  standing-map : (d : ℕ) (ds : List (Device P)) → standing d (map (map_device f) ds) ≡ standing d ds
  unfolding count_of map_device
  standing-map d [] = refl
  standing-map d (x ∷ ds) = rw (standing-map d ds)

  gone-map : (after before : List (Device P)) → gone_from (map (map_device f) after) (map (map_device f) before) ≡ map (map_device f) (gone_from after before)
  unfolding gone_from stands map_device
  gone-map after [] = refl
  gone-map after (x ∷ xs) = rw (standing-map x.id after, gone-map after xs) (kept_map f (stands x.id after) x (gone_from after xs))

  removed-map : (ts : List (Split P)) (s : Session P) → removed_by (map (map_split f) ts) (map_session f s) ≡ map (map_device f) (removed_by ts s)
  unfolding removed_by map_step map_session
  removed-map [] s = refl
  removed-map (t ∷ ts) s =
      let after = (step t s).session in
      rw (step_map f t s, removed-map ts after, gone-map after.devices s.devices) (sym (map-append (map_device f) (gone_from after.devices s.devices) (removed_by ts after)))

  after_map : (ts : List (Split P)) (s : Session P) → session_after (map (map_split f) ts) (map_session f s) ≡ map_session f (session_after ts s)
  unfolding session_after map_step
  after_map [] s = refl
  after_map (t ∷ ts) s = ap (λ (r : Step Q). session_after (map (map_split f) ts) r.session) (step_map f t s) ∙ after_map ts (step t s).session

  delivered-map : (rs : List (Step P)) → delivered (map (map_step f) rs) ≡ map (map_queued f) (delivered rs)
  unfolding delivered map_step
  delivered-map [] = refl
  delivered-map (r ∷ rs) = rw (delivered-map rs) (sym (map-append (map_queued f) r.gave (delivered rs)))

  places-map : (ts : List (Split P)) (s : Session P) → places_after (map (map_split f) ts) (map_session f s) ≡ map_places f (places_after ts s)
  unfolding places_after map_places map_session
  places-map ts s = rw (run-map f ts s, delivered-map (run ts s), after_map ts s, removed-map ts s)

-- the calls themselves, where `f` has their payloads from number n on
numbered-map : (f : ℕ → Load) (n : ℕ) (ts : List Turn) → ((i : ℕ) → f (n + i) ≡ load_at ts i) → map (map_split f) (numbered n ts) ≡ map split ts
unfolding numbered load_at split map_split
numbered-map f n [] h = refl
numbered-map f n (t ∷ ts) h =
    let first : f n ≡ load_of t.call = ap f (omega arith) ∙ h 0 in
    rw (first, numbered-map f (suc n) ts (λ i. ap f (omega arith) ∙ h (suc i)))

pub numbered_same : (c s n : ℕ) (vs : List (Option ℕ)) (ts : List Turn) →
    map_places (load_at ts) (places_after (numbered 0 ts) (fresh c s n vs)) ≡ places_after (map split ts) (fresh c s n vs)
unfolding fresh map_session
numbered_same c s n vs ts =
    sym (places-map (load_at ts) (numbered 0 ts) (fresh c s n vs))
    ∙ ap (λ (us : List (Split Load)). places_after us (fresh c s n vs)) (numbered-map (load_at ts) 0 ts (λ i. ap (load_at ts) (omega arith)))
