-- A step goes the same way whatever the payloads are: it commutes with putting another payload in the place of each. By cases on the edits, not
-- on the calls, since a decision sees no payload. Assumes nothing.
use Prim.Native.Nat.{ℕ, zero, suc}
use mathlib.Core.Path.{◌≡◌, refl, ap, sym, ◌∙◌}
use mathlib.Core.Bool.{Bool, true, false, cond}
use mathlib.Core.List.{List, [], ◌∷◌, ◌++◌, map, map-append}
use lib.Dec.{eqb}
use lib.ListN.{length, length-map}
use Rattle.model.specs.Call.{Split}
use Rattle.model.specs.Session.{Item, Untimed, Queued, Device, Session, map_item, map_queued, map_device, map_session, blank, view}
use Rattle.model.specs.Edit.{Amend, Edit, amended, item, pended, emptied, framed, at, without_slot, without_seat, framed_at, rest, enact, enact_all}
use Rattle.model.specs.Plan.{Result, Plan}
use Rattle.model.specs.Decide.{decide}
use Rattle.model.specs.Step.{Step, oldest, gave, gave_all, carried_out, source, pending_texts, devices_texts, queued_texts, text_bytes, Counts, counts, limits, refuses, settled, bytes_needed, limited, step, run}
use Rattle.model.specs.Framed.{in_all_blocks, run_of}
use Rattle.model.proofs.OneDevice.{framed-run, run_is}

-- the outcome once the limits are tested
abbrev verdict : (room bytes : ℕ) → (before after : Counts) → Result → Result
verdict room bytes n m o = cond (refuses o) o (limits room bytes n m o)

module _ {P Q : Type 0} (f : P → Q) where
  unfoldable pub map_split : Split P → Split Q
  map_split t = record { call = t.call; load = f t.load; now = t.now; room = t.room }

  unfoldable pub map_step : Step P → Step Q
  unfolding map_session map_queued
  map_step r = record { session = map_session f r.session; outcome = r.outcome; events = r.events; gave = map (map_queued f) r.gave }

  -- ---- what a decision sees

  blank_items : (is : List (Item P)) → map (map_item blank) (map (map_item f) is) ≡ map (map_item blank) is
  unfolding map_item
  blank_items [] = refl
  blank_items (i ∷ is) = ap (λ r. map_item blank i ∷ r) (blank_items is)

  blank-devices : (ds : List (Device P)) → map (map_device blank) (map (map_device f) ds) ≡ map (map_device blank) ds
  unfolding map_device
  blank-devices [] = refl
  blank-devices (d ∷ ds) = rw (blank_items d.pending, blank-devices ds)

  pub blank-requests : (rs : List (Queued P)) → map (map_queued blank) (map (map_queued f) rs) ≡ map (map_queued blank) rs
  unfolding map_queued
  blank-requests [] = refl
  blank-requests (Queued.timed d t i ∷ rs) = ap (λ r. map_queued blank (Queued.timed d t i) ∷ r) (blank-requests rs)
  blank-requests (Queued.untimed u ∷ rs) = ap (λ r. Queued.untimed u ∷ r) (blank-requests rs)

  pub view-map : (s : Session P) → view (map_session f s) ≡ view s
  unfolding view
  view-map s = rw (blank-devices s.devices, blank-requests s.requests)

  -- ---- edits

  at_map : (g : Device P → Device P) (h : Device Q → Device Q) → ((d : Device P) → h (map_device f d) ≡ map_device f (g d)) → (k : ℕ) (ds : List (Device P)) →
      at h k (map (map_device f) ds) ≡ map (map_device f) (at g k ds)
  unfolding at
  at_map g h e k [] = refl
  at_map g h e zero (d ∷ ds) = ap (λ x. x ∷ map (map_device f) ds) (e d)
  at_map g h e (suc k) (d ∷ ds) = ap (λ r. map_device f d ∷ r) (at_map g h e k ds)

  without_slot-map : (k : ℕ) (ds : List (Device P)) → without_slot k (map (map_device f) ds) ≡ map (map_device f) (without_slot k ds)
  unfolding without_slot
  without_slot-map k [] = refl
  without_slot-map zero (d ∷ ds) = refl
  without_slot-map (suc k) (d ∷ ds) = ap (λ r. map_device f d ∷ r) (without_slot-map k ds)

  pub kept_map : (b : Bool) (d : Device P) (ds : List (Device P)) →
      cond b [] (map_device f d ∷ []) ++ map (map_device f) ds ≡ map (map_device f) (cond b [] (d ∷ []) ++ ds)
  kept_map true d ds = refl
  kept_map false d ds = refl

  without_seat-map : (s : ℕ) (ds : List (Device P)) → without_seat s (map (map_device f) ds) ≡ map (map_device f) (without_seat s ds)
  unfolding without_seat map_device
  without_seat-map s [] = refl
  without_seat-map s (d ∷ ds) = rw (without_seat-map s ds) (kept_map (eqb d.seat s) d (without_seat s ds))

  queued-map : (d s t : ℕ) (is : List (Item P)) →
      map {B = Queued Q} (λ x. Queued.timed d t x) (map (map_item f) is) ++ (Queued.untimed (Untimed.Frame d s t) ∷ [])
      ≡ map (map_queued f) (map (λ x. Queued.timed d t x) is ++ (Queued.untimed (Untimed.Frame d s t) ∷ []))
  unfolding map_queued
  queued-map d s t [] = refl
  queued-map d s t (i ∷ is) = ap (λ r. Queued.timed d t (map_item f i) ∷ r) (queued-map d s t is)

  run_map_items : (d s t : ℕ) (is : List (Item P)) → in_all_blocks (run_of d s t (map (map_item f) is)) ≡ map (map_queued f) (in_all_blocks (run_of d s t is))
  unfolding run_of in_all_blocks
  run_map_items d s t [] = refl
  run_map_items d s t (i ∷ is) =
      run_is d s t (map_item f i) (map (map_item f) is) ∙ queued-map d s t (i ∷ is) ∙ ap (map (map_queued f)) (sym (run_is d s t i is))

  framed-map : (d s t : ℕ) (is : List (Item P)) → framed d s t (map (map_item f) is) ≡ map (map_queued f) (framed d s t is)
  framed-map d s t is =
      framed-run d s t (map (map_item f) is) ∙ run_map_items d s t is ∙ ap (map (map_queued f)) (sym (framed-run d s t is))

  framed_at-map : (k s t : ℕ) (ds : List (Device P)) → framed_at k s t (map (map_device f) ds) ≡ map (map_queued f) (framed_at k s t ds)
  unfolding framed_at map_device
  framed_at-map k s t [] = refl
  framed_at-map zero s t (d ∷ ds) = framed-map d.id s t d.pending
  framed_at-map (suc k) s t (d ∷ ds) = framed_at-map k s t ds

  rest-map : (rs : List (Queued P)) → rest (map (map_queued f) rs) ≡ map (map_queued f) (rest rs)
  unfolding rest
  rest-map [] = refl
  rest-map (r ∷ rs) = refl

  amended-map : (a : Amend) (d : Device P) → amended a (map_device f d) ≡ map_device f (amended a d)
  unfolding amended map_device
  amended-map (Amend.touch_down t) d = refl
  amended-map (Amend.touch_up t) d = refl
  amended-map Amend.clear_touches d = refl
  amended-map (Amend.unlist cap) d = refl

  pended-map : (i : Item P) (d : Device P) → pended (map_item f i) (map_device f d) ≡ map_device f (pended i d)
  unfolding pended map_device
  pended-map i d = search map-append

  emptied-map : (d : Device P) → emptied (map_device f d) ≡ map_device f (emptied d)
  unfolding emptied map_device
  emptied-map d = refl

  enact-map : (e : Edit) (p : P) (s : Session P) → enact e (f p) (map_session f s) ≡ map_session f (enact e p s)
  unfolding enact map_session
  enact-map (Edit.raise n) p s = refl
  enact-map (Edit.add_seat caps) p s = refl
  enact-map (Edit.remove_seat seat) p s = refl
  enact-map (Edit.add_device seat caps) p s = simp map-append
  enact-map (Edit.remove_device k) p s = simp without_slot-map
  enact-map (Edit.remove_devices_of seat) p s = simp without_seat-map
  enact-map (Edit.amend k a) p s = rw (at_map (amended a) (amended a) (amended-map a) k s.devices)
  enact-map (Edit.pend k sight) p s = rw (at_map (pended (item sight p)) (pended (item sight (f p))) (pended-map (item sight p)) k s.devices)
  enact-map (Edit.frame k serial time) p s = rw (at_map emptied emptied emptied-map k s.devices) (simp (map-append, framed_at-map))
  enact-map (Edit.queue r) p s = simp map-append
  enact-map Edit.deliver p s = simp rest-map
  enact-map (Edit.peer_object id) p s = refl
  enact-map Edit.end_connection p s = refl

  enact_all-map : (es : List Edit) (p : P) (s : Session P) → enact_all es (f p) (map_session f s) ≡ map_session f (enact_all es p s)
  unfolding enact_all
  enact_all-map [] p s = refl
  enact_all-map (e ∷ es) p s = ap (enact_all es (f p)) (enact-map e p s) ∙ enact_all-map es p (enact e p s)

  oldest-map : (rs : List (Queued P)) → oldest (map (map_queued f) rs) ≡ map (map_queued f) (oldest rs)
  unfolding oldest
  oldest-map [] = refl
  oldest-map (r ∷ rs) = refl

  gave-map : (e : Edit) (s : Session P) → gave e (map_session f s) ≡ map (map_queued f) (gave e s)
  unfolding gave map_session
  gave-map (Edit.raise n) s = refl
  gave-map (Edit.add_seat caps) s = refl
  gave-map (Edit.remove_seat seat) s = refl
  gave-map (Edit.add_device seat caps) s = refl
  gave-map (Edit.remove_device k) s = refl
  gave-map (Edit.remove_devices_of seat) s = refl
  gave-map (Edit.amend k a) s = refl
  gave-map (Edit.pend k sight) s = refl
  gave-map (Edit.frame k serial time) s = refl
  gave-map (Edit.queue r) s = refl
  gave-map Edit.deliver s = oldest-map s.requests
  gave-map (Edit.peer_object id) s = refl
  gave-map Edit.end_connection s = refl

  gave_all-map : (es : List Edit) (p : P) (s : Session P) → gave_all es (f p) (map_session f s) ≡ map (map_queued f) (gave_all es p s)
  unfolding gave_all
  gave_all-map [] p s = refl
  gave_all-map (e ∷ es) p s = rw (enact-map e p s, gave-map e s, gave_all-map es p (enact e p s), map-append)

  -- ---- what is counted

  pending_texts-map : (is : List (Item P)) → pending_texts (map (map_item f) is) ≡ pending_texts is
  unfolding pending_texts map_item
  pending_texts-map [] = refl
  pending_texts-map (i ∷ is) = rw (pending_texts-map is)

  devices_texts-map : (ds : List (Device P)) → devices_texts (map (map_device f) ds) ≡ devices_texts ds
  unfolding devices_texts map_device
  devices_texts-map [] = refl
  devices_texts-map (d ∷ ds) = rw (pending_texts-map d.pending, devices_texts-map ds)

  queued_texts-map : (rs : List (Queued P)) → queued_texts (map (map_queued f) rs) ≡ queued_texts rs
  unfolding queued_texts map_queued
  queued_texts-map [] = refl
  queued_texts-map (Queued.timed d t i ∷ rs) = rw (queued_texts-map rs)
  queued_texts-map (Queued.untimed u ∷ rs) = queued_texts-map rs

  text_bytes-map : (rs : List (Queued P)) → text_bytes (map (map_queued f) rs) ≡ text_bytes rs
  unfolding text_bytes map_queued
  text_bytes-map [] = refl
  text_bytes-map (Queued.timed d t i ∷ rs) = rw (text_bytes-map rs)
  text_bytes-map (Queued.untimed u ∷ rs) = text_bytes-map rs

  lengths_map : (ds : List (Device P)) → map (λ d. length d.pending) (map (map_device f) ds) ≡ map (λ d. length d.pending) ds
  unfolding map_device
  lengths_map [] = refl
  lengths_map (d ∷ ds) = rw (length-map d.pending (map_item f), lengths_map ds)

  counts-map : (s : Session P) → counts (map_session f s) ≡ counts s
  unfolding counts map_session
  counts-map s = simp (length-map, lengths_map, devices_texts-map, queued_texts-map)

  -- ---- a step

  carried_out-map : (plan : Plan) (p : P) (s : Session P) → carried_out plan (f p) (map_session f s) ≡ map_step (carried_out plan p s)
  unfolding carried_out map_step
  carried_out-map plan p s = rw (enact_all-map plan.edits p s, gave_all-map plan.edits p s)

  source-map : (t : Split P) (s : Session P) → source (map_split t) (map_session f s) ≡ map_step (source t s)
  unfolding source map_split
  source-map t s = rw (view-map s) (carried_out-map (decide (view s) t.now t.call) t.load s)

  cond_map : (b : Bool) (x y : Step P) → cond b (map_step x) (map_step y) ≡ map_step (cond b x y)
  cond_map true x y = refl
  cond_map false x y = refl

  settled-map : (s : Session P) (r : Step P) (o : Result) → settled (map_session f s) (map_step r) o ≡ map_step (settled s r o)
  unfolding settled map_step
  settled-map s r o = cond_map (refuses o) _ _

  bytes_needed-map : (r : Step P) → bytes_needed (map_step r) ≡ bytes_needed r
  unfolding bytes_needed map_step
  bytes_needed-map r = rw (text_bytes-map r.gave)

  limited-map : (room : ℕ) (s : Session P) (r : Step P) → limited room (map_session f s) (map_step r) ≡ map_step (limited room s r)
  unfolding limited map_step
  limited-map room s r =
      (λ i. settled (map_session f s) (map_step r) (verdict room (bytes_needed-map r i) (counts-map s i) (counts-map r.session i) r.outcome))
      ∙ settled-map s r (verdict room (bytes_needed r) (counts s) (counts r.session) r.outcome)

  pub step_map : (t : Split P) (s : Session P) → step (map_split t) (map_session f s) ≡ map_step (step t s)
  unfolding step map_split
  step_map t s = ap (limited t.room (map_session f s)) (source-map t s) ∙ limited-map t.room s (source t s)

  pub run-map : (ts : List (Split P)) (s : Session P) → run (map map_split ts) (map_session f s) ≡ map map_step (run ts s)
  unfolding run map_step
  run-map [] s = refl
  run-map (t ∷ ts) s = rw (step_map t s, run-map ts (step t s).session)
