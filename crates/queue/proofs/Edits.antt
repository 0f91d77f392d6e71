-- A row put or copied and the counts set, as the edits of the session that they are. Assumes nothing.
use Prim.Native.Nat.{ℕ, suc, ◌+◌, ◌%◌, ◌≤◌, ◌<◌}
use native.Mathlib.Omega.{arith}
use mathlib.Core.Path.{◌≡◌, refl, sym, ap, ap₂, ◌∙◌}
use mathlib.Core.List.{List, [], ◌∷◌, ◌++◌, append_assoc, append-nil}
use lib.Ieee.{Float}
use Rattle.requests.specs.Row.{Row, framed_row, row_at, Put}
use Rattle.model.specs.Call.{Sight, Load}
use Rattle.model.specs.Session.{Item, Untimed, Queued}
use Rattle.model.specs.Edit.{Edit, device_with, item, pended, emptied, framed, framed_at, rest, at, with_requests, enact, enact_all}
use Rattle.control.specs.Table.{tab}
use Rattle.control.specs.Control.{devices_limit, pending_limit, queue_limit, device_count, queue_head, queue_length, Core, core_at}
use Rattle.control.specs.Sound.{Sound}
use Rattle.control.proofs.Sounds.{pending_bound}
use Rattle.control.proofs.Tables.{case_eq, tab_ext, tab_same, tab_push}
use Rattle.control.proofs.Models.{at_slot}
use Rattle.control.specs.Change.{SameDevices, Amended, Requeued, with_pending}
use Rattle.session.specs.View.{queue_start, store, pending_row, queue_row, request_at, item_at, device_in, queue_in, session_in, session}
use Rattle.session.specs.Enact.{Enacted}
use Rattle.session.proofs.Views.{session_of, device_ext, queue_ext}
use Rattle.session.proofs.Edits.{amended-session}
use Rattle.queue.specs.Queue.{Copied}
use Rattle.queue.proofs.Tables.{tab-add, tab-rest, framed-tab, framed-slot}
use Rattle.queue.proofs.Entries.{framed_request_lem}

pub enacted : {c w e v : List ℕ} {r s : List Float} {texts : List ℕ} {edits : List Edit} {load : Load} → Sound e
    → session_in e (row_at v s) texts ≡ enact_all edits load (session_in c (row_at w r) texts) → Enacted (store c w r texts) (store e v s texts) edits load
unfolding session
enacted ok q = record { sound = ok; view = q }

-- ---- rows

-- n rows copied, one after another: the pending rows are none of the queue's
pub copied_none : (rows : ℕ → Row) (k head queued device time : ℕ) → Copied rows rows k 0 head queued device time
copied_none rows k head queued device time = record { here = λ j l. absurd (omega arith); other = λ i h. refl }

pub copied_step : {rows mid later : ℕ → Row} {k n head queued device time : ℕ} (from to : ℕ) → Copied rows mid k n head queued device time
    → Put mid later to (framed_row device time (mid from)) → k < devices_limit → n < pending_limit → queued + n < queue_limit → from ≡ pending_row k n → to ≡ queue_row head (queued + n)
    → Copied rows later k (n + 1) head queued device time
copied_step {rows} {mid} {later} {k} {n} {head} {queued} {device} {time} from to m p low short room f t =
    record {
      here = λ j l.
          case_eq j n
          (λ e.
          let z : queue_row head (queued + j) ≡ to = omega arith in
          let y : pending_row k j ≡ from = omega arith in
          ap later z ∙ p.here ∙ ap (framed_row device time) (m.other from (λ i q w. omega arith)) ∙ ap (λ (i : ℕ). framed_row device time (rows i)) (sym y))
          (λ e. p.other (queue_row head (queued + j)) (λ z. omega arith) ∙ m.here j (omega arith));
      other = λ i h. p.other i (λ z. h n (omega arith) (z ∙ t)) ∙ m.other i (λ j l. h j (omega arith));
    }

-- a copied row names the slot of its text, and the Frame behind them is no such row
pub slots_stay : {rows mid later : ℕ → Row} {k n head queued device time place oldest length waits : ℕ} {new : Row} → Copied rows mid k n head queued device time
    → Put mid later place new → place ≡ queue_row head (queued + n) → queued + n + 1 ≤ queue_limit → head ≡ oldest → queued ≡ length → n ≡ waits
    → (j : ℕ) → j < waits → (later (queue_row oldest (length + j))).slot ≡ (rows (pending_row k j)).slot
unfolding framed_row
slots_stay {head = head} {queued = queued} copied p last room h l w j less =
    rw (← h, ← l) (ap (λ (row : Row). row.slot) (p.other (queue_row head (queued + j)) (λ z. omega arith) ∙ copied.here j (omega arith)))

-- ---- the queue

queue_is : (c : List ℕ) (rows : ℕ → Row) (texts : List ℕ) {head queued : ℕ} → queue_head c ≡ head → queue_length c ≡ queued
    → queue_in c rows texts ≡ tab queued (λ j. request_at texts (rows (queue_row head j)))
unfolding queue_in
queue_is c rows texts h q = ap₂ (λ (x n : ℕ). tab n (λ j. request_at texts (rows (queue_row x j)))) h q

-- a row more behind the queue
row_push : (texts : List ℕ) {rows later : ℕ → Row} (head n : ℕ) {place : ℕ} {new : Row} → n < queue_limit → place ≡ queue_row head n → Put rows later place new
    → tab (n + 1) (λ j. request_at texts (later (queue_row head j))) ≡ tab n (λ j. request_at texts (rows (queue_row head j))) ++ (request_at texts new ∷ [])
row_push texts {rows} {later} head n {place} {new} l at p =
    tab_push n (n + 1) (λ j. request_at texts (rows (queue_row head j))) (λ j. request_at texts (later (queue_row head j))) (request_at texts new) refl
    (ap (λ (i : ℕ). request_at texts (later i)) (sym at) ∙ ap (request_at texts) p.here) (λ j q. ap (request_at texts) (p.other (queue_row head j) (λ e. omega arith)))

-- ---- the devices, where no row of theirs changed

module _ {c : List ℕ} (e : List ℕ) {rows later : ℕ → Row} (texts : List ℕ) (ok : Sound c) (low : (i : ℕ) → i < queue_start → later i ≡ rows i) where
  device-kept : (k : ℕ) → k < device_count c → core_at e k ≡ core_at c k → device_in e later texts k ≡ device_in c rows texts k
  device-kept k l q =
      device_ext c e rows later texts texts k k q (λ m r. ap (item_at texts) (low (pending_row k m) (omega (arith, ok.devices, pending_bound ok k l))))

  devices-kept : SameDevices c e → tab (device_count e) (device_in e later texts) ≡ tab (device_count c) (device_in c rows texts)
  devices-kept s =
      tab_same (device_count e) (device_count c) (device_in e later texts) (device_in c rows texts) s.count (λ k l. device-kept k (omega (arith, s.count)) (s.core k))

-- ---- the oldest taken out

module _ {c e : List ℕ} {head queued : ℕ} (ok : Sound c) (q : Requeued c e head queued) (h : head ≡ (queue_head c + 1) % queue_limit) (n : queue_length c ≡ queued + 1)
    (rows : ℕ → Row) (texts : List ℕ) where
  popped_queue : queue_in e rows texts ≡ rest (queue_in c rows texts)
  popped_queue =
      queue_is e rows texts q.head_is q.queued_is
      ∙ tab_ext queued (λ j. request_at texts (rows (queue_row head j))) (λ j. request_at texts (rows (queue_row (queue_head c) (suc j))))
      (λ j l. let z : queue_row head j ≡ queue_row (queue_head c) (suc j) = omega arith in ap (λ (i : ℕ). request_at texts (rows i)) z)
      ∙ sym (tab-rest (queue_length c) queued (λ j. request_at texts (rows (queue_row (queue_head c) j))) n)
      ∙ ap rest (sym (queue_is c rows texts refl refl))

  pub popped : (load : Load) → session_in e rows texts ≡ enact_all (Edit.deliver ∷ []) load (session_in c rows texts)
  unfolding session_in enact_all enact with_requests
  popped load =
      session_of e rows texts q.connection (devices-kept e {rows = rows} {later = rows} texts ok (λ i l. refl) q.devices) popped_queue

-- ---- an untimed request more

module _ {c e : List ℕ} {rows later : ℕ → Row} {head queued more place : ℕ} {new : Row} (ok : Sound c) (p : Put rows later place new) (q : Requeued c e head more)
    (h : head ≡ queue_head c) (n : queued ≡ queue_length c) (room : queued < queue_limit) (at : place ≡ queue_row head queued) (one : more ≡ queued + 1) (texts : List ℕ) where
  pushed_queue : queue_in e later texts ≡ queue_in c rows texts ++ (request_at texts new ∷ [])
  pushed_queue =
      queue_is e later texts q.head_is (q.queued_is ∙ one)
      ∙ row_push texts head queued room at p
      ∙ ap (λ (xs : List (Queued Load)). xs ++ (request_at texts new ∷ [])) (sym (queue_is c rows texts (sym h) (sym n)))

  pub pushed : (u : Untimed) (load : Load) → request_at texts new ≡ Queued.untimed u → session_in e later texts ≡ enact_all (Edit.queue u ∷ []) load (session_in c rows texts)
  unfolding session_in enact_all enact with_requests
  pushed u load what =
      session_of e later texts q.connection (devices-kept e texts ok (λ i b. p.other i (λ z. omega arith)) q.devices)
      (pushed_queue ∙ ap (λ (x : Queued Load). queue_in c rows texts ++ (x ∷ [])) what)

-- ---- a request more that is pending

module _ {c e : List ℕ} {rows later : ℕ → Row} {k n more place : ℕ} {new : Row} (ok : Sound c) (p : Put rows later place new) (a : Amended c e k (with_pending more (core_at c k)))
    (l : k < device_count c) (is : n ≡ (core_at c k).pending) (room : n < pending_limit) (here : place ≡ pending_row k n) (one : more ≡ n + 1) (texts : List ℕ) where
  pended-device : (i : Item Load) → i ≡ item_at texts new → device_in e later texts k ≡ pended i (device_in c rows texts k)
  unfolding device_in pended device_with
  pended-device i what =
      let q = a.here in
      let items = tab_push (core_at c k).pending (core_at e k).pending (λ j. item_at texts (rows (pending_row k j))) (λ j. item_at texts (later (pending_row k j))) i
      (ap (λ (d : Core). d.pending) q ∙ one ∙ ap (λ (m : ℕ). m + 1) is)
      (ap (λ (m : ℕ). item_at texts (later (pending_row k m))) (sym is) ∙ ap (λ (m : ℕ). item_at texts (later m)) (sym here) ∙ ap (item_at texts) p.here ∙ sym what)
      (λ j b. ap (item_at texts) (p.other (pending_row k j) (λ z. omega arith))) in
      λ x. record { id = (q x).id; seat = (q x).seat; interfaces = (q x).interfaces; down_touch_ids = (q x).down_touch_ids; pending = items x }

  pub pended-more : (sight : Sight) (load : Load) → item sight load ≡ item_at texts new
      → session_in e later texts ≡ enact_all (Edit.pend k sight ∷ []) load (session_in c rows texts)
  unfolding enact_all enact
  pended-more sight load what =
      let i : Item Load = item sight load in
      amended-session c e rows later texts texts (pended i) l a (pended-device i what)
      (λ j b ne m q.
      ap (item_at texts) (p.other (pending_row j m) (λ z. ne (omega (arith, ok.devices, pending_bound ok j b)))))
      (queue_ext c e rows later texts texts a.queue.head a.queue.queued
      (λ m b. ap (request_at texts) (p.other (queue_row (queue_head c) m) (λ z. omega (arith, ok.devices)))))

-- ---- a frame

framed_at_lem : (c : List ℕ) (rows : ℕ → Row) (texts : List ℕ) (k serial time : ℕ) → k < device_count c
    → framed_at k serial time (tab (device_count c) (device_in c rows texts))
    ≡ framed (core_at c k).id serial time (tab (core_at c k).pending (λ j. item_at texts (rows (pending_row k j))))
unfolding device_in
framed_at_lem c rows texts k serial time l = framed-slot serial time (device_count c) k (device_in c rows texts) l

-- with nothing pending: nothing
module _ (c : List ℕ) (rows : ℕ → Row) (texts : List ℕ) (k serial time : ℕ) (l : k < device_count c) (none : (core_at c k).pending ≡ 0) where
  empty-device : device_in c rows texts k ≡ emptied (device_in c rows texts k)
  unfolding device_in emptied device_with tab
  empty-device =
      λ x. record {
        id = (core_at c k).id;
        seat = (core_at c k).seat;
        interfaces = (core_at c k).interfaces;
        down_touch_ids = (core_at c k).down_touch_ids;
        pending = tab (none x) (λ j. item_at texts (rows (pending_row k j)));
      }

  nothing-framed : framed_at k serial time (tab (device_count c) (device_in c rows texts)) ≡ []
  unfolding framed tab
  nothing-framed =
      framed_at_lem c rows texts k serial time l
      ∙ ap (λ (n : ℕ). framed (core_at c k).id serial time (tab n (λ j. item_at texts (rows (pending_row k j))))) none

  pub framed-none : (load : Load) → session_in c rows texts ≡ enact_all (Edit.frame k serial time ∷ []) load (session_in c rows texts)
  unfolding session_in enact_all enact
  framed-none load =
      session_of c rows texts refl
      (at_slot emptied (device_count c) k (device_in c rows texts) (device_in c rows texts) l empty-device (λ j b ne. refl))
      (sym (append-nil (queue_in c rows texts)) ∙ ap (λ (xs : List (Queued Load)). queue_in c rows texts ++ xs) (sym nothing-framed))

-- else: the pending rows are copied (mid), the Frame is put behind them (later), the queue is longer (m) and nothing is pending (e)
module _ {c m e : List ℕ} {rows mid later : ℕ → Row} {k n head queued device time place more left : ℕ} {new : Row} (ok : Sound c)
    (copied : Copied rows mid k n head queued device time) (p : Put mid later place new) (q : Requeued c m head more)
    (a : Amended m e k (with_pending left (core_at m k))) (l : k < device_count c) (is : n ≡ (core_at c k).pending) (some : 0 < n) (h : head ≡ queue_head c)
    (len : queued ≡ queue_length c) (room : queued + n + 1 ≤ queue_limit) (owner : device ≡ (core_at c k).id) (last : place ≡ queue_row head (queued + n))
    (longer : more ≡ queued + n + 1) (none : left ≡ 0) (texts : List ℕ) where
  pending-kept : (i : ℕ) → i < queue_start → later i ≡ rows i
  pending-kept i b = p.other i (λ z. omega arith) ∙ copied.other i (λ j d z. omega arith)

  emptied-device : device_in e later texts k ≡ emptied (device_in c rows texts k)
  unfolding device_in emptied device_with tab
  emptied-device =
      let z : core_at e k ≡ with_pending 0 (core_at c k) = a.here ∙ ap₂ (λ (i : ℕ) (d : Core). with_pending i d) none (q.devices.core k) in
      λ x. record {
        id = (z x).id;
        seat = (z x).seat;
        interfaces = (z x).interfaces;
        down_touch_ids = (z x).down_touch_ids;
        pending = tab (z x).pending (λ j. item_at texts (later (pending_row k j)));
      }

  framed-devices : tab (device_count e) (device_in e later texts) ≡ at emptied k (tab (device_count c) (device_in c rows texts))
  framed-devices =
      ap (λ (x : ℕ). tab x (device_in e later texts)) (a.count ∙ q.devices.count)
      ∙ at_slot emptied (device_count c) k (device_in c rows texts) (device_in e later texts) l emptied-device
      (λ j b ne. device-kept e texts ok pending-kept j b (a.other j ne ∙ q.devices.core j))

  abbrev timed : List (Queued Load)
  timed = tab n (λ j. Queued.timed device time (item_at texts (rows (pending_row k j))))

  -- the queue's rows, then the copied ones
  copied_queue : tab (queued + n) (λ j. request_at texts (mid (queue_row head j))) ≡ queue_in c rows texts ++ timed
  copied_queue =
      tab-add queued n (λ j. request_at texts (mid (queue_row head j)))
      ∙ ap₂ (λ (xs ys : List (Queued Load)). xs ++ ys)
      (tab_ext queued (λ j. request_at texts (mid (queue_row head j))) (λ j. request_at texts (rows (queue_row head j)))
      (λ j b. ap (request_at texts) (copied.other (queue_row head j) (λ i d z. omega arith)))
      ∙ sym (queue_is c rows texts (sym h) (sym len)))
      (tab_ext n (λ j. request_at texts (mid (queue_row head (queued + j)))) (λ j. Queued.timed device time (item_at texts (rows (pending_row k j))))
      (λ j b. ap (request_at texts) (copied.here j b) ∙ framed_request_lem texts device time (rows (pending_row k j))))

  module _ (serial : ℕ) (frame : request_at texts new ≡ Queued.untimed (Untimed.Frame device serial time)) where
    framed-pending : timed ++ (request_at texts new ∷ []) ≡ framed_at k serial time (tab (device_count c) (device_in c rows texts))
    framed-pending =
        ap (λ (x : Queued Load). timed ++ (x ∷ [])) frame
        ∙ sym (framed-tab device serial time n (λ j. item_at texts (rows (pending_row k j))) some)
        ∙ ap₂ (λ (d i : ℕ). framed d serial time (tab i (λ j. item_at texts (rows (pending_row k j))))) owner is
        ∙ sym (framed_at_lem c rows texts k serial time l)

    framed-queue : queue_in e later texts ≡ queue_in c rows texts ++ framed_at k serial time (tab (device_count c) (device_in c rows texts))
    framed-queue =
        queue_is e later texts (a.queue.head ∙ q.head_is) (a.queue.queued ∙ q.queued_is ∙ longer)
        ∙ row_push texts head (queued + n) (omega arith) last p
        ∙ ap (λ (xs : List (Queued Load)). xs ++ (request_at texts new ∷ [])) copied_queue
        ∙ append_assoc (queue_in c rows texts) timed (request_at texts new ∷ [])
        ∙ ap (λ (xs : List (Queued Load)). queue_in c rows texts ++ xs) framed-pending

    pub framed-some : (load : Load) → session_in e later texts ≡ enact_all (Edit.frame k serial time ∷ []) load (session_in c rows texts)
    unfolding session_in enact_all enact
    framed-some load = session_of e later texts (a.connection ∙ q.connection) framed-devices framed-queue
