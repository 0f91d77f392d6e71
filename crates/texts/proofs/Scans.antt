-- What a pass over the requests tells of the session. Assumes nothing.
use Prim.Native.Nat.{ℕ, zero, suc, ◌+◌, ◌-◌, ◌*◌, ◌≤◌, ◌<◌}
use mathlib.Core.Path.{◌≡◌, refl, sym, ap, ap₂, subst, ◌∙◌}
use mathlib.Core.Bool.{Bool, true, false, cond, false≢true}
use mathlib.Core.List.{List, [], ◌∷◌, ◌++◌}
use native.Mathlib.Numerals.{add-one}
use native.Mathlib.Omega.{arith}
use lib.Dec.{ltb}
use lib.Ieee.{Float}
use lib.ListN.{length}
use Rattle.eiproto.specs.Bits.{bit, bits_of}
use Rattle.eiproto.proofs.Bits.{bits_none}
use Rattle.requests.specs.Row.{texts_limit, row_at}
use Rattle.requests.proofs.Cells.{slot-text}
use Rattle.model.specs.Call.{Load}
use Rattle.model.specs.Session.{Item, Queued, Device}
use Rattle.model.specs.Step.{texts, pending_texts, devices_texts, queued_texts, counts}
use Rattle.control.specs.Table.{tab}
use Rattle.control.specs.Control.{pending_limit, queue_limit, device_count, queue_head, queue_length, core_at}
use Rattle.control.proofs.Tables.{case_eq, tab-append}
use Rattle.session.specs.View.{queue_start, pending_row, queue_row, item_in, text_of, request_at, item_at, device_in, queue_in, session_in, session}
use Rattle.session.proofs.Shapes.{texts_of, shape}
use Rattle.texts.specs.declared.LiveTexts.{LiveTexts}
use Rattle.texts.specs.Texts.{texts_among, Counted, FirstRun, Live}
use Rattle.texts.proofs.Marks.{counted-more}

-- ---- a request has a text if it has a slot for it

item-texts : (r : Queued Load) → texts (item_in r).kind ≡ texts_of r
unfolding item_in texts
item-texts (Queued.timed d t i) = refl
item-texts (Queued.untimed r) = refl

module _ (w : List ℕ) (r : List Float) (ts : List ℕ) where
  row-texts : (i : ℕ) → texts_of (request_at ts (row_at w r i)) ≡ cond (ltb (row_at w r i).slot texts_limit) 1 0
  unfolding request_at
  row-texts i = (shape (row_at w r i).request).count (text_of ts (row_at w r i)) ∙ ap (λ (b : Bool). cond b 1 0) (slot-text w r i)

-- ---- lists of them, one longer

pending-more : (is : List (Item Load)) (i : Item Load) → pending_texts (is ++ (i ∷ [])) ≡ pending_texts is + texts i.kind
unfolding pending_texts
pending-more [] i = omega arith
pending-more (j ∷ is) i = omega (arith, pending-more is i)

devices-more : (ds : List (Device Load)) (d : Device Load) → devices_texts (ds ++ (d ∷ [])) ≡ devices_texts ds + pending_texts d.pending
unfolding devices_texts
devices-more [] d = omega arith
devices-more (e ∷ ds) d = omega (arith, devices-more ds d)

queued-more : (rs : List (Queued Load)) (r : Queued Load) → queued_texts (rs ++ (r ∷ [])) ≡ queued_texts rs + texts_of r
unfolding queued_texts
queued-more [] (Queued.timed d t i) = omega arith
queued-more [] (Queued.untimed r) = refl
queued-more (Queued.timed d t i ∷ rs) r = omega (arith, queued-more rs r)
queued-more (Queued.untimed q ∷ rs) r = queued-more rs r

module _ (w : List ℕ) (r : List Float) (ts : List ℕ) (at : ℕ → ℕ) where
  pending_texts_lem : (n : ℕ) → pending_texts (tab n (λ j. item_at ts (row_at w r (at j)))) ≡ texts_among n (λ j. (row_at w r (at j)).slot)
  unfolding texts_among tab pending_texts item_at
  pending_texts_lem zero = refl
  pending_texts_lem (suc n) =
      ap pending_texts (tab-append n (λ j. item_at ts (row_at w r (at j)))) ∙ pending-more (tab n (λ j. item_at ts (row_at w r (at j)))) (item_at ts (row_at w r (at n)))
      ∙ ap₂ (λ (x y : ℕ). x + y) (pending_texts_lem n) (item-texts (request_at ts (row_at w r (at n))) ∙ row-texts w r ts (at n))

  queued_texts_lem : (n : ℕ) → queued_texts (tab n (λ j. request_at ts (row_at w r (at j)))) ≡ texts_among n (λ j. (row_at w r (at j)).slot)
  unfolding texts_among tab queued_texts
  queued_texts_lem zero = refl
  queued_texts_lem (suc n) =
      ap queued_texts (tab-append n (λ j. request_at ts (row_at w r (at j)))) ∙ queued-more (tab n (λ j. request_at ts (row_at w r (at j)))) (request_at ts (row_at w r (at n)))
      ∙ ap₂ (λ (x y : ℕ). x + y) (queued_texts_lem n) (row-texts w r ts (at n))

-- ---- the pass over the devices, then over the queue

-- no slot is marked and not marked
marked-not : (used : ℕ) {s slot : ℕ} → bit s used ≡ true → s ≡ slot → bit slot used ≡ false → ⊥
marked-not used t z e = false≢true (sym e ∙ ap (λ (x : ℕ). bit x used) (sym z) ∙ t)

module _ (c w : List ℕ) (r : List Float) where
  -- of device k's pending list, and of the queue
  abbrev pending_slots : ℕ → ℕ → ℕ
  pending_slots k j = (row_at w r (pending_row k j)).slot

  abbrev queue_slots : ℕ → ℕ → ℕ
  queue_slots head j = (row_at w r (queue_row head j)).slot

  -- the first k devices are passed
  pub record Passed (k : ℕ) (live : LiveTexts) : Type 0 where
    pub count : (ts : List ℕ) → live.count ≡ devices_texts (tab k (device_in c (row_at w r) ts))
    pub most : live.count ≤ pending_limit * k
    pub marked : (i j : ℕ) → i < k → j < (core_at c i).pending → pending_slots i j < texts_limit → bit (pending_slots i j) live.used ≡ true
    pub few : length (bits_of live.used) ≤ live.count

  pub passed_none : Passed 0 (record { count = 0; used = 0 })
  unfolding tab devices_texts
  passed_none =
      record { count = λ ts. refl; most = omega arith; marked = λ i j l. absurd (omega arith); few = rw bits_none (omega arith) }

  device-texts : (ts : List ℕ) (k : ℕ) → pending_texts (device_in c (row_at w r) ts k).pending ≡ texts_among (core_at c k).pending (pending_slots k)
  unfolding device_in
  device-texts ts k = pending_texts_lem w r ts (pending_row k) (core_at c k).pending

  pub passed-step : {live later : LiveTexts} (k n : ℕ) → n ≡ (core_at c k).pending → n ≤ pending_limit → Passed k live → Counted live later n (pending_slots k)
      → Passed (k + 1) later
  passed-step {live} {later} k n e small p q =
      record {
        count =
            λ ts.
            let f = device_in c (row_at w r) ts in
            q.count
            ∙ ap₂ (λ (x y : ℕ). x + y) (p.count ts) (ap (λ (m : ℕ). texts_among m (pending_slots k)) e ∙ sym (device-texts ts k))
            ∙ sym (devices-more (tab k f) (f k)) ∙ rw add-one (ap devices_texts (sym (tab-append k f)));
        most = omega (arith, p.most, q.most);
        marked =
            λ i j l m s.
            case_eq i k
            (λ z.
            subst (λ (x : ℕ). j < (core_at c x).pending → pending_slots x j < texts_limit → bit (pending_slots x j) later.used ≡ true) (sym z)
            (λ a b. q.marked j (omega (arith, a)) b) m s)
            (λ ne. q.kept (pending_slots i j) (p.marked i j (omega arith) m s));
        few = omega (arith, p.few, q.few);
      }

  -- the queue's two runs of rows: from the head to the ring's end, and from its start
  pub queue-counted : {live mid later : LiveTexts} {head queued n : ℕ} → FirstRun head queued n → queued ≤ queue_limit
      → Counted live mid n (λ j. (row_at w r (queue_start + head + j)).slot) → Counted mid later (queued - n) (λ j. (row_at w r (queue_start + j)).slot)
      → Counted live later queued (queue_slots head)
  queue-counted {live} {mid} {later} {head} {queued} {n} run full a b =
      let all = run.all in
      let z : n + (queued - n) ≡ queued = omega (arith, run.some) in
      rw z at
      (counted-more n {slots = queue_slots head}
      (λ j l. let e : queue_row head j ≡ queue_start + head + j = omega (arith, run.in_ring) in ap (λ (i : ℕ). (row_at w r i).slot) e)
      (queued - n)
      (λ j l.
      let wraps : head + n ≡ queue_limit = all (omega arith) in
      let e : queue_row head (n + j) ≡ queue_start + j = omega arith in
      ap (λ (i : ℕ). (row_at w r i).slot) e)
      a b)

  pub passed-live : {live later : LiveTexts} (k head n : ℕ) → k ≡ device_count c → head ≡ queue_head c → n ≡ queue_length c → Passed k live
      → Counted live later n (queue_slots head) → Live c w r later
  unfolding counts session session_in queue_in
  passed-live {live} {later} k head n ek eh en p q =
      record {
        count =
            λ ts.
            q.count
            ∙ ap₂ (λ (x y : ℕ). x + y) (p.count ts ∙ ap (λ (m : ℕ). devices_texts (tab m (device_in c (row_at w r) ts))) ek)
            (sym (queued_texts_lem w r ts (queue_row head) n)
            ∙ ap₂ (λ (h m : ℕ). queued_texts (tab m (λ j. request_at ts (row_at w r (queue_row h j))))) eh en);
        free =
            λ slot l e.
            record {
              pending = λ i j a b z. marked-not later.used (q.kept (pending_slots i j) (p.marked i j (omega arith) b (omega arith))) z e;
              queued =
                  λ j a z.
                  marked-not later.used
                  (subst (λ (h : ℕ). queue_slots h j < texts_limit → bit (queue_slots h j) later.used ≡ true) eh (λ b. q.marked j (omega arith) b) (omega arith)) z e;
            };
        few = omega (arith, p.few, q.few);
      }
