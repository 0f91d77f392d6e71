-- What each edit does to the things counted. Assumes nothing.
use Prim.Native.Nat.{ℕ, zero, suc, ◌+◌, ◌≤◌, ◌<◌, suc-le-suc}
use mathlib.Core.Path.{◌≡◌, refl, ap, subst, sym, ◌∙◌}
use mathlib.Core.Bool.{Bool, true, false, ◌&&◌, false≢true}
use mathlib.Core.List.{List, [], ◌∷◌, ◌++◌, map, map-append, Sublistᴰ}
use native.Mathlib.Nat.{le_refl, le_trans, le_of_suc-le-suc}
use native.Mathlib.Omega.{arith}
use lib.ListN.{length, get_or, length-append, length-map}
use Rattle.eiproto.specs.Bits.{bits_of}
use Rattle.model.specs.Call.{Sight}
use Rattle.model.specs.Session.{Item, Untimed, Queued, Seat, Device, Session}
use Rattle.model.specs.Edit.{Amend, Edit, interfaces_from, new_interfaces, amended, item, pended, emptied, framed, new_device, at, framed_at, rest, with_devices, enact, enact_all}
use Rattle.model.specs.Decide.{Found, pend_after, remove_seats}
use Rattle.model.specs.Step.{gave, gave_all, texts, pending_texts, devices_texts, queued_texts, Counts, counts}
use Rattle.model.proofs.All.{All, none, more}
use Rattle.model.proofs.Removals.{sub-map, seats_without-sub, without_slot-sub, without_seat-sub}

-- ---- lists of numbers, counts, lists of edits

unfoldable pub change : (ℕ → ℕ) → ℕ → List ℕ → List ℕ
change g k [] = []
change g zero (n ∷ ns) = g n ∷ ns
change g (suc k) (n ∷ ns) = n ∷ change g k ns

change-none : (k : ℕ) (ns : List ℕ) → change (λ n. n) k ns ≡ ns
unfolding change
change-none k [] = refl
change-none zero (n ∷ ns) = refl
change-none (suc k) (n ∷ ns) = ap (λ r. n ∷ r) (change-none k ns)

-- how many requests the frame of a device queues on which so many wait: each of them and the Frame, or none
unfoldable pub framed_length : ℕ → ℕ
framed_length zero = 0
framed_length (suc n) = suc n + 1

pub framed_length-some : (n : ℕ) → 0 < n → framed_length n ≡ n + 1
unfolding framed_length
framed_length-some zero h = absurd (omega arith)
framed_length-some (suc n) h = refl

-- counts are equal field by field
pub counted : {n m : Counts} →
    n.seats ≡ m.seats → n.devices ≡ m.devices → n.pending ≡ m.pending → n.queued ≡ m.queued → n.texts ≡ m.texts → n.next_id ≡ m.next_id → n ≡ m
counted a b c d e f = λ i. record { seats = a i; devices = b i; pending = c i; queued = d i; texts = e i; next_id = f i }

-- the counts after a request is pended that has so many texts, a frame, a request queued, a new seat, a new device with so many interfaces
unfoldable pub after_pend : (slot texts : ℕ) → Counts → Counts
unfolding change
after_pend k x c =
    record {
      seats = c.seats;
      devices = c.devices;
      pending = change (λ n. n + 1) k c.pending;
      queued = c.queued;
      texts = c.texts + x;
      next_id = c.next_id;
    }

unfoldable pub after_frame : (slot : ℕ) → Counts → Counts
unfolding change framed_length
after_frame k c =
    record {
      seats = c.seats;
      devices = c.devices;
      pending = change (λ n. 0) k c.pending;
      queued = c.queued + framed_length (get_or c.pending k 0);
      texts = c.texts;
      next_id = c.next_id;
    }

unfoldable pub after_queue : Counts → Counts
after_queue c =
    record {
      seats = c.seats;
      devices = c.devices;
      pending = c.pending;
      queued = c.queued + 1;
      texts = c.texts;
      next_id = c.next_id;
    }

unfoldable pub after_seat : Counts → Counts
after_seat c =
    record {
      seats = c.seats + 1;
      devices = c.devices;
      pending = c.pending;
      queued = c.queued;
      texts = c.texts;
      next_id = c.next_id + 1;
    }

unfoldable pub after_device : (interfaces : ℕ) → Counts → Counts
after_device n c =
    record {
      seats = c.seats;
      devices = c.devices + 1;
      pending = c.pending ++ (0 ∷ []);
      queued = c.queued;
      texts = c.texts;
      next_id = c.next_id + 1 + n;
    }

-- the edits that change nothing of what is counted
unfoldable pub quiet_one : Edit → Bool
quiet_one (Edit.raise n) = true
quiet_one (Edit.add_seat caps) = false
quiet_one (Edit.remove_seat seat) = false
quiet_one (Edit.add_device seat caps) = false
quiet_one (Edit.remove_device k) = false
quiet_one (Edit.remove_devices_of seat) = false
quiet_one (Edit.amend k a) = true
quiet_one (Edit.pend k i) = false
quiet_one (Edit.frame k serial time) = false
quiet_one (Edit.queue r) = false
quiet_one Edit.deliver = false
quiet_one (Edit.peer_object id) = true
quiet_one Edit.end_connection = true

unfoldable pub quiet_all : List Edit → Bool
unfolding quiet_one
quiet_all [] = true
quiet_all (e ∷ es) = quiet_one e && quiet_all es

pub quiet_none : quiet_all [] ≡ true
unfolding quiet_all
quiet_none = refl

pub quiet-raise : (n : ℕ) → quiet_all (Edit.raise n ∷ []) ≡ true
unfolding quiet_all
quiet-raise n = refl

pub quiet-amend : (n k : ℕ) (a : Amend) → quiet_all (Edit.raise n ∷ Edit.amend k a ∷ []) ≡ true
unfolding quiet_all
quiet-amend n k a = refl

-- nothing more is counted. Places may shift, so of the pending lists it is said that they keep to their limit
pub record Lessens (n m : Counts) : Type 0 where
  pub seats : m.seats ≤ n.seats
  pub devices : m.devices ≤ n.devices
  pub pending : All (λ x. x ≤ 64) n.pending → All (λ x. x ≤ 64) m.pending
  pub queued : m.queued ≤ n.queued
  pub texts : m.texts ≤ n.texts
  pub next_id : m.next_id ≤ n.next_id

pub lessens_same : (n : Counts) → Lessens n n
lessens_same n = record { seats = le_refl _; devices = le_refl _; pending = λ a. a; queued = le_refl _; texts = le_refl _; next_id = le_refl _ }

lessens_more : {n m l : Counts} → Lessens n m → Lessens m l → Lessens n l
lessens_more a b =
    record {
      seats = le_trans b.seats a.seats;
      devices = le_trans b.devices a.devices;
      pending = λ h. b.pending (a.pending h);
      queued = le_trans b.queued a.queued;
      texts = le_trans b.texts a.texts;
      next_id = le_trans b.next_id a.next_id;
    }

-- the edits of removals
unfoldable pub removes : Edit → Bool
removes (Edit.raise n) = true
removes (Edit.add_seat caps) = false
removes (Edit.remove_seat seat) = true
removes (Edit.add_device seat caps) = false
removes (Edit.remove_device k) = true
removes (Edit.remove_devices_of seat) = true
removes (Edit.amend k a) = false
removes (Edit.pend k i) = false
removes (Edit.frame k serial time) = false
removes (Edit.queue r) = false
removes Edit.deliver = false
removes (Edit.peer_object id) = true
removes Edit.end_connection = true

unfoldable pub removes_all : List Edit → Bool
unfolding removes
removes_all [] = true
removes_all (e ∷ es) = removes e && removes_all es

pub removes-device : (n k : ℕ) → removes_all (Edit.raise n ∷ Edit.remove_device k ∷ []) ≡ true
unfolding removes_all
removes-device n k = refl

pub removes-seat : (n seat : ℕ) → removes_all (Edit.raise n ∷ Edit.remove_devices_of seat ∷ Edit.remove_seat seat ∷ []) ≡ true
unfolding removes_all
removes-seat n seat = refl

pub removes-seats : (n : ℕ) (ss : List Seat) → removes_all (Edit.raise n ∷ Edit.end_connection ∷ remove_seats ss) ≡ true
unfolding removes_all remove_seats
removes-seats n [] = refl
removes-seats n (s ∷ ss) = removes-seats n ss

sub-length : {A : Type 0} {xs ys : List A} → Sublistᴰ xs ys → length xs ≤ length ys
sub-length Sublistᴰ.slnil = le_refl _
sub-length (Sublistᴰ.cons s) = le_trans (sub-length s) (omega arith)
sub-length (Sublistᴰ.cons-cons e s) = suc-le-suc (sub-length s)

sub_all : {A : Type 0} {Q : A → Type 0} {xs ys : List A} → Sublistᴰ xs ys → All Q ys → All Q xs
sub_all {Q = Q} Sublistᴰ.slnil none = none
sub_all {Q = Q} (Sublistᴰ.cons s) (more q a) = sub_all s a
sub_all {Q = Q} (Sublistᴰ.cons-cons e s) (more q a) = more (subst Q (sym e) q) (sub_all s a)

and_left : (a b : Bool) → (a && b) ≡ true → a ≡ true
and_left true b h = refl
and_left false b h = h

and_right : (a b : Bool) → (a && b) ≡ true → b ≡ true
and_right true b h = h
and_right false b h = absurd (false≢true h)

interfaces_from-length : (id : ℕ) (bs : List ℕ) → length (interfaces_from id bs) ≡ length bs
unfolding interfaces_from
interfaces_from-length id [] = refl
interfaces_from-length id (b ∷ bs) = ap suc (interfaces_from-length (id + 1) bs)

pub interfaces-length : (id caps : ℕ) → length (new_interfaces id caps) ≡ length (bits_of caps)
unfolding new_interfaces
interfaces-length id caps = interfaces_from-length (id + 1) (bits_of caps)

module _ {P : Type 0} where
  -- how many requests wait on each device
  abbrev pub waiting : List (Device P) → List ℕ
  waiting ds = map (λ d. length d.pending) ds

  waiting_at : (f : Device P → Device P) (g : ℕ → ℕ) → ((d : Device P) → length (f d).pending ≡ g (length d.pending)) → (k : ℕ) (ds : List (Device P)) →
      waiting (at f k ds) ≡ change g k (waiting ds)
  unfolding at change
  waiting_at f g h k [] = refl
  waiting_at f g h zero (d ∷ ds) = ap (λ n. n ∷ waiting ds) (h d)
  waiting_at f g h (suc k) (d ∷ ds) = ap (λ r. length d.pending ∷ r) (waiting_at f g h k ds)

  length_at : (f : Device P → Device P) (k : ℕ) (ds : List (Device P)) → length (at f k ds) ≡ length ds
  unfolding at
  length_at f k [] = refl
  length_at f zero (d ∷ ds) = refl
  length_at f (suc k) (d ∷ ds) = ap suc (length_at f k ds)

  -- ---- texts

  pending_texts-append : (is js : List (Item P)) → pending_texts (is ++ js) ≡ pending_texts is + pending_texts js
  unfolding pending_texts
  pending_texts-append [] js = omega arith
  pending_texts-append (i ∷ is) js = omega (arith, pending_texts-append is js)

  devices_texts-append : (ds es : List (Device P)) → devices_texts (ds ++ es) ≡ devices_texts ds + devices_texts es
  unfolding devices_texts
  devices_texts-append [] es = omega arith
  devices_texts-append (d ∷ ds) es = omega (arith, devices_texts-append ds es)

  queued_texts-append : (rs qs : List (Queued P)) → queued_texts (rs ++ qs) ≡ queued_texts rs + queued_texts qs
  unfolding queued_texts
  queued_texts-append [] qs = omega arith
  queued_texts-append (Queued.timed d t i ∷ rs) qs = omega (arith, queued_texts-append rs qs)
  queued_texts-append (Queued.untimed u ∷ rs) qs = queued_texts-append rs qs

  amended-pending : (a : Amend) (d : Device P) → (amended a d).pending ≡ d.pending
  unfolding amended
  amended-pending (Amend.touch_down t) d = refl
  amended-pending (Amend.touch_up t) d = refl
  amended-pending Amend.clear_touches d = refl
  amended-pending (Amend.unlist cap) d = refl

  amend-texts : (a : Amend) (k : ℕ) (ds : List (Device P)) → devices_texts (at (amended a) k ds) ≡ devices_texts ds
  unfolding at devices_texts
  amend-texts a k [] = refl
  amend-texts a zero (d ∷ ds) = ap (λ is. pending_texts is + devices_texts ds) (amended-pending a d)
  amend-texts a (suc k) (d ∷ ds) = ap (λ n. pending_texts d.pending + n) (amend-texts a k ds)

  pend-texts : (i : Item P) (k : ℕ) (ds : List (Device P)) → k < length ds → devices_texts (at (pended i) k ds) ≡ devices_texts ds + texts i.kind
  unfolding at devices_texts pended
  pend-texts i k [] h = absurd (omega arith)
  pend-texts i zero (d ∷ ds) h = omega (arith, pending_texts-append d.pending (i ∷ []))
  pend-texts i (suc k) (d ∷ ds) h = omega (arith, pend-texts i k ds (le_of_suc-le-suc h))

  -- a frame moves texts, it makes none
  framed-texts : (d s t : ℕ) (is : List (Item P)) → queued_texts (framed d s t is) ≡ pending_texts is
  unfolding framed pending_texts queued_texts
  framed-texts d s t [] = refl
  framed-texts d s t (i ∷ is) = go (i ∷ is)
    where
      go : (js : List (Item P)) → queued_texts (map (λ x. Queued.timed d t x) js ++ (Queued.untimed (Untimed.Frame d s t) ∷ [])) ≡ pending_texts js
      go [] = refl
      go (j ∷ js) = ap (λ n. texts j.kind + n) (go js)

  frame-texts : (k s t : ℕ) (ds : List (Device P)) → devices_texts (at emptied k ds) + queued_texts (framed_at k s t ds) ≡ devices_texts ds
  unfolding at devices_texts framed_at emptied queued_texts
  frame-texts k s t [] = refl
  frame-texts zero s t (d ∷ ds) = omega (arith, framed-texts d.id s t d.pending)
  frame-texts (suc k) s t (d ∷ ds) = omega (arith, frame-texts k s t ds)

  sub-texts : {ds es : List (Device P)} → Sublistᴰ ds es → devices_texts ds ≤ devices_texts es
  unfolding devices_texts
  sub-texts Sublistᴰ.slnil = le_refl _
  sub-texts (Sublistᴰ.cons s) = omega (arith, sub-texts s)
  sub-texts (Sublistᴰ.cons-cons e s) = omega (arith, sub-texts s, ap (λ d. pending_texts d.pending) e)

  rest-texts : (rs : List (Queued P)) → queued_texts (rest rs) ≤ queued_texts rs
  unfolding rest queued_texts
  rest-texts [] = le_refl _
  rest-texts (Queued.timed d t i ∷ rs) = omega arith
  rest-texts (Queued.untimed u ∷ rs) = le_refl _

  rest-length : (rs : List (Queued P)) → length (rest rs) ≤ length rs
  unfolding rest
  rest-length [] = le_refl _
  rest-length (r ∷ rs) = omega arith

  framed_length_lem : (d s t : ℕ) (is : List (Item P)) → length (framed d s t is) ≡ framed_length (length is)
  unfolding framed framed_length
  framed_length_lem d s t [] = refl
  framed_length_lem d s t (i ∷ is) = rw (length-append (map (λ x. Queued.timed d t x) (i ∷ is)) _, length-map (i ∷ is) _)

  framed_at-length : (k s t : ℕ) (ds : List (Device P)) → length (framed_at k s t ds) ≡ framed_length (get_or (waiting ds) k 0)
  unfolding framed_at framed_length
  framed_at-length k s t [] = refl
  framed_at-length zero s t (d ∷ ds) = framed_length_lem d.id s t d.pending
  framed_at-length (suc k) s t (d ∷ ds) = framed_at-length k s t ds

  -- ---- what is counted after an edit

  pub counts-raise : (n : ℕ) (p : P) (s : Session P) → counts (enact (Edit.raise n) p s) ≡ counts s
  unfolding counts enact
  counts-raise n p s = refl

  pub counts-amend : (k : ℕ) (a : Amend) (p : P) (s : Session P) → counts (enact (Edit.amend k a) p s) ≡ counts s
  unfolding counts enact
  counts-amend k a p s =
      counted refl (length_at (amended a) k s.devices)
      (waiting_at (amended a) (λ n. n) (λ d. ap length (amended-pending a d)) k s.devices ∙ change-none k (waiting s.devices))
      refl (ap (λ n. n + queued_texts s.requests) (amend-texts a k s.devices)) refl

  pub counts-pend : (k : ℕ) (i : Sight) (p : P) (s : Session P) → k < length s.devices →
      counts (enact (Edit.pend k i) p s) ≡ after_pend k (texts i.kind) (counts s)
  unfolding counts enact after_pend
  counts-pend k i p s h =
      counted refl (length_at (pended (item i p)) k s.devices)
      (waiting_at (pended (item i p)) (λ n. n + 1) (λ d. length-append d.pending _) k s.devices)
      refl (omega (arith, pend-texts (item i p) k s.devices h)) refl

  pub counts-frame : (k serial time : ℕ) (p : P) (s : Session P) → counts (enact (Edit.frame k serial time) p s) ≡ after_frame k (counts s)
  unfolding counts enact after_frame
  counts-frame k serial time p s =
      let made = framed_at k serial time s.devices in
      counted refl (length_at emptied k s.devices) (waiting_at emptied (λ n. 0) (λ d. refl) k s.devices)
      (length-append s.requests made ∙ ap (λ n. length s.requests + n) (framed_at-length k serial time s.devices))
      (omega (arith, queued_texts-append s.requests made, frame-texts k serial time s.devices)) refl

  pub counts-queue : (r : Untimed) (p : P) (s : Session P) → counts (enact (Edit.queue r) p s) ≡ after_queue (counts s)
  unfolding counts enact after_queue
  counts-queue r p s =
      counted refl refl refl (length-append s.requests _) (omega (arith, queued_texts-append s.requests (Queued.untimed r ∷ []))) refl

  pub counts-add_seat : (caps : ℕ) (p : P) (s : Session P) → counts (enact (Edit.add_seat caps) p s) ≡ after_seat (counts s)
  unfolding counts enact after_seat
  counts-add_seat caps p s = counted (length-append s.connection.seats _) refl refl refl refl refl

  pub counts-add_device : (seat caps : ℕ) (p : P) (s : Session P) → counts (enact (Edit.add_device seat caps) p s) ≡ after_device (length (bits_of caps)) (counts s)
  unfolding counts enact after_device
  counts-add_device seat caps p s =
      let d = new_device s.connection.next_id seat caps in
      counted refl (length-append s.devices _) (map-append _ s.devices (d ∷ []))
      refl (omega (arith, devices_texts-append s.devices (d ∷ [])))
      (ap (λ n. s.connection.next_id + 1 + n) (interfaces-length s.connection.next_id caps))

  -- ---- edits that change nothing of what is counted

  quiet_one_lem : (e : Edit) (p : P) (s : Session P) → quiet_one e ≡ true → (counts (enact e p s) ≡ counts s) × (gave e s ≡ [])
  unfolding quiet_one gave enact counts
  quiet_one_lem (Edit.raise n) p s h = (counts-raise n p s, refl)
  quiet_one_lem (Edit.add_seat caps) p s h = absurd (false≢true h)
  quiet_one_lem (Edit.remove_seat seat) p s h = absurd (false≢true h)
  quiet_one_lem (Edit.add_device seat caps) p s h = absurd (false≢true h)
  quiet_one_lem (Edit.remove_device k) p s h = absurd (false≢true h)
  quiet_one_lem (Edit.remove_devices_of seat) p s h = absurd (false≢true h)
  quiet_one_lem (Edit.amend k a) p s h = (counts-amend k a p s, refl)
  quiet_one_lem (Edit.pend k i) p s h = absurd (false≢true h)
  quiet_one_lem (Edit.frame k serial time) p s h = absurd (false≢true h)
  quiet_one_lem (Edit.queue r) p s h = absurd (false≢true h)
  quiet_one_lem Edit.deliver p s h = absurd (false≢true h)
  quiet_one_lem (Edit.peer_object id) p s h = (refl, refl)
  quiet_one_lem Edit.end_connection p s h = (refl, refl)

  pub quiet : (es : List Edit) (p : P) (s : Session P) → quiet_all es ≡ true → (counts (enact_all es p s) ≡ counts s) × (gave_all es p s ≡ [])
  unfolding quiet_all enact_all gave_all
  quiet [] p s h = (refl, refl)
  quiet (e ∷ es) p s h =
      let a = quiet_one_lem e p s (and_left (quiet_one e) (quiet_all es) h) in
      let b = quiet es p (enact e p s) (and_right (quiet_one e) (quiet_all es) h) in
      (b.0 ∙ a.0, rw (a.1, b.1))

  -- a request pended after what changes the held touches
  pub pends : (amends : List Amend) (f : Found) (i : Sight) (p : P) (s : Session P) → f.slot < length s.devices →
      (counts (enact_all (pend_after amends f i).edits p s) ≡ after_pend f.slot (texts i.kind) (counts s)) × (gave_all (pend_after amends f i).edits p s ≡ [])
  unfolding pend_after enact_all gave_all
  pends [] f i p s h = (counts-pend f.slot i p s h, refl)
  pends (a ∷ others) f i p s h =
      let r = pends others f i p (enact (Edit.amend f.slot a) p s) (rw (length_at (amended a) f.slot s.devices) h) in
      (r.0 ∙ ap (after_pend f.slot (texts i.kind)) (counts-amend f.slot a p s), r.1)

  -- ---- edits that make nothing more of what is counted

  lessens_raise : (n : ℕ) (p : P) (s : Session P) → Lessens (counts s) (counts (enact (Edit.raise n) p s))
  unfolding counts enact
  lessens_raise n p s = lessens_same _

  lessens_devices : (ds : List (Device P)) (s : Session P) → Sublistᴰ ds s.devices → Lessens (counts s) (counts (with_devices ds s))
  unfolding counts with_devices
  lessens_devices ds s h =
      record {
        seats = le_refl _;
        devices = sub-length h;
        pending = sub_all (sub-map (λ d. length d.pending) h);
        queued = le_refl _;
        texts = omega (arith, sub-texts h);
        next_id = le_refl _;
      }

  lessens_remove_seat : (seat : ℕ) (p : P) (s : Session P) → Lessens (counts s) (counts (enact (Edit.remove_seat seat) p s))
  unfolding counts enact
  lessens_remove_seat seat p s =
      record {
        seats = sub-length (seats_without-sub seat s.connection.seats);
        devices = le_refl _;
        pending = λ a. a;
        queued = le_refl _;
        texts = le_refl _;
        next_id = le_refl _;
      }

  pub lessens_deliver : (p : P) (s : Session P) → Lessens (counts s) (counts (enact Edit.deliver p s))
  unfolding counts enact
  lessens_deliver p s =
      record {
        seats = le_refl _;
        devices = le_refl _;
        pending = λ a. a;
        queued = rest-length s.requests;
        texts = omega (arith, rest-texts s.requests);
        next_id = le_refl _;
      }

  removed_one : (e : Edit) (p : P) (s : Session P) → removes e ≡ true → Lessens (counts s) (counts (enact e p s)) × (gave e s ≡ [])
  unfolding removes enact gave counts
  removed_one (Edit.raise n) p s h = (lessens_raise n p s, refl)
  removed_one (Edit.add_seat caps) p s h = absurd (false≢true h)
  removed_one (Edit.remove_seat seat) p s h = (lessens_remove_seat seat p s, refl)
  removed_one (Edit.add_device seat caps) p s h = absurd (false≢true h)
  removed_one (Edit.remove_device k) p s h = (lessens_devices _ s (without_slot-sub k s.devices), refl)
  removed_one (Edit.remove_devices_of seat) p s h = (lessens_devices _ s (without_seat-sub seat s.devices), refl)
  removed_one (Edit.amend k a) p s h = absurd (false≢true h)
  removed_one (Edit.pend k i) p s h = absurd (false≢true h)
  removed_one (Edit.frame k serial time) p s h = absurd (false≢true h)
  removed_one (Edit.queue r) p s h = absurd (false≢true h)
  removed_one Edit.deliver p s h = absurd (false≢true h)
  removed_one (Edit.peer_object id) p s h = (lessens_same _, refl)
  removed_one Edit.end_connection p s h = (lessens_same _, refl)

  pub removed : (es : List Edit) (p : P) (s : Session P) → removes_all es ≡ true → Lessens (counts s) (counts (enact_all es p s)) × (gave_all es p s ≡ [])
  unfolding removes_all enact_all gave_all
  removed [] p s h = (lessens_same _, refl)
  removed (e ∷ es) p s h =
      let a = removed_one e p s (and_left (removes e) (removes_all es) h) in
      let b = removed es p (enact e p s) (and_right (removes e) (removes_all es) h) in
      (lessens_more a.0 b.0, rw (a.1, b.1))
