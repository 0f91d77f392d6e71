-- What was not negotiated is nowhere: a capability within the negotiated ones has a version, a new device lists such ones alone, and the edits of every plan
-- keep seats' sets and devices' lists within them. Assumes nothing.
use Prim.Native.Nat.{ℕ, zero, suc, ◌+◌, ◌-◌, ◌^◌, ◌<◌}
use mathlib.Core.Path.{◌≡◌, refl, ap, sym, ◌∙◌}
use mathlib.Core.Bool.{Bool, true, false, ◌&&◌, false≢true}
use mathlib.Core.List.{List, [], ◌∷◌, ◌++◌, Sublistᴰ}
use mathlib.Core.Option.{Option, none, some}
use native.Mathlib.Omega.{arith}
use lib.Dec.{eqb}
use lib.ListN.{get_or}
use borrow.Author.Tests.{eqb-true, eq-eqb}
use Rattle.eiproto.specs.Bits.{bit, bits_of, mask_from, every, contains, common}
use Rattle.eiproto.specs.Capability.{interface_of_bit}
use Rattle.eiproto.proofs.Bits.{every_append, common-part, part_contained, mask-small, mask_tested}
use Rattle.model.specs.Call.{Sight, Call}
use Rattle.model.specs.Session.{Interface, Seat, Device, Connection, Session, View, view}
use Rattle.model.specs.Edit.{Amend, Edit, interfaces_from, new_interfaces, amended, item, pended, emptied, new_device, at, enact, enact_all}
use Rattle.model.specs.Plan.{Plan, answer, ignore, edit, send}
use Rattle.model.specs.Decide.{Found, is_some, version, negotiated_capabilities, pend_after, send_next, send_destroyed, remove_seats, decide}
use Rattle.model.proofs.Removals.{interfaces_without-sub, seats_without-sub, without_slot-sub, without_seat-sub}
use Rattle.model.proofs.ReachableHeld.{both}
use Rattle.model.proofs.Leaves.{Noted, Touched, Leaf}
use Rattle.model.proofs.Walk.{walk}

-- ---- the negotiated capabilities

some_of : (o : Option ℕ) → is_some o ≡ true → (v : ℕ) × (o ≡ some v)
unfolding is_some
some_of none h = absurd (false≢true h)
some_of (some v) h = (v, refl)

module _ (c : Connection) where
  pub has-version : (b : ℕ) → bit b (negotiated_capabilities c) ≡ true → (v : ℕ) × (version c (interface_of_bit b) ≡ some v)
  unfolding negotiated_capabilities
  has-version b h =
      let z : 0 + b ≡ b = omega arith in
      some_of (version c (interface_of_bit b)) (ap (λ x. is_some (version c (interface_of_bit x))) (sym z) ∙ mask_tested 7 0 b (λ x. is_some (version c (interface_of_bit x))) h)

  negotiated-small : negotiated_capabilities c < 2 ^ 64
  unfolding negotiated_capabilities
  negotiated-small = omega (arith, mask-small 7 0 (λ x. is_some (version c (interface_of_bit x))))

  -- what is cut down to them is within them
  pub cut_within : (caps : ℕ) → common (common caps (negotiated_capabilities c)) (negotiated_capabilities c) ≡ common caps (negotiated_capabilities c)
  cut_within caps = common-part caps (negotiated_capabilities c) negotiated-small

  cut_part : (caps : ℕ) → let cut = common caps (negotiated_capabilities c) in eqb (common cut (negotiated_capabilities c)) cut && true ≡ true
  cut_part caps = rw (eq-eqb _ _ (cut_within caps))

-- the interfaces' capabilities are among those of a mask
abbrev pub Among : (mask : ℕ) → List Interface → Type 0
Among m is = every (λ i. bit i.capability m) is ≡ true

from_among : (m id : ℕ) (bs : List ℕ) → every (λ b. bit b m) bs ≡ true → Among m (interfaces_from id bs)
unfolding interfaces_from every
from_among m id [] h = h
from_among m id (b ∷ bs) h = let p = both (bit b m) (every (λ b. bit b m) bs) h in rw p.0 (from_among m (id + 1) bs p.1)

pub new_among : (m id caps : ℕ) → common caps m ≡ caps → Among m (new_interfaces id caps)
unfolding new_interfaces contains
new_among m id caps h = from_among m (id + 1) (bits_of caps) (part_contained m caps h)

-- those of a device that is added
pub added-among : (c : Connection) (id caps : ℕ) → Among (negotiated_capabilities c) (new_interfaces id (common caps (negotiated_capabilities c)))
added-among c id caps = new_among (negotiated_capabilities c) id (common caps (negotiated_capabilities c)) (cut_within c caps)

-- ---- a session within a mask

module _ {A : Type 0} (f : A → Bool) where
  every-sub : {xs ys : List A} → Sublistᴰ xs ys → every f ys ≡ true → every f xs ≡ true
  unfolding every
  every-sub Sublistᴰ.slnil h = h
  every-sub {ys = y ∷ ys} (Sublistᴰ.cons s) h = every-sub s (both (f y) (every f ys) h).1
  every-sub {ys = y ∷ ys} (Sublistᴰ.cons-cons e s) h = let p = both (f y) (every f ys) h in rw (ap f e, p.0) (every-sub s p.1)

  every_more : (xs : List A) (y : A) → every f xs ≡ true → f y ≡ true → every f (xs ++ (y ∷ [])) ≡ true
  unfolding every
  every_more xs y h q = every_append f xs (y ∷ []) ∙ rw (h, q)

pub every_map : {A : Type 0} {f g : A → Bool} → ((x : A) → f x ≡ true → g x ≡ true) → (xs : List A) → every f xs ≡ true → every g xs ≡ true
unfolding every
every_map k [] h = h
every_map {f = f} k (x ∷ xs) h = let p = both (f x) (every f xs) h in rw (k x p.0) (every_map k xs p.1)

module _ {P : Type 0} where
  every_at : (f : Device P → Bool) (g : Device P → Device P) → ((d : Device P) → f d ≡ true → f (g d) ≡ true) → (k : ℕ) (ds : List (Device P)) →
      every f ds ≡ true → every f (at g k ds) ≡ true
  unfolding every at
  every_at f g h k [] e = e
  every_at f g h zero (d ∷ ds) e = let p = both (f d) (every f ds) e in rw (h d p.0) p.1
  every_at f g h (suc k) (d ∷ ds) e = let p = both (f d) (every f ds) e in rw p.0 (every_at f g h k ds p.1)

module _ (m : ℕ) where
  abbrev part : ℕ → Bool
  part caps = eqb (common caps m) caps

  abbrev among : List Interface → Bool
  among is = every (λ i. bit i.capability m) is

  pub record Within {P : Type 0} (s : Session P) : Type 0 where
    pub seats : every (λ x. part x.capabilities) s.connection.seats ≡ true
    pub devices : every (λ d. among d.interfaces) s.devices ≡ true

  -- an edit that adds nothing else
  unfoldable within : Edit → Bool
  within (Edit.raise n) = true
  within (Edit.add_seat caps) = part caps
  within (Edit.remove_seat seat) = true
  within (Edit.add_device seat caps) = part caps
  within (Edit.remove_device k) = true
  within (Edit.remove_devices_of seat) = true
  within (Edit.amend k a) = true
  within (Edit.pend k sight) = true
  within (Edit.frame k serial time) = true
  within (Edit.queue r) = true
  within Edit.deliver = true
  within (Edit.peer_object id) = true
  within Edit.end_connection = true

  module _ {P : Type 0} where
    amended-among : (a : Amend) (d : Device P) → among d.interfaces ≡ true → among (amended a d).interfaces ≡ true
    unfolding amended
    amended-among (Amend.touch_down t) d h = h
    amended-among (Amend.touch_up t) d h = h
    amended-among Amend.clear_touches d h = h
    amended-among (Amend.unlist cap) d h = every-sub (λ i. bit i.capability m) (interfaces_without-sub cap d.interfaces) h

    edit-within : (e : Edit) (p : P) (s : Session P) → within e ≡ true → Within s → Within (enact e p s)
    unfolding enact within
    edit-within (Edit.raise n) p s h w = record { seats = w.seats; devices = w.devices }
    edit-within (Edit.add_seat caps) p s h w = record { seats = every_more (λ x. part x.capabilities) s.connection.seats _ w.seats h; devices = w.devices }
    edit-within (Edit.remove_seat seat) p s h w =
        record { seats = every-sub (λ x. part x.capabilities) (seats_without-sub seat s.connection.seats) w.seats; devices = w.devices }
    edit-within (Edit.add_device seat caps) p s h w =
        record {
          seats = w.seats;
          devices = every_more (λ d. among d.interfaces) s.devices (new_device s.connection.next_id seat caps) w.devices
              (new_among m s.connection.next_id caps (eqb-true (common caps m) caps h));
        }
    edit-within (Edit.remove_device k) p s h w =
        record { seats = w.seats; devices = every-sub (λ d. among d.interfaces) (without_slot-sub k s.devices) w.devices }
    edit-within (Edit.remove_devices_of seat) p s h w =
        record { seats = w.seats; devices = every-sub (λ d. among d.interfaces) (without_seat-sub seat s.devices) w.devices }
    edit-within (Edit.amend k a) p s h w =
        record { seats = w.seats; devices = every_at (λ d. among d.interfaces) (amended a) (amended-among a) k s.devices w.devices }
    edit-within (Edit.pend k sight) p s h w =
        record { seats = w.seats; devices = every_at (λ d. among d.interfaces) (pended (item sight p)) (λ d q. q) k s.devices w.devices }
    edit-within (Edit.frame k serial time) p s h w =
        record { seats = w.seats; devices = every_at (λ d. among d.interfaces) emptied (λ d q. q) k s.devices w.devices }
    edit-within (Edit.queue r) p s h w = record { seats = w.seats; devices = w.devices }
    edit-within Edit.deliver p s h w = record { seats = w.seats; devices = w.devices }
    edit-within (Edit.peer_object id) p s h w = record { seats = w.seats; devices = w.devices }
    edit-within Edit.end_connection p s h w = record { seats = w.seats; devices = w.devices }

    edits-within : (es : List Edit) (p : P) (s : Session P) → every within es ≡ true → Within s → Within (enact_all es p s)
    unfolding enact_all every
    edits-within [] p s h w = w
    edits-within (e ∷ es) p s h w = let q = both (within e) (every within es) h in edits-within es p (enact e p s) q.1 (edit-within e p s q.0 w)

  -- ---- the plans

  remove_seats-within : (ss : List Seat) → every within (remove_seats ss) ≡ true
  unfolding remove_seats every within
  remove_seats-within [] = refl
  remove_seats-within (s ∷ ss) = remove_seats-within ss

  noted-within : {edits : List Edit} → Noted edits → every within edits ≡ true
  unfolding every within
  noted-within Noted.nothing = refl
  noted-within (Noted.clears k) = refl

  pend-within : (f : Found) (y : Sight) {held : List ℕ} {amends : List Amend} → Touched held y.touch amends → every within (pend_after amends f y).edits ≡ true
  unfolding pend_after edit every within
  pend-within f y Touched.same = refl
  pend-within f y (Touched.down few) = refl
  pend-within f y Touched.up = refl

leaf_within : {v : View} {now : ℕ} {c : Call Sight} {plan : Plan} → Leaf v now c plan → every (within (negotiated_capabilities v.connection)) plan.edits ≡ true
unfolding answer ignore edit send send_next send_destroyed every within
leaf_within (Leaf.turned o h m) = refl
leaf_within (Leaf.passed h) = refl
leaf_within {v} (Leaf.pended {x = y} f amends e g t) = pend-within (negotiated_capabilities v.connection) f y t
leaf_within (Leaf.answered o m) = refl
leaf_within (Leaf.synced callback) = refl
leaf_within (Leaf.synced_message callback) = refl
leaf_within {v} (Leaf.noted object event edits m h) = noted-within (negotiated_capabilities v.connection) h
leaf_within (Leaf.released cap id f e) = refl
leaf_within (Leaf.device_gone id f r e) = refl
leaf_within (Leaf.seat_gone id y r e) = refl
leaf_within {v} (Leaf.all_gone reason explanation r) = remove_seats-within (negotiated_capabilities v.connection) v.connection.seats
leaf_within (Leaf.queued u n) = refl
leaf_within (Leaf.flushed id f u n k e) = refl
leaf_within (Leaf.closed id serial time f k e) = refl
leaf_within Leaf.handed = refl
leaf_within {v} (Leaf.new_seat name caps) = cut_part v.connection caps
leaf_within {v} (Leaf.new_device seat name type both) = cut_part v.connection both

-- ---- the versions

same_capabilities : (c d : Connection) → c.versions ≡ d.versions → negotiated_capabilities c ≡ negotiated_capabilities d
unfolding negotiated_capabilities version
same_capabilities c d e = ap (λ vs. mask_from 7 0 (λ b. is_some (get_or vs (interface_of_bit b - 1) none))) e

module _ {P : Type 0} where
  edit-versions : (e : Edit) (p : P) (s : Session P) → (enact e p s).connection.versions ≡ s.connection.versions
  unfolding enact
  edit-versions (Edit.raise n) p s = refl
  edit-versions (Edit.add_seat caps) p s = refl
  edit-versions (Edit.remove_seat seat) p s = refl
  edit-versions (Edit.add_device seat caps) p s = refl
  edit-versions (Edit.remove_device k) p s = refl
  edit-versions (Edit.remove_devices_of seat) p s = refl
  edit-versions (Edit.amend k a) p s = refl
  edit-versions (Edit.pend k sight) p s = refl
  edit-versions (Edit.frame k serial time) p s = refl
  edit-versions (Edit.queue r) p s = refl
  edit-versions Edit.deliver p s = refl
  edit-versions (Edit.peer_object id) p s = refl
  edit-versions Edit.end_connection p s = refl

  pub edits-versions : (es : List Edit) (p : P) (s : Session P) → (enact_all es p s).connection.versions ≡ s.connection.versions
  unfolding enact_all
  edits-versions [] p s = refl
  edits-versions (e ∷ es) p s = edits-versions es p (enact e p s) ∙ edit-versions e p s

  -- within what was negotiated
  abbrev pub Negotiated : Session P → Type 0
  Negotiated s = Within (negotiated_capabilities s.connection) s

  pub decided-negotiated : (now : ℕ) (c : Call Sight) (p : P) (s : Session P) → Negotiated s → Negotiated (enact_all (decide (view s) now c).edits p s)
  unfolding view
  decided-negotiated now c p s w =
      let es = (decide (view s) now c).edits in
      rw (same_capabilities (enact_all es p s).connection s.connection (edits-versions es p s))
      (edits-within (negotiated_capabilities s.connection) es p s (leaf_within (walk (view s) now c)) w)
