-- In every plan the ids that are given and those that stood before it are those that are destroyed and those that stand after it: by the plans that there are
-- (Leaves). Assumes nothing.
use Prim.Native.Nat.{ℕ, zero, suc, ◌+◌, ◌<◌}
use mathlib.Core.Path.{◌≡◌, refl, ap, sym, ◌∙◌}
use mathlib.Core.Bool.{Bool, true, false, ◌&&◌, ◌||◌, cond, false≢true}
use mathlib.Core.List.{List, [], ◌∷◌, ◌++◌, map, map-append, append_assoc, append-nil}
use mathlib.Core.Option.{Option, none, some}
use native.Mathlib.Omega.{arith}
use lib.Dec.{eqb}
use lib.ListN.{length}
use borrow.Author.Tests.{eq-eqb, ne_eqb, eqb-true}
use Rattle.eiproto.specs.Bits.{bits_of, common}
use Rattle.eiproto.specs.Capability.{interface_of_bit}
use Rattle.utf8.proofs.Rules.{never_some}
use Rattle.wire.specs.declared.event.Event.{Event}
use Rattle.wire.specs.Record.{layout}
use Rattle.model.specs.Call.{Sight, Call}
use Rattle.model.specs.Session.{Interface, Seat, Device, Connection, Session, map_device, blank, view}
use Rattle.model.specs.Edit.{Amend, Edit, next_serial, new_interfaces, interfaces_without, seats_without, amended, item, pended, emptied, new_device, at, without_slot, without_seat, enact, enact_all}
use Rattle.model.specs.Plan.{Sent, on, Result, Plan, answer, ignore, edit, send}
use Rattle.model.specs.Decide.{Found, version, negotiated_capabilities, device_version, later, find, device_of, lists_as, device_for_interface, seat_in, seat_of, pend_after, send_next, name_events, capability_events, interface_event, interface_events, destroyed, objects_of, devices_objects, seat_objects, seats_objects, send_destroyed, device_added, remove_seats}
use Rattle.model.specs.Reachable.{count_of, seat_ids, device_ids, interface_ids_in, new_ids}
use Rattle.model.specs.Destroyed.{destroyed_of, standing}
use Rattle.model.proofs.All.{All, more}
use Rattle.model.proofs.Finding.{found-holds}
use Rattle.model.proofs.Ascending.{Between, next}
use Rattle.model.proofs.ReachableOrder.{ids_of, object_ids, objects_new}
use Rattle.model.proofs.ReachableBits.{bits_in, ByBit}
use Rattle.model.proofs.ReachableHeld.{both}
use Rattle.model.proofs.ReachablePlans.{device_ids_lem, modest-ids}
use Rattle.model.proofs.Reachable.{Sound}
use Rattle.model.proofs.Cut.{added-among}
use Rattle.model.proofs.Leaves.{Noted, Touched, Leaf}
use Rattle.model.proofs.Lists.{count-append}

-- ---- counts

module _ (x : ℕ) where
  count-last : (xs : List ℕ) (y : ℕ) → count_of x (xs ++ (y ∷ [])) ≡ count_of x (y ∷ xs)
  unfolding count_of
  count-last xs y = omega (arith, count-append x xs (y ∷ []))

-- ---- the events

destroyed_is : (s : ℕ) (os : List ℕ) → destroyed_of (destroyed s os) ≡ os
unfolding destroyed_of destroyed
destroyed_is s [] = refl
destroyed_is s (o ∷ os) = ap (λ r. o ∷ r) (destroyed_is (next_serial s) os)

destroyed-append : (es fs : List Sent) → destroyed_of (es ++ fs) ≡ destroyed_of es ++ destroyed_of fs
unfolding destroyed_of
destroyed-append [] fs = refl
destroyed-append (e ∷ es) fs =
    rw (destroyed-append es fs) (sym (append_assoc (cond (eqb (layout e.event).kind 5) (e.object ∷ []) []) (destroyed_of es) (destroyed_of fs)))

-- what announces something destroys nothing
name_mild : (object : ℕ) (name : Option (List ℕ)) (es : List Sent) → destroyed_of (name_events object name ++ es) ≡ destroyed_of es
unfolding name_events destroyed_of
name_mild object none es = refl
name_mild object (some text) es = refl

capabilities_mild : (seat : ℕ) (bs : List ℕ) (es : List Sent) → destroyed_of (capability_events seat bs ++ es) ≡ destroyed_of es
unfolding capability_events destroyed_of
capabilities_mild seat [] es = refl
capabilities_mild seat (b ∷ bs) es = capabilities_mild seat bs es

interfaces_mild : (c : Connection) (d : ℕ) (is : List Interface) (es : List Sent) → destroyed_of (interface_events c d is ++ es) ≡ destroyed_of es
unfolding interface_events interface_event destroyed_of
interfaces_mild c d [] es = refl
interfaces_mild c d (i ∷ is) es = go (version c (interface_of_bit i.capability)) (interfaces_mild c d is es)
  where
    go : (o : Option ℕ) → destroyed_of (interface_events c d is ++ es) ≡ destroyed_of es → destroyed_of ((interface_event d i o ++ interface_events c d is) ++ es) ≡ destroyed_of es
    go none h = h
    go (some v) h = h

device_mild : (id seat ver type : ℕ) (name : Option (List ℕ)) (c : Connection) (is : List Interface) →
    destroyed_of (on seat (Event.Device id ver) ∷ name_events id name ++ (on id (Event.DeviceType type) ∷ interface_events c id is ++ (on id Event.Done ∷ []))) ≡ []
unfolding destroyed_of
device_mild id seat ver type name c is = name_mild id name _ ∙ interfaces_mild c id is (on id Event.Done ∷ [])

-- ---- the tables

-- edits that leave every id where it is
unfoldable still : Edit → Bool
still (Edit.raise n) = true
still (Edit.add_seat caps) = false
still (Edit.remove_seat seat) = false
still (Edit.add_device seat caps) = false
still (Edit.remove_device k) = false
still (Edit.remove_devices_of seat) = false
still (Edit.amend k (Amend.touch_down t)) = true
still (Edit.amend k (Amend.touch_up t)) = true
still (Edit.amend k Amend.clear_touches) = true
still (Edit.amend k (Amend.unlist cap)) = false
still (Edit.pend k sight) = true
still (Edit.frame k serial time) = true
still (Edit.queue r) = true
still Edit.deliver = true
still (Edit.peer_object id) = true
still Edit.end_connection = true

unfoldable all_still : List Edit → Bool
unfolding still
all_still [] = true
all_still (e ∷ es) = still e && all_still es

-- interfaces of higher capabilities
none-without : {low high : ℕ} (cap : ℕ) (is : List Interface) → cap < low → Between low (bits_in is) high → interfaces_without cap is ≡ is
unfolding interfaces_without
none-without cap [] l b = refl
none-without {low = low} {high = high} cap (i ∷ is) l (next k b) = rw (ne_eqb i.capability cap (λ e. omega arith), none-without {low = i.capability + 1} cap is (omega arith) b)

none-listed : {low high : ℕ} (cap id : ℕ) (is : List Interface) → cap < low → Between low (bits_in is) high → lists_as cap id is ≡ false
unfolding lists_as
none-listed cap id [] l b = refl
none-listed {low = low} {high = high} cap id (i ∷ is) l (next k b) = rw (ne_eqb i.capability cap (λ e. omega arith)) (none-listed {low = i.capability + 1} cap id is (omega arith) b)

found_here : (here later : Bool) → later ≡ false → here || later ≡ true → here ≡ true
found_here true later q e = refl
found_here false later q e = sym q ∙ e

module _ (x : ℕ) where
  -- a seat that is found
  place_taken : (seat : ℕ) (ss : List Seat) (y : Seat) → seat_in seat ss ≡ some y →
      count_of x (map (λ s. s.id) ss) ≡ count_of x (seat ∷ []) + count_of x (map (λ s. s.id) (seats_without seat ss))
  unfolding seat_in seats_without count_of
  place_taken seat [] y e = never_some e
  place_taken seat (s ∷ ss) y e = go (eqb s.id seat) refl e (λ q. place_taken seat ss y q)
    where
      go : (b : Bool) → eqb s.id seat ≡ b → cond b (some s) (seat_in seat ss) ≡ some y →
          (seat_in seat ss ≡ some y → count_of x (map (λ t. t.id) ss) ≡ count_of x (seat ∷ []) + count_of x (map (λ t. t.id) (seats_without seat ss))) →
          count_of x (s.id ∷ map (λ t. t.id) ss) ≡ count_of x (seat ∷ []) + count_of x (map (λ t. t.id) (cond b ss (s ∷ seats_without seat ss)))
      go true q e h = rw (eqb-true s.id seat q) (omega arith)
      go false q e h = omega (arith, h e)

  -- an interface that is listed
  unlisted-ids : {low high : ℕ} (cap id : ℕ) (is : List Interface) → Between low (bits_in is) high → lists_as cap id is ≡ true →
      count_of x (ids_of is) ≡ count_of x (id ∷ []) + count_of x (ids_of (interfaces_without cap is))
  unfolding lists_as interfaces_without count_of
  unlisted-ids cap id [] b e = absurd (false≢true e)
  unlisted-ids {low = low} {high = high} cap id (i ∷ is) (next l b) e = go (eqb i.capability cap) refl e (λ q. unlisted-ids {low = i.capability + 1} cap id is b q)
    where
      go : (t : Bool) → eqb i.capability cap ≡ t → (t && eqb i.id id) || lists_as cap id is ≡ true →
          (lists_as cap id is ≡ true → count_of x (ids_of is) ≡ count_of x (id ∷ []) + count_of x (ids_of (interfaces_without cap is))) →
          count_of x (i.id ∷ ids_of is) ≡ count_of x (id ∷ []) + count_of x (ids_of (cond t [] (i ∷ []) ++ interfaces_without cap is))
      go true q e h =
          let far : cap < i.capability + 1 = omega (arith, eqb-true i.capability cap q) in
          rw (none-without cap is far b, eqb-true i.id id (found_here (eqb i.id id) (lists_as cap id is) (none-listed cap id is far b) e)) (omega arith)
      go false q e h = omega (arith, h e)

module _ {P : Type 0} where
  ids_at : (f : Device P → Device P) → ((d : Device P) → ((f d).id ∷ ids_of (f d).interfaces) ≡ (d.id ∷ ids_of d.interfaces)) → (k : ℕ) (ds : List (Device P)) →
      object_ids (at f k ds) ≡ object_ids ds
  unfolding object_ids at
  ids_at f h k [] = refl
  ids_at f h zero (d ∷ ds) = ap (λ r. r ++ object_ids ds) (h d)
  ids_at f h (suc k) (d ∷ ds) = ap (λ r. (d.id ∷ ids_of d.interfaces) ++ r) (ids_at f h k ds)

module _ {P : Type 0} (x : ℕ) where
  unfoldable pub alive : Session P → ℕ
  alive s = count_of x (seat_ids s) + count_of x (object_ids s.devices)

  -- each id once: those of devices and those of interfaces
  objects-count : (ds : List (Device P)) → count_of x (object_ids ds) ≡ count_of x (map (λ d. d.id) ds) + count_of x (interface_ids_in ds)
  unfolding object_ids interface_ids_in count_of
  objects-count [] = refl
  objects-count (d ∷ ds) =
      omega (arith, count-append x (ids_of d.interfaces) (object_ids ds), count-append x (ids_of d.interfaces) (interface_ids_in ds), objects-count ds)

  pub alive-standing : (s : Session P) → alive s ≡ standing x s
  unfolding alive standing device_ids
  alive-standing s = omega (arith, objects-count s.devices)

  edit-still : (e : Edit) (p : P) (s : Session P) → still e ≡ true → alive (enact e p s) ≡ alive s
  unfolding still alive seat_ids enact amended
  edit-still (Edit.raise n) p s h = refl
  edit-still (Edit.add_seat caps) p s h = absurd (false≢true h)
  edit-still (Edit.remove_seat seat) p s h = absurd (false≢true h)
  edit-still (Edit.add_device seat caps) p s h = absurd (false≢true h)
  edit-still (Edit.remove_device k) p s h = absurd (false≢true h)
  edit-still (Edit.remove_devices_of seat) p s h = absurd (false≢true h)
  edit-still (Edit.amend k (Amend.touch_down t)) p s h = rw (ids_at (amended (Amend.touch_down t)) (λ d. refl) k s.devices)
  edit-still (Edit.amend k (Amend.touch_up t)) p s h = rw (ids_at (amended (Amend.touch_up t)) (λ d. refl) k s.devices)
  edit-still (Edit.amend k Amend.clear_touches) p s h = rw (ids_at (amended Amend.clear_touches) (λ d. refl) k s.devices)
  edit-still (Edit.amend k (Amend.unlist cap)) p s h = absurd (false≢true h)
  edit-still (Edit.pend k sight) p s h = rw (ids_at (pended (item sight p)) (λ d. refl) k s.devices)
  edit-still (Edit.frame k serial time) p s h = rw (ids_at emptied (λ d. refl) k s.devices)
  edit-still (Edit.queue r) p s h = refl
  edit-still Edit.deliver p s h = refl
  edit-still (Edit.peer_object id) p s h = refl
  edit-still Edit.end_connection p s h = refl

  edits-still : (es : List Edit) (p : P) (s : Session P) → all_still es ≡ true → alive (enact_all es p s) ≡ alive s
  unfolding all_still enact_all
  edits-still [] p s h = refl
  edits-still (e ∷ es) p s h = let b = both (still e) (all_still es) h in edits-still es p (enact e p s) b.1 ∙ edit-still e p s b.0

  -- ---- what goes

  -- the device that a search found, with its interfaces
  found-taken : (test : Device (Unit {0}) → Bool) (ds : List (Device P)) (f : Found) → find test (map (map_device blank) ds) ≡ some f →
      count_of x (object_ids ds) ≡ count_of x (objects_of f.device) + count_of x (object_ids (without_slot f.slot ds))
  unfolding map_device objects_of without_slot object_ids
  found-taken test ds f e =
      found-holds test (λ es g. count_of x (object_ids es) ≡ count_of x (objects_of g.device) + count_of x (object_ids (without_slot g.slot es)))
      (λ d es t. let own = ids_of d.interfaces in omega (arith, count-append x (d.id ∷ own) (object_ids es), count-last x own d.id))
      (λ d es g h.
      let own = d.id ∷ ids_of d.interfaces in
      omega (arith, h, count-append x own (object_ids es), count-append x own (object_ids (without_slot g.slot es))))
      ds f e

  -- the devices of a seat
  seat-taken : (seat : ℕ) (ds : List (Device P)) →
      count_of x (object_ids ds) ≡ count_of x (devices_objects seat (map (map_device blank) ds)) + count_of x (object_ids (without_seat seat ds))
  unfolding devices_objects objects_of without_seat object_ids map_device count_of
  seat-taken seat [] = omega arith
  seat-taken seat (d ∷ ds) = go (eqb d.seat seat) (seat-taken seat ds)
    where
      own : List ℕ
      own = ids_of d.interfaces

      go : (b : Bool) → count_of x (object_ids ds) ≡ count_of x (devices_objects seat (map (map_device blank) ds)) + count_of x (object_ids (without_seat seat ds)) →
          count_of x ((d.id ∷ own) ++ object_ids ds)
          ≡ count_of x (cond b (own ++ (d.id ∷ [])) [] ++ devices_objects seat (map (map_device blank) ds)) + count_of x (object_ids (cond b [] (d ∷ []) ++ without_seat seat ds))
      go true h =
          omega (
            arith,
            count-append x (d.id ∷ own) (object_ids ds),
            count-append x (own ++ (d.id ∷ [])) (devices_objects seat (map (map_device blank) ds)),
            count-last x own d.id,
          )
      go false h = omega (arith, count-append x (d.id ∷ own) (object_ids ds), count-append x (d.id ∷ own) (object_ids (without_seat seat ds)))

  -- the devices of other seats stay
  others_stay : (seat other : ℕ) (ds : List (Device P)) → (seat ≡ other → ⊥) →
      devices_objects other (map (map_device blank) (without_seat seat ds)) ≡ devices_objects other (map (map_device blank) ds)
  unfolding devices_objects without_seat map_device
  others_stay seat other [] n = refl
  others_stay seat other (d ∷ ds) n = go (eqb d.seat seat) refl (others_stay seat other ds n)
    where
      go : (b : Bool) → eqb d.seat seat ≡ b →
          devices_objects other (map (map_device blank) (without_seat seat ds)) ≡ devices_objects other (map (map_device blank) ds) →
          devices_objects other (map (map_device blank) (cond b [] (d ∷ []) ++ without_seat seat ds))
          ≡ cond (eqb d.seat other) (objects_of (map_device blank d)) [] ++ devices_objects other (map (map_device blank) ds)
      go true q h = rw (ne_eqb d.seat other (λ r. n (sym (eqb-true d.seat seat q) ∙ r))) h
      go false q h = ap (λ r. cond (eqb d.seat other) (objects_of (map_device blank d)) [] ++ r) h

  seats_stay : {low high : ℕ} (seat : ℕ) (ss : List Seat) (ds : List (Device P)) → seat < low → Between low (map (λ s. s.id) ss) high →
      seats_objects ss (map (map_device blank) (without_seat seat ds)) ≡ seats_objects ss (map (map_device blank) ds)
  unfolding seats_objects seat_objects
  seats_stay seat [] ds l b = refl
  seats_stay {low = low} {high = high} seat (s ∷ ss) ds l (next k b) =
      rw (others_stay seat s.id ds (λ e. omega arith), seats_stay {low = s.id + 1} seat ss ds (omega arith) b)

  -- every seat with its devices
  all_taken : {low high : ℕ} (ss : List Seat) (p : P) (s : Session P) → s.connection.seats ≡ ss → Between low (map (λ t. t.id) ss) high →
      alive s ≡ count_of x (seats_objects ss (map (map_device blank) s.devices)) + alive (enact_all (remove_seats ss) p s)
  unfolding alive seat_ids seats_objects seat_objects remove_seats enact_all enact seats_without count_of
  all_taken [] p s e b = omega arith
  all_taken {low = low} {high = high} (t ∷ ss) p s e (next l b) =
      let ds = map (map_device blank) s.devices in
      let s' = enact (Edit.remove_seat t.id) p (enact (Edit.remove_devices_of t.id) p s) in
      let seats : s'.connection.seats ≡ ss = ap (seats_without t.id) e ∙ ap (λ q. cond q ss (t ∷ seats_without t.id ss)) (eq-eqb t.id t.id refl) in
      let h = all_taken {low = t.id + 1} ss p s' seats b in
      let same = seats_stay t.id ss s.devices (omega arith) b in
      let ids : seat_ids s ≡ t.id ∷ map (λ y. y.id) ss = ap (map (λ y. y.id)) e in
      let ids' : seat_ids s' ≡ map (λ y. y.id) ss = ap (map (λ y. y.id)) seats in
      omega (
        arith,
        h,
        ap (count_of x) same,
        ap (count_of x) ids,
        ap (count_of x) ids',
        seat-taken t.id s.devices,
        count-append x (devices_objects t.id ds ++ (t.id ∷ [])) (seats_objects ss ds),
        count-append x (devices_objects t.id ds) (t.id ∷ []),
      )

  -- the interface that a search found
  found-unlisted : (cap id : ℕ) (ds : List (Device P)) (f : Found) → All ByBit ds → find (λ d. lists_as cap id d.interfaces) (map (map_device blank) ds) ≡ some f →
      count_of x (object_ids ds) ≡ count_of x (id ∷ []) + count_of x (object_ids (at (amended (Amend.unlist cap)) f.slot ds))
  unfolding map_device amended at object_ids count_of
  found-unlisted cap id ds f a e =
      found-holds (λ d. lists_as cap id d.interfaces)
      (λ es g. All ByBit es → count_of x (object_ids es) ≡ count_of x (id ∷ []) + count_of x (object_ids (at (amended (Amend.unlist cap)) g.slot es)))
      here past ds f e a
    where
      here : (d : Device P) (es : List (Device P)) → lists_as cap id d.interfaces ≡ true → All ByBit (d ∷ es) →
          count_of x (object_ids (d ∷ es)) ≡ count_of x (id ∷ []) + count_of x (object_ids (amended (Amend.unlist cap) d ∷ es))
      here d es t (more b a) =
          omega (
            arith,
            unlisted-ids x cap id d.interfaces b t,
            count-append x (ids_of d.interfaces) (object_ids es),
            count-append x (ids_of (interfaces_without cap d.interfaces)) (object_ids es),
          )

      past : (d : Device P) (es : List (Device P)) (g : Found) →
          (All ByBit es → count_of x (object_ids es) ≡ count_of x (id ∷ []) + count_of x (object_ids (at (amended (Amend.unlist cap)) g.slot es))) →
          All ByBit (d ∷ es) → count_of x (object_ids (d ∷ es)) ≡ count_of x (id ∷ []) + count_of x (object_ids (d ∷ at (amended (Amend.unlist cap)) g.slot es))
      past d es g h (more b a) =
          let own = d.id ∷ ids_of d.interfaces in
          omega (arith, h a, count-append x own (object_ids es), count-append x own (object_ids (at (amended (Amend.unlist cap)) g.slot es)))

-- ---- the plans

module _ {P : Type 0} (x : ℕ) where
  module _ (s : Session P) (p : P) (ok : Sound s) where
    -- what is given, and what stood, is what is destroyed, and what stands then
    pub record AddsUp (plan : Plan) : Type 0 where
      pub sum : count_of x (new_ids plan.outcome plan.events) + alive x s ≡ count_of x (destroyed_of plan.events) + alive x (enact_all plan.edits p s)

    -- nothing given, nothing destroyed
    calm : (plan : Plan) → new_ids plan.outcome plan.events ≡ [] → destroyed_of plan.events ≡ [] → all_still plan.edits ≡ true → AddsUp plan
    unfolding count_of
    calm plan n d h = record { sum = rw (n, d) (omega (arith, edits-still x plan.edits p s h)) }

    answer-adds : (o : Result) → new_ids o [] ≡ [] → AddsUp (answer o)
    unfolding answer destroyed_of all_still
    answer-adds o h = calm (answer o) h refl refl

    pend-adds : (f : Found) (y : Sight) {held : List ℕ} {amends : List Amend} → Touched held y.touch amends → AddsUp (pend_after amends f y)
    unfolding pend_after edit new_ids destroyed_of all_still
    pend-adds f y Touched.same = calm _ refl refl refl
    pend-adds f y (Touched.down few) = calm _ refl refl refl
    pend-adds f y Touched.up = calm _ refl refl refl

    noted-still : {edits : List Edit} → Noted edits → all_still (Edit.raise 1 ∷ edits) ≡ true
    unfolding all_still
    noted-still Noted.nothing = refl
    noted-still (Noted.clears k) = refl

    -- objects that are told, and taken out by the edits
    gone : (os : List ℕ) (edits : List Edit) → alive x s ≡ count_of x os + alive x (enact_all edits p (enact (Edit.raise (length os)) p s)) → AddsUp (send_destroyed (view s) os edits)
    unfolding send_destroyed send new_ids count_of enact_all
    gone os edits h = record { sum = rw (destroyed_is (view s).connection.last_serial os) (omega arith) }

    device-adds : (seat : ℕ) (name : Option (List ℕ)) (type caps : ℕ) → AddsUp (device_added (view s) seat name type caps)
    unfolding alive seat_ids enact_all enact view count_of
    device-adds seat name type caps =
        let c = s.connection in
        let id = c.next_id in
        let ver = device_version c in
        let made = common caps (negotiated_capabilities c) in
        let is = new_interfaces id made in
        record {
          sum = rw (device_ids_lem id seat ver type name c is (added-among c id caps), device_mild id seat ver type name c is)
              (omega (arith, ap (count_of x) (objects_new s.devices (new_device id seat made)), count-append x (object_ids s.devices) (id ∷ ids_of is)));
        }

    pub leaf_adds : {now : ℕ} {c : Call Sight} {plan : Plan} → Leaf (view s) now c plan → AddsUp plan
    unfolding ignore edit send send_next new_ids destroyed_of all_still enact_all enact alive seat_ids view device_of device_for_interface seat_of seat_objects count_of
    leaf_adds (Leaf.turned o h m) = answer-adds o (modest-ids o m)
    leaf_adds (Leaf.passed h) = answer-adds Result.accepted refl
    leaf_adds (Leaf.pended {x = y} f amends e g t) = pend-adds f y t
    leaf_adds (Leaf.answered o m) = answer-adds o (modest-ids o m)
    leaf_adds (Leaf.synced callback) = calm _ refl refl refl
    leaf_adds (Leaf.synced_message callback) = calm _ refl refl refl
    leaf_adds (Leaf.noted object event edits m h) = calm _ refl (rw (m _).destroys) (noted-still h)
    leaf_adds (Leaf.released cap id f e) =
        record { sum = omega (arith, found-unlisted x cap id s.devices f ok.bits e) }
    leaf_adds (Leaf.device_gone id f r e) =
        gone (objects_of f.device) (Edit.remove_device f.slot ∷ [])
        (omega (arith, found-taken x (λ d. eqb d.id id) s.devices f e))
    leaf_adds (Leaf.seat_gone id y r e) =
        let ds = map (map_device blank) s.devices in
        gone (devices_objects id ds ++ (id ∷ [])) (Edit.remove_devices_of id ∷ Edit.remove_seat id ∷ [])
        (omega (arith, seat-taken x id s.devices, place_taken x id s.connection.seats y e, count-append x (devices_objects id ds) (id ∷ [])))
    leaf_adds (Leaf.all_gone reason explanation r) =
        let os = seats_objects s.connection.seats (map (map_device blank) s.devices) in
        let last = destroyed s.connection.last_serial os in
        record {
          sum = rw (destroyed-append last _, destroyed_is s.connection.last_serial os, append-nil os)
              (omega (arith, all_taken x s.connection.seats p (enact Edit.end_connection p (enact (Edit.raise (length os)) p s)) refl ok.ordered.seats));
        }
    leaf_adds (Leaf.queued u n) = calm _ refl refl refl
    leaf_adds (Leaf.flushed id f u n k e) = calm _ refl refl refl
    leaf_adds (Leaf.closed id serial time f k e) = calm _ refl refl refl
    leaf_adds Leaf.handed = calm _ refl refl refl
    leaf_adds (Leaf.new_seat name caps) =
        let c = s.connection in
        record {
          sum = rw (name_mild c.next_id name, capabilities_mild c.next_id (bits_of (common caps (negotiated_capabilities c))), map-append (λ y. y.id) c.seats)
              (omega (arith, count-append x (map (λ y. y.id) c.seats) (c.next_id ∷ [])));
        }
    leaf_adds (Leaf.new_device seat name type caps) = device-adds seat name type caps
