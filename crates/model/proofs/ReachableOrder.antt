-- The order of ids, which every edit keeps: those of the seats ascend, and so do those of all objects of devices, each device's followed by its
-- interfaces'; both stay below the next id, which never falls. Assumes nothing.
use Prim.Native.Nat.{ℕ, zero, suc, ◌+◌, ◌≤◌}
use mathlib.Core.Path.{◌≡◌, refl, sym}
use mathlib.Core.List.Sublistᴰ
use mathlib.Core.List.{List, [], ◌∷◌, ◌++◌, map, map-append, append_assoc, append-nil, Sublistᴰ}
use native.Mathlib.Nat.{le_refl, le-add_right}
use native.Mathlib.Omega.{arith}
use lib.ListN.{length}
use Rattle.eiproto.specs.Bits.{bits_of}
use Rattle.model.specs.Session.{Interface, Device, Session}
use Rattle.model.specs.Edit.{Amend, Edit, interfaces_from, new_interfaces, amended, item, pended, emptied, new_device, at, enact, enact_all}
use Rattle.model.specs.Reachable.{seat_ids, interface_ids_in}
use Rattle.model.proofs.Ascending.{Between, end, next, higher, joined, left_out}
use Rattle.model.proofs.Removals.{sub-map, interfaces_without-sub, seats_without-sub, without_slot-sub, without_seat-sub}

abbrev pub ids_of : List Interface → List ℕ
ids_of is = map (λ i. i.id) is

interfaces-between : (id : ℕ) (bs : List ℕ) → Between id (ids_of (interfaces_from id bs)) (id + length (interfaces_from id bs))
unfolding interfaces_from
interfaces-between id [] = end (le-add_right id 0)
interfaces-between id (b ∷ bs) =
    let n = length (interfaces_from (id + 1) bs) in
    let h : id + 1 + n ≤ id + suc n = omega arith in
    next (le_refl id) (higher h (interfaces-between (id + 1) bs))

-- a new device takes the next id, and its interfaces the ones after it
pub new_between : (id caps : ℕ) → Between id (id ∷ ids_of (new_interfaces id caps)) (id + 1 + length (new_interfaces id caps))
unfolding new_interfaces
new_between id caps = next (le_refl id) (interfaces-between (id + 1) (bits_of caps))

pub record OrderedIds (seat_ids object_ids : List ℕ) (next_id : ℕ) : Type 0 where
  pub seats : Between 0 seat_ids next_id
  pub objects : Between 0 object_ids next_id

module _ {P : Type 0} where
  -- a device's objects, in the order in which they got their ids
  abbrev objects_of : Device P → List ℕ
  objects_of d = d.id ∷ ids_of d.interfaces

  unfoldable pub object_ids : List (Device P) → List ℕ
  object_ids [] = []
  object_ids (d ∷ ds) = objects_of d ++ object_ids ds

  abbrev pub Ordered : Session P → Type 0
  Ordered s = OrderedIds (seat_ids s) (object_ids s.devices) s.connection.next_id

  -- ---- how the objects' ids follow the devices

  pub objects_new : (ds : List (Device P)) (d : Device P) → object_ids (ds ++ (d ∷ [])) ≡ object_ids ds ++ objects_of d
  unfolding object_ids
  objects_new [] d = append-nil (objects_of d)
  objects_new (x ∷ ds) d = rw (objects_new ds d) (sym (append_assoc (objects_of x) (object_ids ds) (objects_of d)))

  objects-added : {low mid high : ℕ} (ds : List (Device P)) (d : Device P) → Between low (object_ids ds) mid → Between mid (objects_of d) high →
      Between low (object_ids (ds ++ (d ∷ []))) high
  objects-added ds d b c = rw (objects_new ds d) (joined b c)

  objects_at : (f : Device P → Device P) → ((d : Device P) → Sublistᴰ (objects_of (f d)) (objects_of d)) → (k : ℕ) (ds : List (Device P)) →
      Sublistᴰ (object_ids (at f k ds)) (object_ids ds)
  unfolding object_ids at
  objects_at f h k [] = Sublistᴰ.slnil
  objects_at f h zero (d ∷ ds) = Sublistᴰ.append (h d) (Sublistᴰ.refl (object_ids ds))
  objects_at f h (suc k) (d ∷ ds) = Sublistᴰ.append (Sublistᴰ.refl (objects_of d)) (objects_at f h k ds)

  objects-sub : {ds es : List (Device P)} → Sublistᴰ ds es → Sublistᴰ (object_ids ds) (object_ids es)
  unfolding object_ids
  objects-sub Sublistᴰ.slnil = Sublistᴰ.slnil
  objects-sub (Sublistᴰ.cons {a = d} s) = Sublistᴰ.append (Sublistᴰ.nil-sublist (objects_of d)) (objects-sub s)
  objects-sub (Sublistᴰ.cons-cons {b = d} e s) = rw e (Sublistᴰ.append (Sublistᴰ.refl (objects_of d)) (objects-sub s))

  pub device_ids-sub : (ds : List (Device P)) → Sublistᴰ (map (λ d. d.id) ds) (object_ids ds)
  unfolding object_ids
  device_ids-sub [] = Sublistᴰ.slnil
  device_ids-sub (d ∷ ds) = Sublistᴰ.cons-cons refl (Sublistᴰ.append (Sublistᴰ.nil-sublist (ids_of d.interfaces)) (device_ids-sub ds))

  pub interface_ids-sub : (ds : List (Device P)) → Sublistᴰ (interface_ids_in ds) (object_ids ds)
  unfolding interface_ids_in object_ids
  interface_ids-sub [] = Sublistᴰ.slnil
  interface_ids-sub (d ∷ ds) = Sublistᴰ.cons (Sublistᴰ.append (Sublistᴰ.refl (ids_of d.interfaces)) (interface_ids-sub ds))

  -- ---- the edits

  amended-objects : (a : Amend) (d : Device P) → Sublistᴰ (objects_of (amended a d)) (objects_of d)
  unfolding amended
  amended-objects (Amend.touch_down t) d = Sublistᴰ.refl (objects_of d)
  amended-objects (Amend.touch_up t) d = Sublistᴰ.refl (objects_of d)
  amended-objects Amend.clear_touches d = Sublistᴰ.refl (objects_of d)
  amended-objects (Amend.unlist cap) d = Sublistᴰ.cons-cons refl (sub-map (λ i. i.id) (interfaces_without-sub cap d.interfaces))

  -- objects left out of devices that stay
  at_ordered : {ss : List ℕ} {n : ℕ} (f : Device P → Device P) → ((d : Device P) → Sublistᴰ (objects_of (f d)) (objects_of d)) → (k : ℕ) (ds : List (Device P)) →
      OrderedIds ss (object_ids ds) n → OrderedIds ss (object_ids (at f k ds)) n
  at_ordered f h k ds o = record { seats = o.seats; objects = left_out (objects_at f h k ds) o.objects }

  removed-ordered : {ss : List ℕ} {ds es : List (Device P)} {n : ℕ} → Sublistᴰ ds es → OrderedIds ss (object_ids es) n → OrderedIds ss (object_ids ds) n
  removed-ordered t o = record { seats = o.seats; objects = left_out (objects-sub t) o.objects }

  edit-ordered : (e : Edit) (p : P) (s : Session P) → Ordered s → Ordered (enact e p s)
  unfolding enact seat_ids object_ids
  edit-ordered (Edit.raise n) p s o = o
  edit-ordered (Edit.add_seat caps) p s o =
      let id = s.connection.next_id in
      record {
        seats = rw (map-append (λ x. x.id) s.connection.seats) (joined o.seats (next (le_refl id) (end (le_refl (id + 1)))));
        objects = higher (omega arith) o.objects;
      }
  edit-ordered (Edit.remove_seat seat) p s o =
      record { seats = left_out (sub-map (λ x. x.id) (seats_without-sub seat s.connection.seats)) o.seats; objects = o.objects }
  edit-ordered (Edit.add_device seat caps) p s o =
      let id = s.connection.next_id in
      record {
        seats = higher (omega arith) o.seats;
        objects = higher (omega arith) (objects-added s.devices (new_device id seat caps) o.objects (new_between id caps));
      }
  edit-ordered (Edit.remove_device k) p s o = removed-ordered (without_slot-sub k s.devices) o
  edit-ordered (Edit.remove_devices_of seat) p s o = removed-ordered (without_seat-sub seat s.devices) o
  edit-ordered (Edit.amend k a) p s o = at_ordered (amended a) (amended-objects a) k s.devices o
  edit-ordered (Edit.pend k sight) p s o = at_ordered (pended (item sight p)) (λ d. Sublistᴰ.refl (objects_of d)) k s.devices o
  edit-ordered (Edit.frame k serial time) p s o = at_ordered emptied (λ d. Sublistᴰ.refl (objects_of d)) k s.devices o
  edit-ordered (Edit.queue r) p s o = o
  edit-ordered Edit.deliver p s o = o
  edit-ordered (Edit.peer_object id) p s o = o
  edit-ordered Edit.end_connection p s o = o

  pub edits-ordered : (es : List Edit) (p : P) (s : Session P) → Ordered s → Ordered (enact_all es p s)
  unfolding enact_all
  edits-ordered [] p s o = o
  edits-ordered (e ∷ es) p s o = edits-ordered es p (enact e p s) (edit-ordered e p s o)

  edit-next_id : (e : Edit) (p : P) (s : Session P) → s.connection.next_id ≤ (enact e p s).connection.next_id
  unfolding enact
  edit-next_id (Edit.raise n) p s = omega arith
  edit-next_id (Edit.add_seat caps) p s = omega arith
  edit-next_id (Edit.remove_seat seat) p s = omega arith
  edit-next_id (Edit.add_device seat caps) p s = omega arith
  edit-next_id (Edit.remove_device k) p s = omega arith
  edit-next_id (Edit.remove_devices_of seat) p s = omega arith
  edit-next_id (Edit.amend k a) p s = omega arith
  edit-next_id (Edit.pend k sight) p s = omega arith
  edit-next_id (Edit.frame k serial time) p s = omega arith
  edit-next_id (Edit.queue r) p s = omega arith
  edit-next_id Edit.deliver p s = omega arith
  edit-next_id (Edit.peer_object id) p s = omega arith
  edit-next_id Edit.end_connection p s = omega arith

  pub edits-next_id : (es : List Edit) (p : P) (s : Session P) → s.connection.next_id ≤ (enact_all es p s).connection.next_id
  unfolding enact_all
  edits-next_id [] p s = omega arith
  edits-next_id (e ∷ es) p s = omega (arith, edit-next_id e p s, edits-next_id es p (enact e p s))
