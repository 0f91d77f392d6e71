-- The events of every plan of `decide` have messages, and what a plan adds is for known capabilities. The calls are gone over here: Walk's leaves do not keep what was
-- asked of a text, of capabilities and of a device. Assumes nothing.
use Prim.Native.Nat.{ℕ, zero, suc, ◌+◌, ◌^◌, ◌<◌}
use mathlib.Core.Path.{◌≡◌, refl, ap, sym, ◌∙◌}
use mathlib.Core.Bool.{Bool, true, false, ◌&&◌, cond, or-true}
use mathlib.Core.List.{List, [], ◌∷◌, map, Memᴰ}
use mathlib.Core.Option.{Option, none, some}
use native.Mathlib.Omega.{arith}
use lib.Dec.{ltb, eqb}
use lib.ListN.{length}
use borrow.Author.Tests.{leb-false, ltb-true, ltb-false, le-leb, eq-eqb}
use Rattle.eiproto.specs.Enum.{device_type_number, disconnect_reason_number}
use Rattle.eiproto.specs.Bits.{bits_of, every, common, contains}
use Rattle.eiproto.specs.Capability.{capability_index, interface_of_bit, unknown_bits}
use Rattle.eiproto.specs.Interface.{ei_connection, ei_callback, ei_seat, ei_device}
use Rattle.eiproto.specs.declared.eiproto_enum.DeviceType.{DeviceType}
use Rattle.eiproto.specs.declared.eiproto_enum.DisconnectReason.{DisconnectReason}
use Rattle.eiproto.specs.declared.event.DeviceCapability.{DeviceCapability}
use Rattle.eiproto.proofs.Bits.{bits_small, common-le}
use Rattle.utf8.specs.Rfc3629.{is_utf8}
use Rattle.utf8.proofs.Rules.{never_some}
use Rattle.wire.specs.declared.event.Event.{Event}
use Rattle.wire.specs.Record.{layout}
use Rattle.event_messages.specs.Table.{kind_of}
use Rattle.event_messages.specs.Stands.{between, zero_free, sendable_text, sendable}
use Rattle.model.specs.Call.{Sight, HandshakeRequest, Plain, Call}
use Rattle.model.specs.Session.{Untimed, Queued, Interface, Seat, Device, Connection, View}
use Rattle.model.specs.Edit.{Amend, Edit, next_serial, interfaces_from, new_interfaces}
use Rattle.model.specs.Plan.{Sent, on, Result, Plan, answer, refuse, ignore, edit, send}
use Rattle.model.specs.Decide.{Found, version, negotiated_capabilities, seat_version, device_version, later, find, lists_as, device_of, device_for_interface, seat_in, seat_of, check_utf8, check_name, check_optional, check_capabilities, on_found, send_next, pend_after, handle_handshake, handle_sync, is_peer_id, handle_sync_message, handle_seat, handle_device, handle_frame, handle_release, handle_seat_release, next_of, name_events, capability_events, seat_events, seat_plan, seat_added, add_seat, interface_event, interface_events, device_events, device_plan, device_added, add_device, destroyed, objects_of, devices_objects, seat_objects, seats_objects, send_destroyed, remove_device, retire_seat, remove_seat, remove_seats, explained, explanation_text, disconnected, notify, decide_plain, decide}
use Rattle.model.specs.Live.{is_found}
use Rattle.model.proofs.All.{All, none as nil, more, all_append}
use Rattle.model.proofs.ReachableHeld.{both}
use Rattle.model.proofs.Leaves.{Touched, Leaf}
use Rattle.model.proofs.Walk.{walk}
use Rattle.sent_events.specs.Sendable.{Maker, HasMessage, known}

-- ---- capabilities

-- the interface of one of the seven is one of the twelve, and has `destroyed`
record Served (b : ℕ) : Type 0 where
  numbered : between 1 12 (interface_of_bit b) ≡ true
  has : kind_of (interface_of_bit b) 0 ≡ 5

served : (b : ℕ) → b < 7 → Served b
unfolding interface_of_bit kind_of
served zero l = record { numbered = refl; has = refl }
served (suc zero) l = record { numbered = refl; has = refl }
served (suc (suc zero)) l = record { numbered = refl; has = refl }
served (suc (suc (suc zero))) l = record { numbered = refl; has = refl }
served (suc (suc (suc (suc zero)))) l = record { numbered = refl; has = refl }
served (suc (suc (suc (suc (suc zero))))) l = record { numbered = refl; has = refl }
served (suc (suc (suc (suc (suc (suc zero)))))) l = record { numbered = refl; has = refl }
served (suc (suc (suc (suc (suc (suc (suc n))))))) l = absurd (omega arith)

index-small : (k : DeviceCapability) → capability_index k < 7
index-small DeviceCapability.Pointer = omega arith
index-small DeviceCapability.PointerAbsolute = omega arith
index-small DeviceCapability.Keyboard = omega arith
index-small DeviceCapability.Touch = omega arith
index-small DeviceCapability.Scroll = omega arith
index-small DeviceCapability.Button = omega arith
index-small DeviceCapability.Text = omega arith

abbrev pub small : List ℕ → Bool
small bs = every (λ b. ltb b 7) bs

abbrev pub lists_known : List Interface → Bool
lists_known is = every (λ i. ltb i.capability 7) is

from_known : (id : ℕ) (bs : List ℕ) → small bs ≡ true → lists_known (interfaces_from id bs) ≡ true
unfolding interfaces_from every
from_known id [] h = refl
from_known id (b ∷ bs) h = let q = both (ltb b 7) (small bs) h in rw q.0 (from_known (id + 1) bs q.1)

pub new_known : (id caps : ℕ) → small (bits_of caps) ≡ true → lists_known (new_interfaces id caps) ≡ true
unfolding new_interfaces
new_known id caps h = from_known (id + 1) (bits_of caps) h

-- ---- members

every_mem : {A : Type 0} (f : A → Bool) {x : A} {xs : List A} → Memᴰ x xs → every f xs ≡ true → f x ≡ true
unfolding every
every_mem f (Memᴰ.head {x = y} {xs = ys} e) h = ap f e ∙ (both (f y) (every f ys) h).0
every_mem f (Memᴰ.tail {x = y} {xs = ys} m) h = every_mem f m (both (f y) (every f ys) h).1

found_mem : (test : Device (Unit {0}) → Bool) (ds : List (Device (Unit {0}))) (f : Found) → find test ds ≡ some f → Memᴰ f.device ds
unfolding find later
found_mem test [] f e = never_some e
found_mem test (d ∷ ds) f e = go (test d) (find test ds) e (λ g q. found_mem test ds g q)
  where
    go : (b : Bool) (o : Option Found) → cond b (some (record { slot = zero; device = d })) (later o) ≡ some f →
        ((g : Found) → o ≡ some g → Memᴰ g.device ds) → Memᴰ f.device (d ∷ ds)
    go true o q h = Memᴰ.head (let z : f ≡ record { slot = zero; device = d } = cc in ap (λ g. g.device) z)
    go false none q h = never_some q
    go false (some g) q h =
        let z : f ≡ record { slot = suc g.slot; device = g.device } = cc in
        Memᴰ.tail {xs = ds} (rw z (h g refl))

mem_found : (test : Device (Unit {0}) → Bool) {d : Device (Unit {0})} {ds : List (Device (Unit {0}))} → Memᴰ d ds → test d ≡ true →
    is_found (find test ds) ≡ true
unfolding find is_found later
mem_found test (Memᴰ.head e) t = rw (ap test (sym e) ∙ t)
mem_found test (Memᴰ.tail {x = y} {xs = ys} m) t = go (test y) (find test ys) (mem_found test m t)
  where
    go : (b : Bool) (o : Option Found) → is_found o ≡ true → is_found (cond b (some (record { slot = zero; device = y })) (later o)) ≡ true
    go true o h = refl
    go false none h = h
    go false (some g) h = refl

mem_lists : {i : Interface} {is : List Interface} → Memᴰ i is → lists_as i.capability i.id is ≡ true
unfolding lists_as
mem_lists {i} (Memᴰ.head {x = j} e) =
    rw (eq-eqb j.capability i.capability (ap (λ k. k.capability) (sym e)), eq-eqb j.id i.id (ap (λ k. k.id) (sym e)))
mem_lists {i} (Memᴰ.tail {x = j} m) = rw (mem_lists m) (or-true (eqb j.capability i.capability && eqb j.id i.id))

mem_seat : {s : Seat} {ss : List Seat} → Memᴰ s ss → is_found (seat_in s.id ss) ≡ true
unfolding seat_in is_found
mem_seat {s} (Memᴰ.head {x = y} e) = rw (eq-eqb y.id s.id (ap (λ k. k.id) (sym e)))
mem_seat {s} (Memᴰ.tail {x = y} {xs = ys} m) = go (eqb y.id s.id) (mem_seat m)
  where
    go : (b : Bool) → is_found (seat_in s.id ys) ≡ true → is_found (cond b (some y) (seat_in s.id ys)) ≡ true
    go true h = refl
    go false h = h

some-found : {A : Type 0} {o : Option A} {x : A} → o ≡ some x → is_found o ≡ true
unfolding is_found
some-found e = rw e

-- ---- what a plan adds

unfoldable pub adds_known : Edit → Bool
adds_known (Edit.raise n) = true
adds_known (Edit.add_seat caps) = true
adds_known (Edit.remove_seat seat) = true
adds_known (Edit.add_device seat caps) = small (bits_of caps)
adds_known (Edit.remove_device k) = true
adds_known (Edit.remove_devices_of seat) = true
adds_known (Edit.amend k a) = true
adds_known (Edit.pend k sight) = true
adds_known (Edit.frame k serial time) = true
adds_known (Edit.queue r) = true
adds_known Edit.deliver = true
adds_known (Edit.peer_object id) = true
adds_known Edit.end_connection = true

seats-add : (ss : List Seat) → every adds_known (remove_seats ss) ≡ true
unfolding every adds_known remove_seats
seats-add [] = refl
seats-add (s ∷ ss) = seats-add ss

-- ---- texts

-- a text that was checked, if there is one: only a zero byte keeps it from being sent
unfoldable Proper : Option (List ℕ) → Type 0
Proper none = Unit {0}
Proper (some text) = sendable_text text ≡ zero_free text

proper : (text : List ℕ) → is_utf8 text ≡ true → ltb 254 (length text) ≡ false → Proper (some text)
unfolding Proper sendable_text
proper text u l = rw (le-leb (length text) 254 (ltb-false 254 (length text) l), u)

-- ---- the events

module _ (v : View) (c : Call Sight) where
  abbrev Has : List Sent → Type 0
  Has es = All (HasMessage v c) es

  -- an object that the call destroys
  record Ends (id : ℕ) : Type 0 where
    interface : ℕ
    maker : Maker v c interface id
    has : kind_of interface 0 ≡ 5

  -- what is shown of a plan
  pub record Fine (plan : Plan) : Type 0 where
    pub events : Has plan.events
    pub edits : every adds_known plan.edits ≡ true

module _ {v : View} {c : Call Sight} where
  -- an event that has no text
  on_has : {interface object : ℕ} {event : Event} (opcode : ℕ) → Maker v c interface object → kind_of interface opcode ≡ (layout event).kind →
      sendable event [] ≡ true → HasMessage v c (on object event)
  unfolding zero_free
  on_has opcode m has fits = record { interface = _; opcode = opcode; maker = m; has = has; fits = fits }

  destroyed_have : (s : ℕ) {os : List ℕ} → All (Ends v c) os → Has v c (destroyed s os)
  unfolding destroyed layout sendable
  destroyed_have s nil = nil
  destroyed_have s (more e a) = more (on_has 0 e.maker e.has refl) (destroyed_have (next_serial s) a)

  name-has : {interface id : ℕ} → Maker v c interface id → kind_of interface 1 ≡ 2 → (name : Option (List ℕ)) → Proper name → Has v c (name_events id name)
  unfolding name_events Proper layout sendable
  name-has m k none p = nil
  name-has m k (some text) p = more (record { interface = _; opcode = 1; maker = m; has = k; fits = p }) nil

  capabilities_have : {id : ℕ} → Maker v c ei_seat id → (bs : List ℕ) → small bs ≡ true → Has v c (capability_events id bs)
  unfolding capability_events every kind_of layout sendable
  capabilities_have m [] h = nil
  capabilities_have m (b ∷ bs) h =
      let q = both (ltb b 7) (small bs) h in more (on_has 2 m refl (served b (ltb-true b 7 q.0)).numbered) (capabilities_have m bs q.1)

  interfaces_have : {id : ℕ} → Maker v c ei_device id → (conn : Connection) (is : List Interface) → lists_known is ≡ true → Has v c (interface_events conn id is)
  unfolding interface_events interface_event every kind_of layout sendable
  interfaces_have m conn [] h = nil
  interfaces_have {id} m conn (i ∷ is) h =
      let q = both (ltb i.capability 7) (lists_known is) h in
      all_append (go (version conn (interface_of_bit i.capability)) (served i.capability (ltb-true i.capability 7 q.0))) (interfaces_have m conn is q.1)
    where
      go : (o : Option ℕ) → Served i.capability → Has v c (interface_event id i o)
      go none x = nil
      go (some ver) x = more (on_has 5 m refl x.numbered) nil

  -- ---- what goes

  seat-ends : {id : ℕ} → is_found (seat_of id v) ≡ true → Ends v c id
  unfolding kind_of
  seat-ends h = record { interface = ei_seat; maker = Maker.seat h; has = refl }

  module _ (d : Device (Unit {0})) (stands : Memᴰ d v.devices) where
    interface-ends : (i : Interface) → Memᴰ i d.interfaces → i.capability < 7 → Ends v c i.id
    unfolding device_for_interface
    interface-ends i m l =
        record {
          interface = interface_of_bit i.capability;
          maker = Maker.interface i.capability (mem_found (λ x. lists_as i.capability i.id x.interfaces) stands (mem_lists m));
          has = (served i.capability l).has;
        }

    listed-end : (is : List Interface) → ((i : Interface) → Memᴰ i is → Memᴰ i d.interfaces) → lists_known is ≡ true → All (Ends v c) (map (λ i. i.id) is)
    unfolding every
    listed-end [] sub h = nil
    listed-end (i ∷ is) sub h =
        let q = both (ltb i.capability 7) (lists_known is) h in
        more (interface-ends i (sub i (Memᴰ.head refl)) (ltb-true i.capability 7 q.0)) (listed-end is (λ j m. sub j (Memᴰ.tail m)) q.1)

    device-ends : Ends v c d.id
    unfolding device_of kind_of
    device-ends = record { interface = ei_device; maker = Maker.device (mem_found (λ x. eqb x.id d.id) stands (eq-eqb d.id d.id refl)); has = refl }

    objects-end : known v ≡ true → All (Ends v c) (objects_of d)
    unfolding known objects_of
    objects-end h = all_append (listed-end d.interfaces (λ i m. m) (every_mem (λ x. lists_known x.interfaces) stands h)) (more device-ends nil)

  devices-end : (seat : ℕ) (ds : List (Device (Unit {0}))) → ((d : Device (Unit {0})) → Memᴰ d ds → Memᴰ d v.devices) → known v ≡ true →
      All (Ends v c) (devices_objects seat ds)
  unfolding devices_objects
  devices-end seat [] sub h = nil
  devices-end seat (d ∷ ds) sub h = all_append (go (eqb d.seat seat)) (devices-end seat ds (λ x m. sub x (Memᴰ.tail m)) h)
    where
      go : (b : Bool) → All (Ends v c) (cond b (objects_of d) [])
      go true = objects-end d (sub d (Memᴰ.head refl)) h
      go false = nil

  seat_objects-end : (id : ℕ) → is_found (seat_of id v) ≡ true → known v ≡ true → All (Ends v c) (seat_objects id v.devices)
  unfolding seat_objects
  seat_objects-end id f h = all_append (devices-end id v.devices (λ d m. m) h) (more (seat-ends f) nil)

  seats-end : (ss : List Seat) → ((s : Seat) → Memᴰ s ss → Memᴰ s v.connection.seats) → known v ≡ true → All (Ends v c) (seats_objects ss v.devices)
  unfolding seats_objects seat_of
  seats-end [] sub h = nil
  seats-end (s ∷ ss) sub h =
      all_append (seat_objects-end s.id (mem_seat (sub s (Memᴰ.head refl))) h) (seats-end ss (λ x m. sub x (Memᴰ.tail m)) h)

  -- ---- the formers of plans

  cond-fine : (b : Bool) {x y : Plan} → (b ≡ true → Fine v c x) → (b ≡ false → Fine v c y) → Fine v c (cond b x y)
  cond-fine true hx hy = hx refl
  cond-fine false hx hy = hy refl

  on_found-fine : {A : Type 0} (o : Option A) {else : Plan} {then : A → Plan} → Fine v c else → ((x : A) → o ≡ some x → Fine v c (then x)) →
      Fine v c (on_found o else then)
  unfolding on_found
  on_found-fine none h k = h
  on_found-fine (some x) h k = k x refl

  answer-fine : (o : Result) → Fine v c (answer o)
  unfolding answer every
  answer-fine o = record { events = nil; edits = refl }

  refuse-fine : (n : ℕ) → Fine v c (refuse n)
  unfolding refuse
  refuse-fine n = answer-fine (Result.refused n)

  ignore-fine : Fine v c ignore
  unfolding ignore
  ignore-fine = answer-fine Result.accepted

  edit-fine : (es : List Edit) → every adds_known es ≡ true → Fine v c (edit es)
  unfolding edit
  edit-fine es h = record { events = nil; edits = h }

  check_utf8-fine : (text : List ℕ) {x : Plan} → (is_utf8 text ≡ true → Fine v c x) → Fine v c (check_utf8 text x)
  unfolding check_utf8
  check_utf8-fine text h = cond-fine (is_utf8 text) h (λ e. refuse-fine 10)

  check_name-fine : (text : List ℕ) {x : Plan} → (Proper (some text) → Fine v c x) → Fine v c (check_name text x)
  unfolding check_name
  check_name-fine text h = check_utf8-fine text (λ u. cond-fine (ltb 254 (length text)) (λ e. refuse-fine 11) (λ l. h (proper text u l)))

  check_optional-fine : (text : Option (List ℕ)) {x : Plan} → (Proper text → Fine v c x) → Fine v c (check_optional text x)
  unfolding check_optional Proper
  check_optional-fine none h = h tt
  check_optional-fine (some text) h = check_name-fine text h

  check_capabilities-fine : (caps : ℕ) {x : Plan} → (caps < 2 ^ 7 → Fine v c x) → Fine v c (check_capabilities caps x)
  unfolding check_capabilities
  check_capabilities-fine caps h = cond-fine (unknown_bits caps) (λ e. refuse-fine 13) (λ e. h (leb-false (2 ^ 7) caps e))

  gone-fine : {os : List ℕ} (edits : List Edit) → All (Ends v c) os → every adds_known edits ≡ true → Fine v c (send_destroyed v os edits)
  unfolding send_destroyed send every adds_known
  gone-fine edits a h = record { events = destroyed_have v.connection.last_serial a; edits = h }

  seat_gone-fine : known v ≡ true → (id : ℕ) (s : Seat) → seat_of id v ≡ some s → Fine v c (retire_seat v id)
  unfolding every adds_known
  seat_gone-fine h id s e = gone-fine (Edit.remove_devices_of id ∷ Edit.remove_seat id ∷ []) (seat_objects-end id (some-found e) h) refl

  -- one event with no text on a device that was found
  notify-fine : (id : ℕ) (event : ℕ → Event) (edits : ℕ → List Edit) (opcode : ℕ) → ((s : ℕ) → kind_of ei_device opcode ≡ (layout (event s)).kind) →
      ((s : ℕ) → sendable (event s) [] ≡ true) → ((k : ℕ) → every adds_known (edits k) ≡ true) → Fine v c (notify v id event edits)
  unfolding notify send_next send every adds_known
  notify-fine id event edits opcode has fits h =
      on_found-fine (device_of id v) (refuse-fine 12) λ f e.
      record { events = more (on_has opcode (Maker.device (some-found e)) (has _) (fits _)) nil; edits = h f.slot }

-- ---- the calls

module _ {v : View} {c : Plain} where
  handshake-fine : (r : HandshakeRequest) → Fine v (Call.plain c) (handle_handshake r)
  unfolding handle_handshake
  handshake-fine (HandshakeRequest.HandshakeVersion n) = refuse-fine 1
  handshake-fine HandshakeRequest.Finish = refuse-fine 1
  handshake-fine (HandshakeRequest.ContextType t) = refuse-fine 1
  handshake-fine (HandshakeRequest.Name t) = check_name-fine t (λ p. refuse-fine 1)
  handshake-fine (HandshakeRequest.InterfaceVersion t n) = check_utf8-fine t (λ p. refuse-fine 1)

  seat-fine : (id caps : ℕ) (u : Untimed) → Fine v (Call.plain c) (handle_seat v id caps u)
  unfolding handle_seat every adds_known
  seat-fine id caps u =
      on_found-fine (seat_of id v) ignore-fine λ s e.
      cond-fine (unknown_bits caps) (λ b. refuse-fine 3)
      (λ b. cond-fine (contains s.capabilities caps) (λ z. edit-fine (Edit.queue u ∷ []) refl) (λ z. refuse-fine 3))

  device-fine : (now id : ℕ) (u : Untimed) → Fine v (Call.plain c) (handle_device v now id u)
  unfolding handle_device every adds_known
  device-fine now id u = on_found-fine (device_of id v) ignore-fine λ f e. edit-fine _ refl

  next-fine : (rs : List (Queued (Unit {0}))) → Fine v (Call.plain c) (next_of rs)
  unfolding next_of every adds_known
  next-fine [] = answer-fine Result.none
  next-fine (r ∷ rs) = record { events = nil; edits = refl }

callback-fine : {v : View} {c : Plain} (id : ℕ) (edits : List Edit) → Maker v (Call.plain c) ei_callback id → every adds_known edits ≡ true →
    Fine v (Call.plain c) (send (on id (Event.CallbackDone 0) ∷ []) edits)
unfolding send kind_of layout sendable
callback-fine id edits m h = record { events = more (on_has 0 m refl refl) nil; edits = h }

release-fine : {v : View} {c : Plain} (k : DeviceCapability) (id : ℕ) → Fine v (Call.plain c) (handle_release v (capability_index k) id)
unfolding handle_release send_next send every adds_known layout sendable
release-fine {v} k id =
    on_found-fine (device_for_interface (capability_index k) id v) ignore-fine λ f e.
    let b = capability_index k in
    record { events = more (on_has 0 (Maker.interface b (some-found e)) (served b (index-small k)).has refl) nil; edits = refl }

-- a seat with a set of known capabilities
seat_plan-fine : {v : View} (name : Option (List ℕ)) (given set ver : ℕ) → Proper name → small (bits_of set) ≡ true →
    Fine v (Call.plain (Plain.add_seat name given)) (seat_plan v.connection.next_id set (seat_events v.connection v.connection.next_id ver name set))
unfolding every adds_known kind_of layout sendable
seat_plan-fine {v} name given set ver p few =
    let announced = capabilities_have Maker.new_seat (bits_of set) few in
    let done = more (on_has 3 Maker.new_seat refl refl) nil in
    record {
      events = more (on_has 1 Maker.connection refl refl) (all_append (name-has Maker.new_seat refl name p) (all_append announced done));
      edits = refl;
    }

-- what is cut down is known
cut_known : (m caps : ℕ) → caps < 2 ^ 7 → small (bits_of (common caps m)) ≡ true
cut_known m caps l = bits_small 7 (common caps m) (omega (arith, common-le caps m (omega arith)))

new_seat-fine : {v : View} (name : Option (List ℕ)) (caps : ℕ) → Proper name → caps < 2 ^ 7 → Fine v (Call.plain (Plain.add_seat name caps)) (seat_added v name caps)
new_seat-fine {v} name caps p l =
    let m = negotiated_capabilities v.connection in
    seat_plan-fine name caps (common caps m) (seat_version v.connection) p (cut_known m caps l)

type-fits : (t : DeviceType) → sendable (Event.DeviceType (device_type_number t)) [] ≡ true
unfolding sendable
type-fits DeviceType.Virtual = refl
type-fits DeviceType.Physical = refl

-- a device that is made with known capabilities
device_plan-fine : {v : View} (seat : ℕ) (s : Seat) (name : Option (List ℕ)) (t : DeviceType) (given made ver : ℕ) → seat_of seat v ≡ some s → Proper name →
    small (bits_of made) ≡ true →
    Fine v (Call.plain (Plain.add_device seat name t given))
    (device_plan v.connection.next_id seat made (device_events v.connection seat v.connection.next_id ver name (device_type_number t) made))
unfolding every adds_known kind_of layout sendable
device_plan-fine {v} seat s name t given made ver e p few =
    let id = v.connection.next_id in
    let listed = interfaces_have Maker.new_device v.connection (new_interfaces id made) (new_known id made few) in
    let done = more (on_has 6 Maker.new_device refl refl) nil in
    record {
      events = more (on_has 4 (Maker.seat (some-found e)) refl refl) (all_append (name-has Maker.new_device refl name p) (more (on_has 2 Maker.new_device refl (type-fits t)) (all_append listed done)));
      edits = rw few;
    }

new_device-fine : {v : View} (seat : ℕ) (s : Seat) (name : Option (List ℕ)) (t : DeviceType) (caps : ℕ) → seat_of seat v ≡ some s → Proper name → caps < 2 ^ 7 →
    Fine v (Call.plain (Plain.add_device seat name t caps)) (device_added v seat name (device_type_number t) (common caps s.capabilities))
new_device-fine {v} seat s name t caps e p l =
    let m = negotiated_capabilities v.connection in
    let shared = common caps s.capabilities in
    let few = cut_known m shared (omega (arith, common-le caps s.capabilities (omega arith))) in
    device_plan-fine seat s name t caps (common shared m) (device_version v.connection) e p few

-- (stated of the checks themselves: with `add_seat` or `add_device` unfolded, their masks would be computed bit by bit)
checked_seat_fine : {v : View} (name : Option (List ℕ)) (caps : ℕ) →
    Fine v (Call.plain (Plain.add_seat name caps)) (check_optional name (check_capabilities caps (seat_added v name caps)))
checked_seat_fine name caps = check_optional-fine name λ p. check_capabilities-fine caps λ l. new_seat-fine name caps p l

add_seat-fine : {v : View} (name : Option (List ℕ)) (caps : ℕ) → Fine v (Call.plain (Plain.add_seat name caps)) (add_seat v name caps)
unfolding add_seat
add_seat-fine name caps = checked_seat_fine name caps

checked_device_fine : {v : View} (seat : ℕ) (name : Option (List ℕ)) (t : DeviceType) (caps : ℕ) →
    Fine v (Call.plain (Plain.add_device seat name t caps))
    (check_optional name
    (check_capabilities caps (on_found (seat_of seat v) (refuse 12) λ s. device_added v seat name (device_type_number t) (common caps s.capabilities))))
checked_device_fine {v} seat name t caps =
    check_optional-fine name λ p. check_capabilities-fine caps λ l.
    on_found-fine (seat_of seat v) (refuse-fine 12) λ s e. new_device-fine seat s name t caps e p l

add_device-fine : {v : View} (seat : ℕ) (name : Option (List ℕ)) (t : DeviceType) (caps : ℕ) →
    Fine v (Call.plain (Plain.add_device seat name t caps)) (add_device v seat name (device_type_number t) caps)
unfolding add_device
add_device-fine seat name t caps = checked_device_fine seat name t caps

reason-fits : (r : DisconnectReason) → between 0 5 (disconnect_reason_number r) ≡ true
reason-fits DisconnectReason.Disconnected = refl
reason-fits DisconnectReason.Error = refl
reason-fits DisconnectReason.Mode = refl
reason-fits DisconnectReason.Protocol = refl
reason-fits DisconnectReason.Value = refl
reason-fits DisconnectReason.Transport = refl

explanation-fits : (serial reason : ℕ) (x : Option (List ℕ)) → between 0 5 reason ≡ true → Proper x →
    sendable (Event.Disconnected serial reason (explained x)) (explanation_text x) ≡ zero_free (explanation_text x)
unfolding sendable explained explanation_text zero_free Proper
explanation-fits serial reason none b p = rw b
explanation-fits serial reason (some text) b p = rw b p

disconnected-fine : {v : View} {c : Plain} (r : DisconnectReason) (x : Option (List ℕ)) → known v ≡ true → Fine v (Call.plain c) (disconnected v (disconnect_reason_number r) x)
unfolding disconnected send every adds_known kind_of layout
disconnected-fine {v} r x h =
    check_optional-fine x λ p.
    let gone = destroyed_have v.connection.last_serial (seats-end v.connection.seats (λ s m. m) h) in
    record {
      events = all_append gone (more (record { interface = ei_connection; opcode = 0; maker = Maker.connection; has = refl; fits = explanation-fits _ _ x (reason-fits r) p }) nil);
      edits = seats-add v.connection.seats;
    }

remove_device-fine : {v : View} {c : Plain} (id : ℕ) → known v ≡ true → Fine v (Call.plain c) (remove_device v id)
unfolding remove_device device_of every adds_known
remove_device-fine {v} id h =
    on_found-fine (device_of id v) (refuse-fine 12) λ f e.
    gone-fine (Edit.remove_device f.slot ∷ []) (objects-end f.device (found_mem (λ d. eqb d.id id) v.devices f e) h) refl

plain-fine : (v : View) (now : ℕ) (c : Plain) → known v ≡ true → Fine v (Call.plain c) (decide_plain v now c)
unfolding decide_plain handle_sync handle_sync_message handle_frame handle_seat_release remove_seat kind_of layout sendable every adds_known
plain-fine v now (Plain.handshake r) h = handshake-fine r
plain-fine v now (Plain.sync callback ver) h = cond-fine (eqb ver 1) (λ e. callback-fine callback [] Maker.callback refl) (λ e. answer-fine _)
plain-fine v now (Plain.sync_message callback ver) h =
    cond-fine (is_peer_id v callback)
    (λ p. cond-fine (eqb ver 1) (λ e. callback-fine callback (Edit.peer_object callback ∷ []) Maker.callback_read refl) (λ e. answer-fine _))
    (λ p. refuse-fine 25)
plain-fine v now Plain.disconnect h = edit-fine _ refl
plain-fine v now Plain.pingpong_done h = ignore-fine
plain-fine v now (Plain.seat_release seat) h = on_found-fine (seat_of seat v) ignore-fine λ s e. seat_gone-fine h seat s e
plain-fine v now (Plain.bind seat caps) h = seat-fine seat caps (Untimed.Bind seat caps)
plain-fine v now (Plain.request_device seat caps) h = seat-fine seat caps (Untimed.RequestDevice seat caps)
plain-fine v now (Plain.device_release d) h = device-fine now d (Untimed.DeviceClosed d)
plain-fine v now (Plain.device_start_emulating d s q) h = device-fine now d (Untimed.DeviceStartEmulating d s q)
plain-fine v now (Plain.device_stop_emulating d s) h = device-fine now d (Untimed.DeviceStopEmulating d s)
plain-fine v now (Plain.device_frame d s t) h = on_found-fine (device_of d v) ignore-fine λ f e. edit-fine _ refl
plain-fine v now (Plain.device_ready d) h = device-fine now d (Untimed.Ready d)
plain-fine v now (Plain.interface_release cap i) h = release-fine cap i
plain-fine v now Plain.next_request h = next-fine v.requests
plain-fine v now (Plain.add_seat name caps) h = add_seat-fine name caps
plain-fine v now (Plain.add_device seat name type caps) h = add_device-fine seat name type caps
plain-fine v now (Plain.remove_seat seat) h = on_found-fine (seat_of seat v) (refuse-fine 12) λ s e. seat_gone-fine h seat s e
plain-fine v now (Plain.remove_device d) h = remove_device-fine d h
plain-fine v now (Plain.resumed d) h = notify-fine d (λ s. Event.Resumed s) (λ k. []) 7 (λ s. refl) (λ s. refl) (λ k. refl)
plain-fine v now (Plain.paused d) h = notify-fine d (λ s. Event.Paused s) (λ k. Edit.amend k Amend.clear_touches ∷ []) 8 (λ s. refl) (λ s. refl) (λ k. refl)
plain-fine v now (Plain.start_emulating d q) h = notify-fine d (λ s. Event.StartEmulating s q) (λ k. []) 9 (λ s. refl) (λ s. refl) (λ k. refl)
plain-fine v now (Plain.stop_emulating d) h = notify-fine d (λ s. Event.StopEmulating s) (λ k. []) 10 (λ s. refl) (λ s. refl) (λ k. refl)
plain-fine v now (Plain.frame d t) h = notify-fine d (λ s. Event.Frame s t) (λ k. []) 11 (λ s. refl) (λ s. refl) (λ k. refl)
plain-fine v now (Plain.disconnected reason explanation) h = disconnected-fine reason explanation h
plain-fine v now Plain.last_serial h = answer-fine _
plain-fine v now (Plain.has_interface name) h = check_utf8-fine name (λ u. answer-fine _)
plain-fine v now (Plain.interface_version name) h = check_utf8-fine name (λ u. answer-fine _)
plain-fine v now (Plain.has_capability d cap) h = on_found-fine (device_of d v) (refuse-fine 12) λ f e. answer-fine _

-- a timed request sends nothing
pend-fine : {v : View} {c : Call Sight} (f : Found) (x : Sight) {held : List ℕ} {amends : List Amend} → Touched held x.touch amends → Fine v c (pend_after amends f x)
unfolding pend_after edit every adds_known
pend-fine f x Touched.same = record { events = nil; edits = refl }
pend-fine f x (Touched.down few) = record { events = nil; edits = refl }
pend-fine f x Touched.up = record { events = nil; edits = refl }

timed-fine : {v : View} {now i ver : ℕ} {x : Sight} {plan : Plan} → Leaf v now (Call.timed i ver x) plan → Fine v (Call.timed i ver x) plan
timed-fine (Leaf.turned o h m) = answer-fine o
timed-fine (Leaf.passed h) = ignore-fine
timed-fine (Leaf.pended {x = y} f amends e g t) = pend-fine f y t

pub decide-fine : (v : View) (now : ℕ) (c : Call Sight) → known v ≡ true → Fine v c (decide v now c)
unfolding decide
decide-fine v now (Call.timed i ver x) h = timed-fine (walk v now (Call.timed i ver x))
decide-fine v now (Call.plain c) h = plain-fine v now c h
