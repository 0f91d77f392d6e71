-- An event on an object has messages on one interface alone: an id stands at one place of the tables at most, above the connection's and below those to come; and what
-- a callback has, no other interface has. Assumes nothing.
use Prim.Native.Nat.{ℕ, zero, suc, ◌+◌, ◌≤◌, ◌<◌}
use mathlib.Core.Path.{◌≡◌, refl, ap, sym, ◌∙◌}
use mathlib.Core.Bool.{Bool, true, false, ◌&&◌, ◌||◌, not, cond, false≢true}
use mathlib.Core.List.{List, [], ◌∷◌, ◌++◌, map}
use mathlib.Core.Option.{Option, none, some}
use native.Mathlib.Omega.{arith}
use lib.Dec.{eqb, ltb}
use lib.ListN.{get_or, drop}
use borrow.Author.Tests.{ltb-true, eqb-true, eqb-false, not-true, lt-ltb, le-ltb, eq-eqb, ne_eqb}
use Rattle.eiproto.specs.Bits.{every}
use Rattle.eiproto.specs.Capability.{interface_of_bit}
use Rattle.eiproto.specs.Interface.{ei_connection, ei_callback, ei_seat, ei_device}
use Rattle.eiproto.specs.declared.eiproto_enum.DeviceType.{DeviceType}
use Rattle.wire.specs.Record.{layout}
use Rattle.wire.specs.declared.event.Event.{Event}
use Rattle.event_messages.specs.Table.{table, kind_of}
use Rattle.model.specs.Call.{Load, Sight, Plain, Call, Turn, Split, split}
use Rattle.model.specs.Session.{Interface, Seat, Device, Session, fresh, map_device, blank, view}
use Rattle.model.specs.Plan.{Sent}
use Rattle.model.specs.Edit.{Edit, enact, enact_all}
use Rattle.model.specs.Decide.{Found, later, find, lists_as, device_of, device_for_interface, seat_in, seat_of, decide}
use Rattle.model.specs.Step.{carried_out, source, unchanged, step}
use Rattle.model.specs.Demand3.{trail}
use Rattle.model.specs.Reachable.{count_of, seat_ids, device_ids, interface_ids_in, session_after}
use Rattle.model.specs.Destroyed.{standing, LivesStanding}
use Rattle.model.specs.Live.{is_found, listed_as, or_else, listed_in}
use Rattle.model.proofs.Ascending.{Between, end, next, bounds, once}
use Rattle.model.proofs.Destroyed.{lives_standing}
use Rattle.model.proofs.Lists.{count-append}
use Rattle.model.proofs.Live.{device-stands}
use Rattle.model.proofs.Reachable.{run-ids}
use Rattle.model.proofs.ReachableHeld.{both}
use Rattle.model.proofs.Within.{step_by}
use Rattle.sent_events.specs.Sendable.{Maker, HasMessage, OneInterface}

-- ---- what is found stands in a table, and tells its capability where it stands once

module _ (id : ℕ) where
  seat_count_lem : (ss : List Seat) → is_found (seat_in id ss) ≡ true → 0 < count_of id (map (λ s. s.id) ss)
  unfolding seat_in is_found count_of
  seat_count_lem [] h = absurd (false≢true h)
  seat_count_lem (s ∷ ss) h = go (eqb s.id id) h (seat_count_lem ss)
    where
      go : (b : Bool) → is_found (cond b (some s) (seat_in id ss)) ≡ true → (is_found (seat_in id ss) ≡ true → 0 < count_of id (map (λ s. s.id) ss)) →
          0 < cond b 1 0 + count_of id (map (λ s. s.id) ss)
      go true q k = omega arith
      go false q k = omega (arith, k q)

  unlisted : (is : List Interface) → count_of id (map (λ i. i.id) is) ≡ 0 → listed_as id is ≡ none
  unfolding listed_as count_of
  unlisted [] h = refl
  unlisted (i ∷ is) h = go (eqb i.id id) h (unlisted is)
    where
      go : (b : Bool) → cond b 1 0 + count_of id (map (λ i. i.id) is) ≡ 0 → (count_of id (map (λ i. i.id) is) ≡ 0 → listed_as id is ≡ none) →
          cond b (some i.capability) (listed_as id is) ≡ none
      go true q k = absurd (omega arith)
      go false q k = k (omega arith)

  module _ (bit : ℕ) where
    record Listed (count : ℕ) (told : Option ℕ) : Type 0 where
      counted : 0 < count
      alone : count ≤ 1 → told ≡ some bit

    lists-told : (is : List Interface) → lists_as bit id is ≡ true → Listed (count_of id (map (λ i. i.id) is)) (listed_as id is)
    unfolding lists_as listed_as count_of
    lists-told [] h = absurd (false≢true h)
    lists-told (i ∷ is) h = go (eqb i.capability bit) (eqb i.id id) refl h (lists-told is)
      where
        rest : ℕ
        rest = count_of id (map (λ i. i.id) is)

        past : (b : Bool) → Listed rest (listed_as id is) → Listed (cond b 1 0 + rest) (cond b (some i.capability) (listed_as id is))
        past true x = record { counted = omega arith; alone = λ l. absurd (omega (arith, x.counted)) }
        past false x = record { counted = omega (arith, x.counted); alone = λ l. x.alone (omega arith) }

        go : (a b : Bool) → eqb i.capability bit ≡ a → (a && b) || lists_as bit id is ≡ true → (lists_as bit id is ≡ true → Listed rest (listed_as id is)) →
            Listed (cond b 1 0 + rest) (cond b (some i.capability) (listed_as id is))
        go true true e q k = record { counted = omega arith; alone = λ l. ap some (eqb-true i.capability bit e) }
        go true false e q k = past false (k q)
        go false b e q k = past b (k q)

    module _ {P : Type 0} where
      interface_told_lem : (ds : List (Device P)) → is_found (find (λ d. lists_as bit id d.interfaces) (map (map_device blank) ds)) ≡ true →
          Listed (count_of id (interface_ids_in ds)) (listed_in id (map (map_device blank) ds))
      unfolding find later is_found map_device interface_ids_in listed_in or_else count_of
      interface_told_lem [] h = absurd (false≢true h)
      interface_told_lem (d ∷ ds) h = go (lists_as bit id d.interfaces) (find (λ d. lists_as bit id d.interfaces) (map (map_device blank) ds)) refl h (interface_told_lem ds)
        where
          own : List ℕ
          own = map (λ i. i.id) d.interfaces

          others : Option ℕ
          others = listed_in id (map (map_device blank) ds)

          both : count_of id (own ++ interface_ids_in ds) ≡ count_of id own + count_of id (interface_ids_in ds)
          both = count-append id own (interface_ids_in ds)

          go : (b : Bool) (o : Option Found) → lists_as bit id d.interfaces ≡ b →
              is_found (cond b (some (record { slot = zero; device = map_device blank d })) (later o)) ≡ true →
              (is_found o ≡ true → Listed (count_of id (interface_ids_in ds)) others) →
              Listed (count_of id (own ++ interface_ids_in ds)) (or_else (listed_as id d.interfaces) others)
          go true o e q k =
              let x = lists-told d.interfaces e in
              record { counted = omega (arith, x.counted, both); alone = λ l. rw (x.alone (omega (arith, both))) }
          go false none e q k = absurd (false≢true q)
          go false (some f) e q k =
              let x = k refl in
              record { counted = omega (arith, x.counted, both); alone = λ l. rw (unlisted d.interfaces (omega (arith, x.counted, both))) (x.alone (omega (arith, both))) }

-- ---- a session in which ids are apart

unfoldable bit_told : Option ℕ → ℕ
bit_told none = 0
bit_told (some b) = interface_of_bit b

module _ {P : Type 0} where
  -- an id stands once at most, between the connection's id and the next that is given
  record Apart (s : Session P) (id : ℕ) : Type 0 where
    alone : standing id s ≤ 1
    above : 0 < standing id s → s.connection.id < id
    below : 0 < standing id s → id < s.connection.next_id
    ahead : s.connection.id < s.connection.next_id

  -- the interface of what stands
  unfoldable told : Session P → ℕ → ℕ
  told s id =
      cond (eqb s.connection.id id) ei_connection
      (cond (ltb 0 (count_of id (seat_ids s))) ei_seat
      (cond (ltb 0 (count_of id (device_ids s))) ei_device (bit_told (listed_in id (map (map_device blank) s.devices)))))

-- what a call makes
data New : Call Sight → (interface : ℕ) → Type 0 where
  callback : {id version : ℕ} → New (Call.plain (Plain.sync id version)) ei_callback
  callback_read : {id version : ℕ} → New (Call.plain (Plain.sync_message id version)) ei_callback
  new_seat : {name : Option (List ℕ)} {caps : ℕ} → New (Call.plain (Plain.add_seat name caps)) ei_seat
  new_device : {seat caps : ℕ} {name : Option (List ℕ)} {type : DeviceType} → New (Call.plain (Plain.add_device seat name type caps)) ei_device

new_same : {c : Call Sight} {i j : ℕ} → New c i → New c j → i ≡ j
new_same callback callback = refl
new_same callback_read callback_read = refl
new_same new_seat new_seat = refl
new_same new_device new_device = refl

data Sort {P : Type 0} (s : Session P) (c : Call Sight) (i id : ℕ) : Type 0 where
  old : i ≡ told s id → id < s.connection.next_id → Sort s c i id
  made : New c i → id ≡ s.connection.next_id → Sort s c i id
  asked : New c i → i ≡ ei_callback → Sort s c i id

module _ {P : Type 0} (s : Session P) where
  far : {id : ℕ} → Apart s id → 0 < standing id s → eqb s.connection.id id ≡ false
  far {id} a l = ne_eqb s.connection.id id (λ e. omega (arith, a.above l))

  sorted : {c : Call Sight} {i id : ℕ} → Apart s id → Maker (view s) c i id → Sort s c i id
  unfolding told view seat_of device_of device_for_interface standing seat_ids device_ids bit_told
  sorted a Maker.connection = old (rw (eq-eqb s.connection.id s.connection.id refl)) a.ahead
  sorted {id = id} a (Maker.seat h) =
      let seats = count_of id (map (λ x. x.id) s.connection.seats) in
      let n = seat_count_lem id s.connection.seats h in
      old (rw (far a (omega arith), lt-ltb 0 seats n)) (a.below (omega arith))
  sorted {id = id} a (Maker.device h) =
      let seats = count_of id (map (λ x. x.id) s.connection.seats) in
      let devices = count_of id (map (λ d. d.id) s.devices) in
      let n = ltb-true 0 devices (sym (device-stands id s.devices) ∙ h) in
      old (rw (far a (omega arith), le-ltb 0 seats (omega (arith, a.alone)), lt-ltb 0 devices n)) (a.below (omega arith))
  sorted {id = id} a (Maker.interface bit h) =
      let seats = count_of id (map (λ x. x.id) s.connection.seats) in
      let devices = count_of id (map (λ d. d.id) s.devices) in
      let x = interface_told_lem id bit s.devices h in
      let n = x.counted in
      old
      (rw (far a (omega arith), le-ltb 0 seats (omega (arith, a.alone)), le-ltb 0 devices (omega (arith, a.alone)), x.alone (omega (arith, a.alone))))
      (a.below (omega arith))
  sorted a Maker.callback = asked New.callback refl
  sorted a Maker.callback_read = asked New.callback_read refl
  sorted a Maker.new_seat = made New.new_seat refl
  sorted a Maker.new_device = made New.new_device refl

-- ---- the table

-- every kind is a number above 0
kind-counts : (e : Event) → 0 < (layout e).kind
unfolding layout
kind-counts (Event.Seat id version) = omega arith
kind-counts Event.Name = omega arith
kind-counts (Event.Capability mask interface) = omega arith
kind-counts Event.Done = omega arith
kind-counts (Event.Destroyed serial) = omega arith
kind-counts (Event.Device id version) = omega arith
kind-counts (Event.DeviceType value) = omega arith
kind-counts (Event.Interface id interface version) = omega arith
kind-counts (Event.Resumed serial) = omega arith
kind-counts (Event.Paused serial) = omega arith
kind-counts (Event.StartEmulating serial sequence) = omega arith
kind-counts (Event.StopEmulating serial) = omega arith
kind-counts (Event.Frame serial time) = omega arith
kind-counts (Event.Disconnected serial reason explained) = omega arith
kind-counts (Event.CallbackDone value) = omega arith
kind-counts (Event.HandshakeVersion version) = omega arith
kind-counts (Event.InterfaceVersion interface version) = omega arith
kind-counts (Event.Connection id serial version) = omega arith

-- no 15 in a row, nor in rows
abbrev without15 : List ℕ → Bool
without15 row = every (λ kind. not (eqb kind 15)) row

row-without : (row : List ℕ) (opcode : ℕ) → without15 row ≡ true → get_or row opcode 0 ≡ 15 → ⊥
unfolding every
row-without [] opcode h e = omega arith
row-without (x ∷ row) zero h e = eqb-false x 15 (not-true (eqb x 15) (both (not (eqb x 15)) (without15 row) h).0) e
row-without (x ∷ row) (suc opcode) h e = row-without row opcode (both (not (eqb x 15)) (without15 row) h).1 e

rows-without : (rows : List (List ℕ)) (i opcode : ℕ) → every without15 rows ≡ true → get_or (get_or rows i []) opcode 0 ≡ 15 → ⊥
unfolding every
rows-without [] i opcode h e = omega arith
rows-without (row ∷ rows) zero opcode h e = row-without row opcode (both (without15 row) (every without15 rows) h).0 e
rows-without (row ∷ rows) (suc i) opcode h e = rows-without rows i opcode (both (without15 row) (every without15 rows) h).1 e

-- a callback has one event, and no other interface has it
callback-has : (opcode kind : ℕ) → 0 < kind → kind_of ei_callback opcode ≡ kind → kind ≡ 15
unfolding kind_of
callback-has zero kind l e = sym e
callback-has (suc opcode) kind l e = absurd (omega arith)

callback-alone : (i opcode : ℕ) → kind_of i opcode ≡ 15 → i ≡ ei_callback
unfolding kind_of every
callback-alone zero opcode e = absurd (row-without (get_or table 0 []) opcode refl e)
callback-alone (suc zero) opcode e = absurd (row-without (get_or table 1 []) opcode refl e)
callback-alone (suc (suc zero)) opcode e = refl
callback-alone (suc (suc (suc i))) opcode e = absurd (rows-without (drop 3 table) i opcode refl e)

-- ---- one interface

module _ {P : Type 0} (s : Session P) (c : Call Sight) (e : Sent) (a : Apart s e.object) where
  -- a callback's event is on no other interface
  asked_same : (x y : HasMessage (view s) c e) → x.interface ≡ ei_callback → x.interface ≡ y.interface
  asked_same x y q =
      let k = callback-has x.opcode (layout e.event).kind (kind-counts e.event) (rw q at x.has) in
      q ∙ sym (callback-alone y.interface y.opcode (y.has ∙ k))

  same : (x y : HasMessage (view s) c e) → Sort s c x.interface e.object → Sort s c y.interface e.object → x.interface ≡ y.interface
  same x y (old p l) (old q m) = p ∙ sym q
  same x y (old p l) (made n q) = absurd (omega arith)
  same x y (old p l) (asked n q) = sym (asked_same y x q)
  same x y (made n p) (old q m) = absurd (omega arith)
  same x y (made n p) (made m q) = new_same n m
  same x y (made n p) (asked m q) = new_same n m
  same x y (asked n p) (old q m) = asked_same x y p
  same x y (asked n p) (made m q) = new_same n m
  same x y (asked n p) (asked m q) = new_same n m

-- ---- sessions that calls lead to

module _ {P : Type 0} where
  edit_same : (e : Edit) (p : P) (s : Session P) → (enact e p s).connection.id ≡ s.connection.id
  unfolding enact
  edit_same (Edit.raise n) p s = refl
  edit_same (Edit.add_seat caps) p s = refl
  edit_same (Edit.remove_seat seat) p s = refl
  edit_same (Edit.add_device seat caps) p s = refl
  edit_same (Edit.remove_device k) p s = refl
  edit_same (Edit.remove_devices_of seat) p s = refl
  edit_same (Edit.amend k a) p s = refl
  edit_same (Edit.pend k sight) p s = refl
  edit_same (Edit.frame k serial time) p s = refl
  edit_same (Edit.queue r) p s = refl
  edit_same Edit.deliver p s = refl
  edit_same (Edit.peer_object id) p s = refl
  edit_same Edit.end_connection p s = refl

  edits_same : (es : List Edit) (p : P) (s : Session P) → (enact_all es p s).connection.id ≡ s.connection.id
  unfolding enact_all
  edits_same [] p s = refl
  edits_same (e ∷ es) p s = edits_same es p (enact e p s) ∙ edit_same e p s

  after_same : (ts : List (Split P)) (s : Session P) → (session_after ts s).connection.id ≡ s.connection.id
  unfolding session_after source carried_out unchanged
  after_same [] s = refl
  after_same (t ∷ ts) s =
      after_same ts (step t s).session
      ∙ step_by t s (λ r. r.session.connection.id ≡ s.connection.id) (λ o e. refl) (edits_same (decide (view s) t.now t.call).edits t.load s)

-- a number in a list that ascends is within its bounds
within : {low high : ℕ} {xs : List ℕ} (id : ℕ) → Between low xs high → 0 < count_of id xs → (low ≤ id) × (id < high)
unfolding count_of
within id (end l) h = absurd (omega arith)
within {low} {high} id (next {x = x} {xs = xs} l b) h = go (eqb x id) refl h (within id b)
  where
    go : (t : Bool) → eqb x id ≡ t → 0 < cond t 1 0 + count_of id xs → (0 < count_of id xs → (x + 1 ≤ id) × (id < high)) → (low ≤ id) × (id < high)
    go true e q k = (omega (arith, eqb-true x id e), omega (arith, eqb-true x id e, bounds b))
    go false e q k = let r = k (omega arith) in (omega (arith, r.0), r.1)

reached_apart : (c s n : ℕ) (vs : List (Option ℕ)) (ts : List Turn) (id : ℕ) → c < n → Apart (session_after (map split ts) (fresh {P = Load} c s n vs)) id
unfolding trail fresh LivesStanding
reached_apart c s n vs ts id l =
    let first = fresh {P = Load} c s n vs in
    let ids = run-ids (map split ts) first in
    let same = after_same (map split ts) first in
    let lives = lives_standing c s n vs ts id in
    record {
      alone = omega (arith, once id ids);
      above = λ h. omega (arith, (within id ids (omega arith)).0);
      below = λ h. (within id ids (omega arith)).1;
      ahead = omega (arith, bounds ids);
    }

pub one_interface : OneInterface
unfolding OneInterface
one_interface c s n vs ts call e l x y =
    let after = session_after (map split ts) (fresh {P = Load} c s n vs) in
    let a = reached_apart c s n vs ts e.object l in
    same after call e a x y (sorted after a x.maker) (sorted after a y.maker)
