-- An id lives exactly when it was announced and its end was not sent: what the finds find is what stands in the tables (Destroyed), and the connection is gone
-- once `disconnected` was sent, which is its plan's alone (Walk). Assumes nothing.
use Prim.Native.Nat.{ℕ, zero, suc, ◌+◌, ◌≤◌}
use mathlib.Core.Path.{◌≡◌, refl, ap, ap₂, sym, ◌∙◌}
use mathlib.Core.Bool.{Bool, true, false, ◌&&◌, ◌||◌, not, cond}
use mathlib.Core.List.{List, [], ◌∷◌, ◌++◌, map}
use mathlib.Core.Option.{Option, none, some}
use native.Mathlib.Omega.{arith}
use lib.Dec.{eqb, ltb}
use borrow.Author.Tests.{lt-ltb, eq-eqb, ne_eqb}
use Rattle.eiproto.specs.Bits.{bit, bits_of, every, common}
use Rattle.eiproto.specs.Capability.{interface_of_bit}
use Rattle.wire.specs.declared.event.Event.{Event}
use Rattle.model.specs.Call.{Load, Sight, Call, Split, split}
use Rattle.model.specs.Session.{Interface, Seat, Device, Connection, Session, View, fresh, map_session, map_device, blank, view}
use Rattle.model.specs.Edit.{Amend, Edit, next_serial, enact, enact_all}
use Rattle.model.specs.Plan.{Sent, on, Plan, answer, ignore, edit, send}
use Rattle.model.specs.Decide.{Found, version, negotiated_capabilities, later, find, device_of, seat_in, seat_of, pend_after, send_next, name_events, capability_events, interface_event, interface_events, destroyed, objects_of, seat_objects, send_destroyed, decide}
use Rattle.model.specs.Step.{carried_out, source, unchanged, step, run}
use Rattle.model.specs.Demand3.{trail}
use Rattle.model.specs.Reachable.{count_of, seat_ids, device_ids, interface_ids_in, session_after, ids_in}
use Rattle.model.specs.Destroyed.{destroyed_in, standing, LivesStanding}
use Rattle.model.specs.Live.{Object, is_found, listed_as, or_else, listed_in, object_of, interface_object, live, has_disconnected, disconnected_in, LiveIsAnnounced}
use Rattle.model.proofs.Ascending.{once}
use Rattle.model.proofs.ReachableHeld.{both}
use Rattle.model.proofs.Cut.{has-version, Among, Negotiated}
use Rattle.model.proofs.Reachable.{run-ids, after-sound, fresh-sound}
use Rattle.model.proofs.Destroyed.{lives_standing}
use Rattle.model.proofs.Lists.{count-append}
use Rattle.model.proofs.Leaves.{Noted, Touched, Leaf}
use Rattle.model.proofs.Walk.{walk}
use Rattle.model.proofs.Within.{step_by}

-- ---- what is found stands in a table

-- one more is some
one_more : (t : Bool) (n : ℕ) → ltb 0 (cond t 1 0 + n) ≡ t || ltb 0 n
one_more true n = lt-ltb 0 (1 + n) (omega arith)
one_more false n = let z : 0 + n ≡ n = omega arith in ap (ltb 0) z

-- of two numbers that some are
either_some : (n m : ℕ) → ltb 0 (n + m) ≡ ltb 0 n || ltb 0 m
either_some zero m = let z : 0 + m ≡ m = omega arith in ap (ltb 0) z
either_some (suc n) m = lt-ltb 0 (suc n + m) (omega arith) ∙ rw (lt-ltb 0 (suc n) (omega arith))

-- found here or further on
cond-found : {A : Type 0} (t : Bool) (x : A) (o : Option A) → is_found (cond t (some x) o) ≡ t || is_found o
unfolding is_found
cond-found true x o = refl
cond-found false x o = refl

later-found : (o : Option Found) → is_found (later o) ≡ is_found o
unfolding is_found later
later-found none = refl
later-found (some f) = refl

or_else-found : (o other : Option ℕ) → is_found (or_else o other) ≡ is_found o || is_found other
unfolding is_found or_else
or_else-found none other = refl
or_else-found (some b) other = refl

any_found : (a b d : Bool) (o : Option Object) (x y z : Object) →
    is_found (cond a (some x) (cond b (some y) (cond d (some z) o))) ≡ a || (b || (d || is_found o))
unfolding is_found
any_found true b d o x y z = refl
any_found false true d o x y z = refl
any_found false false true o x y z = refl
any_found false false false o x y z = refl

-- ---- what a device lists was negotiated, and so has a version

-- an answer that is among the capabilities of a mask, if there is one
unfoldable AmongOf : (mask : ℕ) → Option ℕ → Type 0
AmongOf m none = Unit {0}
AmongOf m (some b) = bit b m ≡ true

or_else-among : (m : ℕ) (o other : Option ℕ) → AmongOf m o → AmongOf m other → AmongOf m (or_else o other)
unfolding or_else AmongOf
or_else-among m none other h k = k
or_else-among m (some b) other h k = h

listed-among : (m id : ℕ) (is : List Interface) → Among m is → AmongOf m (listed_as id is)
unfolding listed_as AmongOf every
listed-among m id [] a = tt
listed-among m id (i ∷ is) a =
    let p = both (bit i.capability m) (every (λ j. bit j.capability m) is) a in
    go (eqb i.id id) p.0 (listed-among m id is p.1)
  where
    go : (t : Bool) → bit i.capability m ≡ true → AmongOf m (listed_as id is) → AmongOf m (cond t (some i.capability) (listed_as id is))
    go true h k = h
    go false h k = k

interface-found : (c : Connection) (o : Option ℕ) → AmongOf (negotiated_capabilities c) o → is_found (interface_object c o) ≡ is_found o
unfolding AmongOf is_found interface_object object_of
interface-found c none a = refl
interface-found c (some b) a = rw (has-version c b a).1

module _ (id : ℕ) where
  seat-stands : (ss : List Seat) → is_found (seat_in id ss) ≡ ltb 0 (count_of id (map (λ s. s.id) ss))
  unfolding seat_in is_found count_of
  seat-stands [] = refl
  seat-stands (s ∷ ss) =
      cond-found (eqb s.id id) s (seat_in id ss) ∙ ap (λ t. eqb s.id id || t) (seat-stands ss)
      ∙ sym (one_more (eqb s.id id) (count_of id (map (λ s. s.id) ss)))

  listed-stands : (is : List Interface) → is_found (listed_as id is) ≡ ltb 0 (count_of id (map (λ i. i.id) is))
  unfolding listed_as is_found count_of
  listed-stands [] = refl
  listed-stands (i ∷ is) =
      cond-found (eqb i.id id) i.capability (listed_as id is) ∙ ap (λ t. eqb i.id id || t) (listed-stands is)
      ∙ sym (one_more (eqb i.id id) (count_of id (map (λ i. i.id) is)))

  module _ {P : Type 0} where
    pub device-stands : (ds : List (Device P)) → is_found (find (λ d. eqb d.id id) (map (map_device blank) ds)) ≡ ltb 0 (count_of id (map (λ d. d.id) ds))
    unfolding find is_found map_device count_of
    device-stands [] = refl
    device-stands (d ∷ ds) =
        let o = find (λ d. eqb d.id id) (map (map_device blank) ds) in
        cond-found (eqb d.id id) (record { slot = zero; device = map_device blank d }) (later o)
        ∙ ap (λ t. eqb d.id id || t) (later-found o ∙ device-stands ds) ∙ sym (one_more (eqb d.id id) (count_of id (map (λ d. d.id) ds)))

    interface-stands : (ds : List (Device P)) → is_found (listed_in id (map (map_device blank) ds)) ≡ ltb 0 (count_of id (interface_ids_in ds))
    unfolding listed_in is_found map_device interface_ids_in count_of
    interface-stands [] = refl
    interface-stands (d ∷ ds) =
        let own = map (λ i. i.id) d.interfaces in
        or_else-found (listed_as id d.interfaces) (listed_in id (map (map_device blank) ds)) ∙ ap₂ (λ t u. t || u) (listed-stands d.interfaces) (interface-stands ds)
        ∙ sym (ap (ltb 0) (count-append id own (interface_ids_in ds)) ∙ either_some (count_of id own) (count_of id (interface_ids_in ds)))

    devices-among : (m : ℕ) (ds : List (Device P)) → every (λ d. every (λ i. bit i.capability m) d.interfaces) ds ≡ true →
        AmongOf m (listed_in id (map (map_device blank) ds))
    unfolding listed_in map_device AmongOf every
    devices-among m [] a = tt
    devices-among m (d ∷ ds) a =
        let p = both (every (λ i. bit i.capability m) d.interfaces) (every (λ d. every (λ i. bit i.capability m) d.interfaces) ds) a in
        or_else-among m (listed_as id d.interfaces) (listed_in id (map (map_device blank) ds)) (listed-among m id d.interfaces p.0) (devices-among m ds p.1)

    -- the connection that is not gone, or what stands
    live-stands : (s : Session P) → Negotiated s → let c = s.connection in is_found (live (view s) id) ≡ (eqb c.id id && not c.gone) || ltb 0 (standing id s)
    unfolding live view map_session seat_of device_of standing seat_ids device_ids
    live-stands s w =
        let c = s.connection in
        let ds = map (map_device blank) s.devices in
        let devices = count_of id (device_ids s) in
        let interfaces = count_of id (interface_ids_in s.devices) in
        let listed = interface-found c (listed_in id ds) (devices-among (negotiated_capabilities c) s.devices w.devices) ∙ interface-stands s.devices in
        any_found (eqb c.id id && not c.gone) (is_found (seat_in id c.seats)) (is_found (find (λ d. eqb d.id id) ds)) (interface_object c (listed_in id ds)) _ _ _
        ∙ ap (λ t. (eqb c.id id && not c.gone) || t)
        (ap₂ (λ t u. t || u) (seat-stands c.seats)
        (ap₂ (λ t u. t || u) (device-stands s.devices) listed ∙ sym (either_some devices interfaces))
        ∙ sym (either_some (count_of id (seat_ids s)) (devices + interfaces)))

-- ---- the connection's end

or-false : (t : Bool) → t || false ≡ t
or-false true = refl
or-false false = refl

or-true : (t : Bool) → t || true ≡ true
or-true true = refl
or-true false = refl

or_assoc : (t u w : Bool) → (t || u) || w ≡ t || (u || w)
or_assoc true u w = refl
or_assoc false u w = refl

-- whether an edit ends it
unfoldable ends : Edit → Bool
ends (Edit.raise n) = false
ends (Edit.add_seat caps) = false
ends (Edit.remove_seat seat) = false
ends (Edit.add_device seat caps) = false
ends (Edit.remove_device k) = false
ends (Edit.remove_devices_of seat) = false
ends (Edit.amend k a) = false
ends (Edit.pend k sight) = false
ends (Edit.frame k serial time) = false
ends (Edit.queue r) = false
ends Edit.deliver = false
ends (Edit.peer_object id) = false
ends Edit.end_connection = true

unfoldable some_ends : List Edit → Bool
unfolding ends
some_ends [] = false
some_ends (e ∷ es) = ends e || some_ends es

-- the connection's id is the same for good, and it is gone once an edit ended it
record Goes {P : Type 0} (before after : Session P) (ended : Bool) : Type 0 where
  same : after.connection.id ≡ before.connection.id
  gone : after.connection.gone ≡ before.connection.gone || ended

module _ {P : Type 0} where
  stays : (s after : Session P) → after.connection.id ≡ s.connection.id → after.connection.gone ≡ s.connection.gone → Goes s after false
  stays s after e g = record { same = e; gone = g ∙ sym (or-false s.connection.gone) }

  edit_goes : (e : Edit) (p : P) (s : Session P) → Goes s (enact e p s) (ends e)
  unfolding enact ends
  edit_goes (Edit.raise n) p s = stays s _ refl refl
  edit_goes (Edit.add_seat caps) p s = stays s _ refl refl
  edit_goes (Edit.remove_seat seat) p s = stays s _ refl refl
  edit_goes (Edit.add_device seat caps) p s = stays s _ refl refl
  edit_goes (Edit.remove_device k) p s = stays s _ refl refl
  edit_goes (Edit.remove_devices_of seat) p s = stays s _ refl refl
  edit_goes (Edit.amend k a) p s = stays s _ refl refl
  edit_goes (Edit.pend k sight) p s = stays s _ refl refl
  edit_goes (Edit.frame k serial time) p s = stays s _ refl refl
  edit_goes (Edit.queue r) p s = stays s _ refl refl
  edit_goes Edit.deliver p s = stays s _ refl refl
  edit_goes (Edit.peer_object id) p s = stays s _ refl refl
  edit_goes Edit.end_connection p s = record { same = refl; gone = sym (or-true s.connection.gone) }

  goes_on : {s m e : Session P} {a b : Bool} → Goes s m a → Goes m e b → Goes s e (a || b)
  goes_on {s} {m} {e} {a} {b} g h =
      record { same = h.same ∙ g.same; gone = h.gone ∙ ap (λ t. t || b) g.gone ∙ or_assoc s.connection.gone a b }

  edits_go : (es : List Edit) (p : P) (s : Session P) → Goes s (enact_all es p s) (some_ends es)
  unfolding enact_all some_ends
  edits_go [] p s = stays s s refl refl
  edits_go (e ∷ es) p s = goes_on (edit_goes e p s) (edits_go es p (enact e p s))

-- ---- the plans: `disconnected` is sent where the connection is ended

-- no `disconnected` among what destroys or announces something
destroyed_mild : (s : ℕ) (os : List ℕ) (es : List Sent) → has_disconnected (destroyed s os ++ es) ≡ has_disconnected es
unfolding has_disconnected destroyed
destroyed_mild s [] es = refl
destroyed_mild s (o ∷ os) es = destroyed_mild (next_serial s) os es

name_mild : (object : ℕ) (name : Option (List ℕ)) (es : List Sent) → has_disconnected (name_events object name ++ es) ≡ has_disconnected es
unfolding name_events has_disconnected
name_mild object none es = refl
name_mild object (some text) es = refl

capabilities_mild : (seat : ℕ) (bs : List ℕ) (es : List Sent) → has_disconnected (capability_events seat bs ++ es) ≡ has_disconnected es
unfolding capability_events has_disconnected
capabilities_mild seat [] es = refl
capabilities_mild seat (b ∷ bs) es = capabilities_mild seat bs es

interfaces_mild : (c : Connection) (d : ℕ) (is : List Interface) (es : List Sent) → has_disconnected (interface_events c d is ++ es) ≡ has_disconnected es
unfolding interface_events interface_event has_disconnected
interfaces_mild c d [] es = refl
interfaces_mild c d (i ∷ is) es = go (version c (interface_of_bit i.capability)) (interfaces_mild c d is es)
  where
    go : (o : Option ℕ) → has_disconnected (interface_events c d is ++ es) ≡ has_disconnected es → has_disconnected ((interface_event d i o ++ interface_events c d is) ++ es) ≡ has_disconnected es
    go none h = h
    go (some v) h = h

destroyed_only : (s : ℕ) (os : List ℕ) → has_disconnected (destroyed s os) ≡ false
unfolding has_disconnected destroyed
destroyed_only s [] = refl
destroyed_only s (o ∷ os) = destroyed_only (next_serial s) os

-- what is ended is told
abbrev Told : Plan → Type 0
Told plan = some_ends plan.edits ≡ has_disconnected plan.events

pend-told : (f : Found) (y : Sight) {held : List ℕ} {amends : List Amend} → Touched held y.touch amends → Told (pend_after amends f y)
unfolding pend_after edit some_ends has_disconnected
pend-told f y Touched.same = refl
pend-told f y (Touched.down few) = refl
pend-told f y Touched.up = refl

noted-told : {edits : List Edit} → Noted edits → some_ends edits ≡ false
unfolding some_ends
noted-told Noted.nothing = refl
noted-told (Noted.clears k) = refl

leaf_told : {v : View} {now : ℕ} {c : Call Sight} {plan : Plan} → Leaf v now c plan → Told plan
unfolding answer ignore edit send send_next send_destroyed some_ends has_disconnected
leaf_told (Leaf.turned o h m) = refl
leaf_told (Leaf.passed h) = refl
leaf_told (Leaf.pended {x = y} f amends e g t) = pend-told f y t
leaf_told (Leaf.answered o m) = refl
leaf_told (Leaf.synced callback) = refl
leaf_told (Leaf.synced_message callback) = refl
leaf_told (Leaf.noted object event edits m h) = rw (m _).disconnects (noted-told h)
leaf_told (Leaf.released cap id f e) = refl
leaf_told {v} (Leaf.device_gone id f r e) = sym (destroyed_only v.connection.last_serial (objects_of f.device))
leaf_told {v} (Leaf.seat_gone id y r e) = sym (destroyed_only v.connection.last_serial (seat_objects id v.devices))
leaf_told (Leaf.all_gone reason explanation r) = rw destroyed_mild
leaf_told (Leaf.queued u n) = refl
leaf_told (Leaf.flushed id f u n k e) = refl
leaf_told (Leaf.closed id serial time f k e) = refl
leaf_told Leaf.handed = refl
leaf_told {v} (Leaf.new_seat name caps) =
    let c = v.connection in
    sym (name_mild c.next_id name _ ∙ capabilities_mild c.next_id (bits_of (common caps (negotiated_capabilities c))) (on c.next_id Event.Done ∷ []))
leaf_told {v} (Leaf.new_device seat name type caps) =
    let c = v.connection in
    sym (name_mild c.next_id name _ ∙ interfaces_mild c c.next_id _ (on c.next_id Event.Done ∷ []))

-- ---- the calls

module _ {P : Type 0} where
  step_goes : (t : Split P) (s : Session P) → Goes s (step t s).session (has_disconnected (step t s).events)
  unfolding source carried_out unchanged has_disconnected
  step_goes t s =
      step_by t s (λ r. Goes s r.session (has_disconnected r.events))
      (λ o e. stays s s refl refl)
      (rw (leaf_told (walk (view s) t.now t.call)) at (edits_go (decide (view s) t.now t.call).edits t.load s))

  run_goes : (ts : List (Split P)) (s : Session P) → Goes s (session_after ts s) (disconnected_in (run ts s))
  unfolding run session_after disconnected_in
  run_goes [] s = stays s s refl refl
  run_goes (t ∷ ts) s = goes_on (step_goes t s) (run_goes ts (step t s).session)

-- given once, and not destroyed: it stands
given-stands : (given ended stands : ℕ) → given ≡ ended + stands → given ≤ 1 → ltb 0 stands ≡ eqb given 1 && eqb ended 0
given-stands given zero zero e h = rw (ne_eqb given 1 (λ q. omega arith))
given-stands given zero (suc n) e h = rw (eq-eqb given 1 (omega arith)) (lt-ltb 0 (suc n) (omega arith))
given-stands given (suc m) zero e h = rw (ne_eqb (suc m) 0 (λ q. omega arith)) (neither (eqb given 1))
  where
    neither : (t : Bool) → false ≡ t && false
    neither true = refl
    neither false = refl
given-stands given (suc m) (suc n) e h = absurd (omega arith)

pub live_is_announced : LiveIsAnnounced
unfolding LiveIsAnnounced LivesStanding trail fresh
live_is_announced c s n vs ts id =
    let start = fresh {P = Load} c s n vs in
    let after = session_after (map split ts) start in
    let goes = run_goes (map split ts) start in
    let steps = trail c s n vs ts in
    live-stands id after (after-sound (map split ts) start (fresh-sound c s n vs)).negotiated
    ∙ ap₂ (λ t u. t || u) (ap₂ (λ i g. eqb i id && not g) goes.same goes.gone)
    (given-stands (count_of id (ids_in steps)) (count_of id (destroyed_in steps)) (standing id after) (lives_standing c s n vs ts id) (once id (run-ids (map split ts) start)))
