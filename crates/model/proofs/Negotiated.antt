-- What was not negotiated is not made, and no seat offers it: the versions stay, seats' sets and devices' lists stay within them (Cut), and of the plans that
-- there are (Walk) a new device's alone sends interfaces. Assumes nothing.
use Prim.Native.Nat.{ℕ}
use mathlib.Core.Path.{◌≡◌, refl, ap, sym, ◌∙◌}
use mathlib.Core.Bool.{Bool, true, false, cond, true≢false}
use mathlib.Core.List.{List, [], ◌∷◌, ◌++◌, map}
use mathlib.Core.Option.{Option, none, some}
use native.Mathlib.Omega.{arith}
use lib.Dec.{eqb, ltb}
use lib.ListN.{length}
use borrow.Author.Tests.{eqb-true, leb-false}
use Rattle.eiproto.specs.Bits.{every, common, contains}
use Rattle.eiproto.specs.Capability.{interface_of_bit, unknown_bits}
use Rattle.eiproto.proofs.Bits.{contains-common, part_contained, contains-more}
use Rattle.utf8.specs.Rfc3629.{is_utf8}
use Rattle.wire.specs.declared.event.Event.{Event}
use Rattle.wire.specs.Record.{layout}
use Rattle.model.specs.Call.{Sight, Load, Plain, Call, Split, split}
use Rattle.model.specs.Session.{Interface, Untimed, Seat, Connection, Session, View, fresh, view}
use Rattle.model.specs.Edit.{Edit, next_serial, raised, enact, enact_all}
use Rattle.model.specs.Plan.{Sent, on, Result, refusal, Plan, answer, refuse, ignore, edit, send}
use Rattle.model.specs.Decide.{version, negotiated_capabilities, seat_in, seat_of, on_found, check_utf8, check_name, check_optional, check_capabilities, pend_after, send_next, name_events, capability_events, interface_event, interface_events, destroyed, objects_of, seat_objects, seats_objects, explained, send_destroyed, handle_seat, add_seat, seat_added, decide_plain, decide}
use Rattle.model.specs.Step.{carried_out, source, refuses, unchanged, settled, limited, step}
use Rattle.model.specs.Reachable.{session_after}
use Rattle.model.specs.Destroyed.{plainly}
use Rattle.model.specs.Negotiated.{ReachableCut, InterfaceNegotiated, Wants, BindOther, CutNothing}
use Rattle.model.proofs.All.{All, none as no_more, more, all_append}
use Rattle.model.proofs.ReachableHeld.{both}
use Rattle.model.proofs.Cut.{every_map, edits-versions}
use Rattle.model.proofs.Reachable.{after-sound, fresh-sound}
use Rattle.model.proofs.Leaves.{Leaf}
use Rattle.model.proofs.Walk.{walk}
use Rattle.model.proofs.Within.{step_by}

-- ---- the sets

module _ {P : Type 0} where
  step-versions : (t : Split P) (s : Session P) → (step t s).session.connection.versions ≡ s.connection.versions
  unfolding source carried_out unchanged
  step-versions t s =
      step_by t s (λ r. r.session.connection.versions ≡ s.connection.versions) (λ o e. refl)
      (edits-versions (decide (view s) t.now t.call).edits t.load s)

  after-versions : (ts : List (Split P)) (s : Session P) → (session_after ts s).connection.versions ≡ s.connection.versions
  unfolding session_after
  after-versions [] s = refl
  after-versions (t ∷ ts) s = after-versions ts (step t s).session ∙ step-versions t s

pub reachable_cut : ReachableCut
unfolding ReachableCut fresh
reachable_cut c s n vs ts =
    let start = fresh {P = Load} c s n vs in
    let after = session_after (map split ts) start in
    let w = (after-sound (map split ts) start (fresh-sound c s n vs)).negotiated in
    let m = negotiated_capabilities after.connection in
    record {
      same = after-versions (map split ts) start;
      seats = every_map (λ x h. part_contained m x.capabilities (eqb-true (common x.capabilities m) x.capabilities h)) after.connection.seats w.seats;
      devices = w.devices;
    }

-- ---- the interfaces that are sent

-- an event that sends none but with its negotiated version
abbrev Honest : Connection → Event → Type 0
Honest c e = (id interface v : ℕ) → e ≡ Event.Interface id interface v → version c interface ≡ some v

abbrev AllHonest : Connection → List Sent → Type 0
AllHonest c es = All (λ e. Honest c e.event) es

module _ (c : Connection) where
  other : (e : Event) → eqb (layout e).kind 8 ≡ false → Honest c e
  unfolding layout
  other e h id interface v q = absurd (true≢false (sym (ap (λ x. eqb (layout x).kind 8) q) ∙ h))

  interface_honest : (d : ℕ) (i : Interface) (o : Option ℕ) → version c (interface_of_bit i.capability) ≡ o → AllHonest c (interface_event d i o)
  unfolding interface_event
  interface_honest d i none e = no_more
  interface_honest d i (some w) e = more honest no_more
    where
      honest : (id interface v : ℕ) → Event.Interface i.id (interface_of_bit i.capability) w ≡ Event.Interface id interface v → version c interface ≡ some v
      honest id interface v q = cc

  interfaces_honest : (d : ℕ) (is : List Interface) → AllHonest c (interface_events c d is)
  unfolding interface_events
  interfaces_honest d [] = no_more
  interfaces_honest d (i ∷ is) = all_append (interface_honest d i (version c (interface_of_bit i.capability)) refl) (interfaces_honest d is)

  name_honest : (object : ℕ) (name : Option (List ℕ)) → AllHonest c (name_events object name)
  unfolding name_events layout
  name_honest object none = no_more
  name_honest object (some text) = more (other _ refl) no_more

  capabilities_honest : (seat : ℕ) (bs : List ℕ) → AllHonest c (capability_events seat bs)
  unfolding capability_events layout
  capabilities_honest seat [] = no_more
  capabilities_honest seat (b ∷ bs) = more (other _ refl) (capabilities_honest seat bs)

  destroyed_honest : (s : ℕ) (os : List ℕ) → AllHonest c (destroyed s os)
  unfolding destroyed layout
  destroyed_honest s [] = no_more
  destroyed_honest s (o ∷ os) = more (other _ refl) (destroyed_honest (next_serial s) os)

  -- one among others
  among : (before after : List Sent) (e : Sent) → AllHonest c (before ++ (e ∷ after)) → Honest c e.event
  among [] after e (more h a) = h
  among (b ∷ before) after e (more h a) = among before after e a

leaf_honest : {v : View} {now : ℕ} {c : Call Sight} {plan : Plan} → Leaf v now c plan → AllHonest v.connection plan.events
unfolding answer ignore edit send send_next send_destroyed pend_after layout
leaf_honest (Leaf.turned o h m) = no_more
leaf_honest (Leaf.passed h) = no_more
leaf_honest (Leaf.pended f amends e g t) = no_more
leaf_honest (Leaf.answered o m) = no_more
leaf_honest {v} (Leaf.synced callback) = more (other v.connection _ refl) no_more
leaf_honest {v} (Leaf.synced_message callback) = more (other v.connection _ refl) no_more
leaf_honest {v} (Leaf.noted object event edits m h) = more (other v.connection _ (m _).makes) no_more
leaf_honest {v} (Leaf.released cap id f e) = more (other v.connection _ refl) no_more
leaf_honest {v} (Leaf.device_gone id f r e) = destroyed_honest v.connection v.connection.last_serial (objects_of f.device)
leaf_honest {v} (Leaf.seat_gone id y r e) = destroyed_honest v.connection v.connection.last_serial (seat_objects id v.devices)
leaf_honest {v} (Leaf.all_gone reason explanation r) =
    let c = v.connection in
    let gone = seats_objects c.seats v.devices in
    let end = Event.Disconnected (raised (length gone) c.last_serial) reason (explained explanation) in
    all_append (destroyed_honest c c.last_serial gone) (more (other c end refl) no_more)
leaf_honest (Leaf.queued u n) = no_more
leaf_honest (Leaf.flushed id f u n k e) = no_more
leaf_honest (Leaf.closed id serial time f k e) = no_more
leaf_honest Leaf.handed = no_more
leaf_honest {v} (Leaf.new_seat name caps) =
    let c = v.connection in
    more (other c _ refl) (all_append (name_honest c c.next_id name) (all_append (capabilities_honest c c.next_id _) (more (other c _ refl) no_more)))
leaf_honest {v} (Leaf.new_device seat name type both) =
    let c = v.connection in
    more (other c _ refl) (all_append (name_honest c c.next_id name)
    (more (other c _ refl) (all_append (interfaces_honest c c.next_id _) (more (other c _ refl) no_more))))

step_honest : (t : Split Load) (s : Session Load) → AllHonest s.connection (step t s).events
unfolding source carried_out unchanged view
step_honest t s = step_by t s (λ r. AllHonest s.connection r.events) (λ o h. no_more) (leaf_honest (walk (view s) t.now t.call))

pub interface_negotiated : InterfaceNegotiated
unfolding InterfaceNegotiated
interface_negotiated t s before after device id interface v e =
    among s.connection before after (on device (Event.Interface id interface v)) (rw e at (step_honest t s)) id interface v refl

-- ---- what a client asks for

seat-part : (m id : ℕ) (ss : List Seat) (x : Seat) → every (λ y. eqb (common y.capabilities m) y.capabilities) ss ≡ true → seat_in id ss ≡ some x →
    common x.capabilities m ≡ x.capabilities
unfolding seat_in every
seat-part m id [] x h e = let z : ◌≡◌ {A = ℕ} 0 1 = cc in absurd (omega arith)
seat-part m id (s ∷ ss) x h e =
    let p = both (eqb (common s.capabilities m) s.capabilities) (every (λ y. eqb (common y.capabilities m) y.capabilities) ss) h in
    go (eqb s.id id) e (eqb-true (common s.capabilities m) s.capabilities p.0) (λ q. seat-part m id ss x p.1 q)
  where
    go : (t : Bool) → cond t (some s) (seat_in id ss) ≡ some x → common s.capabilities m ≡ s.capabilities →
        (seat_in id ss ≡ some x → common x.capabilities m ≡ x.capabilities) → common x.capabilities m ≡ x.capabilities
    go true q here k = let y : s ≡ x = cc in rw y at here
    go false q here k = k q

-- a set that is not within those of the seat is refused
other-refused : (m : ℕ) (v : View) (seat caps : ℕ) (u : Untimed) (x : Seat) → common x.capabilities m ≡ x.capabilities → seat_of seat v ≡ some x →
    contains m caps ≡ false → handle_seat v seat caps u ≡ refuse 3
unfolding handle_seat on_found
other-refused m v seat caps u x part e n = rw e (go (unknown_bits caps) refl (contains x.capabilities caps) refl)
  where
    go : (large : Bool) → unknown_bits caps ≡ large → (contained : Bool) → contains x.capabilities caps ≡ contained →
        cond large (refuse 3) (cond contained (edit (Edit.queue u ∷ [])) (refuse 3)) ≡ refuse 3
    go true l contained c = refl
    go false l true c =
        absurd (true≢false (sym (contains-more m x.capabilities caps part (omega (arith, leb-false 128 caps l)) c) ∙ n))
    go false l false c = refl

refused-step : {P : Type 0} (t : Split P) (s : Session P) → decide (view s) t.now t.call ≡ refuse 3 → step t s ≡ unchanged s (Result.refused 3)
unfolding step limited settled source carried_out unchanged refuses refusal refuse answer
refused-step t s e = rw e

pub bind_other : BindOther
unfolding BindOther decide decide_plain view seat_of
bind_other c s n vs ts now room seat caps x r w found other =
    refused-step (plainly Load.None now room r) before (go r w)
  where
    before : Session Load
    before = session_after (map split ts) (fresh c s n vs)

    m : ℕ
    m = negotiated_capabilities before.connection

    part : common x.capabilities m ≡ x.capabilities
    part = seat-part m seat before.connection.seats x (after-sound (map split ts) (fresh c s n vs) (fresh-sound c s n vs)).negotiated.seats found

    go : (r : Plain) → Wants seat caps r → decide_plain (view before) now r ≡ refuse 3
    go r Wants.bind = other-refused m (view before) seat caps (Untimed.Bind seat caps) x part found other
    go r Wants.request_device = other-refused m (view before) seat caps (Untimed.RequestDevice seat caps) x part found other

-- ---- a set that is within them

accepted-seat : (id : ℕ) → refuses (Result.seat id) ≡ false
unfolding refuses refusal
accepted-seat id = refl

module _ (s : Session Load) (id caps : ℕ) (name : Option (List ℕ)) (part : contains (negotiated_capabilities s.connection) caps ≡ true) where
  -- a plan that answers with the seat's id stores the set as it is
  record Stores (plan : Plan) : Type 0 where
    stored : plan.outcome ≡ Result.seat id →
        (enact_all plan.edits Load.None s).connection.seats ≡ s.connection.seats ++ (record { id = id; capabilities = caps } ∷ [])

  refused_stores : (n : ℕ) → Stores (refuse n)
  unfolding refuse answer
  refused_stores n = record { stored = λ e. absurd (no_seat e) }
    where
      no_seat : Result.refused n ≡ Result.seat id → ⊥
      no_seat e = let z : ◌≡◌ {A = ℕ} 0 1 = cc in omega arith

  cond_stores : (b : Bool) {x y : Plan} → Stores x → Stores y → Stores (cond b x y)
  cond_stores true hx hy = hx
  cond_stores false hx hy = hy

  added_stores : (large : Bool) → unknown_bits caps ≡ large → Stores (cond large (refuse 13) (seat_added (view s) name caps))
  unfolding view enact_all enact
  added_stores true l = refused_stores 13
  added_stores false l =
      record {
        stored = λ e. rw (contains-common (negotiated_capabilities s.connection) caps (omega (arith, leb-false 128 caps l)) part, same_id e);
      }
    where
      same_id : Result.seat s.connection.next_id ≡ Result.seat id → s.connection.next_id ≡ id
      same_id e = cc

  named_stores : (n : Option (List ℕ)) {plan : Plan} → Stores plan → Stores (check_optional n plan)
  unfolding check_optional check_name check_utf8
  named_stores none h = h
  named_stores (some text) h = cond_stores (is_utf8 text) (cond_stores (ltb 254 (length text)) (refused_stores 11) h) (refused_stores 10)

  seat_stores : Stores (add_seat (view s) name caps)
  unfolding add_seat check_capabilities
  seat_stores = named_stores name (added_stores (unknown_bits caps) refl)

pub cut_nothing : CutNothing
unfolding CutNothing source carried_out unchanged decide decide_plain
cut_nothing now room id caps name s part =
    step_by (plainly Load.None now room (Plain.add_seat name caps)) s
    (λ r. r.outcome ≡ Result.seat id → r.session.connection.seats ≡ s.connection.seats ++ (record { id = id; capabilities = caps } ∷ []))
    (λ o h e. absurd (true≢false (sym h ∙ ap refuses e ∙ accepted-seat id)))
    (seat_stores s id caps name part).stored
