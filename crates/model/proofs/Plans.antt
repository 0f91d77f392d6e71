-- Every plan has one of three forms. What is to hold of every plan is then shown of these, and not of every call. Assumes nothing.
use Prim.Native.Nat.{ℕ}
use mathlib.Core.Path.{◌≡◌, refl, ap, sym, ◌∙◌}
use mathlib.Core.Bool.{Bool, true, false, ◌&&◌, true≢false, false≢true}
use mathlib.Core.List.{List, [], ◌∷◌, ◌++◌, append-nil}
use mathlib.Core.Option.{Option, none, some}
use Rattle.eiproto.specs.Bits.{bit, every}
use Rattle.wire.specs.declared.event.Event.{Event}
use Rattle.model.specs.Call.{Sight, Call}
use Rattle.model.specs.Session.{Interface, Seat, Connection, View}
use Rattle.model.specs.Edit.{Amend, Edit, new_interfaces}
use Rattle.model.specs.Plan.{Sent, on, Result, Plan, answer, ignore, edit, send}
use Rattle.model.specs.Decide.{Found, negotiated_capabilities, send_next, pend_after, name_events, interface_event, interface_events, send_destroyed, remove_seats, decide}
use Rattle.model.specs.Step.{refuses}
use Rattle.model.specs.Demand3.{MadeInterface, made_on, made}
use Rattle.model.proofs.ReachableHeld.{both}
use Rattle.model.proofs.Leaves.{Noted, Leaf}
use Rattle.model.proofs.Walk.{walk, is_timed}
use Rattle.model.proofs.Cut.{has-version, Among, added-among}

-- whether a plan that adds no device may have an edit: a request is pended by a timed one only
unfoldable pub allows : (timed : Bool) → Edit → Bool
allows timed (Edit.raise n) = true
allows timed (Edit.add_seat caps) = true
allows timed (Edit.remove_seat seat) = true
allows timed (Edit.add_device seat caps) = false
allows timed (Edit.remove_device k) = true
allows timed (Edit.remove_devices_of seat) = true
allows timed (Edit.amend k a) = true
allows timed (Edit.pend k sight) = timed
allows timed (Edit.frame k serial time) = true
allows timed (Edit.queue r) = true
allows timed Edit.deliver = true
allows timed (Edit.peer_object id) = true
allows timed Edit.end_connection = true

unfoldable pub allows_all : (timed : Bool) → List Edit → Bool
unfolding allows
allows_all timed [] = true
allows_all timed (e ∷ es) = allows timed e && allows_all timed es

pub allows-cons : (timed : Bool) (e : Edit) (es : List Edit) → allows_all timed (e ∷ es) ≡ true → (allows timed e ≡ true) × (allows_all timed es ≡ true)
unfolding allows_all
allows-cons timed e es h = go (allows timed e) (allows_all timed es) h
  where
    go : (a b : Bool) → (a && b) ≡ true → (a ≡ true) × (b ≡ true)
    go true b h = (refl, h)
    go false b h = absurd (false≢true h)

-- the interfaces of a device, as its answer tells them
unfoldable pub made_with : (device : ℕ) → List Interface → List MadeInterface
made_with d [] = []
made_with d (i ∷ is) = record { interface = i.id; device = d } ∷ made_with d is

-- the plans of a session whose next id is `next`
pub data Formed (timed : Bool) (next : ℕ) : Plan → Type 0 where
  -- an answer and nothing else; each refusal is one
  answers : (o : Result) → Formed timed next (record { outcome = o; events = []; edits = [] })
  acts : (o : Result) (events : List Sent) (edits : List Edit) → refuses o ≡ false → made o events ≡ [] → allows_all timed edits ≡ true →
      Formed timed next (record { outcome = o; events = events; edits = edits })
  -- a new device, whose interfaces its events tell
  adds : (events : List Sent) (seat capabilities : ℕ) → made_on next events ≡ made_with next (new_interfaces next capabilities) →
      Formed timed next (record { outcome = Result.device next; events = events; edits = Edit.add_device seat capabilities ∷ [] })

pend-allowed : (amends : List Amend) (f : Found) (s : Sight) → allows_all true (pend_after amends f s).edits ≡ true
unfolding pend_after allows_all
pend-allowed [] f s = refl
pend-allowed (a ∷ more) f s = pend-allowed more f s

remove_seats-allowed : (ss : List Seat) → allows_all false (remove_seats ss) ≡ true
unfolding remove_seats allows_all
remove_seats-allowed [] = refl
remove_seats-allowed (s ∷ ss) = remove_seats-allowed ss

noted-allowed : {edits : List Edit} → Noted edits → allows_all false edits ≡ true
unfolding allows_all
noted-allowed Noted.nothing = refl
noted-allowed (Noted.clears k) = refl

-- the events of a new device that tell no interface
pub name-made : (d object : ℕ) (name : Option (List ℕ)) (es : List Sent) → made_on d (name_events object name ++ es) ≡ made_on d es
unfolding name_events made_on
name-made d object none es = refl
name-made d object (some text) es = refl

-- one that tells each interface, where each was negotiated
pub interfaces-made : (c : Connection) (d object : ℕ) (is : List Interface) (es : List Sent) → Among (negotiated_capabilities c) is →
    made_on d (interface_events c object is ++ es) ≡ made_with d is ++ made_on d es
unfolding interface_events interface_event made_on made_with every
interfaces-made c d object [] es a = refl
interfaces-made c d object (i ∷ is) es a =
    let m = negotiated_capabilities c in
    let p = both (bit i.capability m) (every (λ j. bit j.capability m) is) a in
    rw (has-version c i.capability p.0).1 (ap (λ r. record { interface = i.id; device = d } ∷ r) (interfaces-made c d object is es p.1))

leaf_formed : {v : View} {now : ℕ} {c : Call Sight} {plan : Plan} → Leaf v now c plan → Formed (is_timed c) v.connection.next_id plan
unfolding is_timed answer ignore pend_after edit send send_next send_destroyed refuses made allows_all made_on
leaf_formed (Leaf.turned o h m) = answers o
leaf_formed (Leaf.passed h) = answers Result.accepted
leaf_formed (Leaf.pended {x = x} f amends e g t) = acts Result.accepted [] _ refl refl (pend-allowed amends f x)
leaf_formed (Leaf.answered o m) = answers o
leaf_formed (Leaf.synced callback) = acts Result.accepted _ _ refl refl refl
leaf_formed (Leaf.synced_message callback) = acts Result.accepted _ _ refl refl refl
leaf_formed (Leaf.noted object event edits m h) = acts Result.accepted _ _ refl refl (noted-allowed h)
leaf_formed (Leaf.released cap id f e) = acts Result.accepted _ _ refl refl refl
leaf_formed (Leaf.device_gone id f r e) = acts Result.accepted _ _ refl refl refl
leaf_formed (Leaf.seat_gone id x r e) = acts Result.accepted _ _ refl refl refl
leaf_formed {v = v} (Leaf.all_gone reason explanation r) = acts Result.accepted _ _ refl refl (remove_seats-allowed v.connection.seats)
leaf_formed (Leaf.queued u n) = acts Result.accepted _ _ refl refl refl
leaf_formed (Leaf.flushed id f u n k e) = acts Result.accepted _ _ refl refl refl
leaf_formed (Leaf.closed id serial time f k e) = acts Result.accepted _ _ refl refl refl
leaf_formed Leaf.handed = acts Result.given _ _ refl refl refl
leaf_formed {v = v} (Leaf.new_seat name caps) = acts (Result.seat v.connection.next_id) _ _ refl refl refl
leaf_formed {v = v} (Leaf.new_device seat name type both) =
    let id = v.connection.next_id in
    let c = v.connection in
    adds _ seat _ (name-made id id name _ ∙ interfaces-made c id id _ (on id Event.Done ∷ []) (added-among c id both) ∙ append-nil _)

pub decide_formed : (v : View) (now : ℕ) (c : Call Sight) → Formed (is_timed c) v.connection.next_id (decide v now c)
decide_formed v now c = leaf_formed (walk v now c)

-- "A refusal returns the session unchanged, writes nothing": as the plan already has it
pub refused-still : {timed : Bool} {next : ℕ} {plan : Plan} → Formed timed next plan → refuses plan.outcome ≡ true → plan ≡ answer plan.outcome
unfolding answer refuses
refused-still (answers o) h = refl
refused-still (acts o events edits n m a) h = absurd (true≢false (sym h ∙ n))
refused-still (adds events seat caps m) h = absurd (true≢false (sym h))
