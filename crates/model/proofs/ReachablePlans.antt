-- Every plan of `decide` fits: carried out, it keeps the held touches within 16, and the ids that its answer tells ascend from the session's next id up
-- to the one after. By the plans that there are (Walk). Assumes nothing.
use Prim.Native.Nat.{ℕ, ◌+◌, ◌<◌}
use mathlib.Core.Path.{◌≡◌, refl, ap}
use mathlib.Core.Bool.{true, false, false≢true}
use mathlib.Core.List.{List, [], ◌∷◌, ◌++◌, map}
use mathlib.Core.Option.{Option, none, some}
use native.Mathlib.Nat.{le_refl}
use lib.ListN.{length}
use Rattle.eiproto.specs.Capability.{capability_index}
use Rattle.eiproto.specs.Bits.{common}
use Rattle.wire.specs.declared.event.Event.{Event}
use Rattle.model.specs.Call.{Sight, Call}
use Rattle.model.specs.Session.{Interface, Seat, Device, Connection, Session, map_device, view}
use Rattle.model.specs.Edit.{Amend, Edit, new_interfaces, enact, enact_all}
use Rattle.model.specs.Plan.{on, Result, Plan, answer, ignore, edit, send}
use Rattle.model.specs.Decide.{Found, negotiated_capabilities, device_version, lists_as, pend_after, handler, device_for_interface, name_events, interface_events, remove_seats, send_next, send_destroyed, decide}
use Rattle.model.specs.Demand3.{made_on}
use Rattle.model.specs.Reachable.{new_ids}
use Rattle.model.proofs.Finding.{found-holds}
use Rattle.model.proofs.Ascending.{Between, end, next}
use Rattle.model.proofs.Cut.{Among, added-among}
use Rattle.model.proofs.Plans.{made_with, name-made, interfaces-made}
use Rattle.model.proofs.ReachableOrder.{ids_of, new_between, edits-next_id}
use Rattle.model.proofs.ReachableHeld.{all_quiet, Held, touches_at, edits-held, down_held}
use Rattle.model.proofs.Leaves.{modest, Noted, Touched, Leaf}
use Rattle.model.proofs.Walk.{walk}

-- ---- the ids that the events of a new device tell

made-ids : (d : ℕ) (is : List Interface) → map (λ m. m.interface) (made_with d is ++ []) ≡ ids_of is
unfolding made_with
made-ids d [] = refl
made-ids d (i ∷ is) = ap (λ r. i.id ∷ r) (made-ids d is)

-- stated over any interfaces, so that those of a new device stay uncomputed
pub device_ids_lem : (id seat ver type : ℕ) (name : Option (List ℕ)) (c : Connection) (is : List Interface) → Among (negotiated_capabilities c) is →
    new_ids (Result.device id) (on seat (Event.Device id ver) ∷ name_events id name ++ (on id (Event.DeviceType type) ∷ interface_events c id is ++ (on id Event.Done ∷ [])))
    ≡ id ∷ ids_of is
unfolding new_ids made_on
device_ids_lem id seat ver type name c is a = rw (name-made id id name, interfaces-made c id id is (on id Event.Done ∷ []) a) (ap (λ r. id ∷ r) (made-ids id is))

device-told : (id seat ver type : ℕ) (name : Option (List ℕ)) (c : Connection) (is : List Interface) (high : ℕ) → Among (negotiated_capabilities c) is →
    Between id (id ∷ ids_of is) high →
    Between id
    (new_ids (Result.device id) (on seat (Event.Device id ver) ∷ name_events id name ++ (on id (Event.DeviceType type) ∷ interface_events c id is ++ (on id Event.Done ∷ []))))
    high
device-told id seat ver type name c is high a b = rw (device_ids_lem id seat ver type name c is a) b

remove_seats-quiet : (ss : List Seat) → all_quiet (remove_seats ss) ≡ true
unfolding remove_seats all_quiet
remove_seats-quiet [] = refl
remove_seats-quiet (x ∷ ss) = remove_seats-quiet ss

noted-quiet : {edits : List Edit} → Noted edits → all_quiet edits ≡ true
unfolding all_quiet
noted-quiet Noted.nothing = refl
noted-quiet (Noted.clears k) = refl

pub modest-ids : (o : Result) → modest o ≡ true → new_ids o [] ≡ []
unfolding modest new_ids
modest-ids Result.accepted h = refl
modest-ids (Result.refused n) h = refl
modest-ids (Result.refused_version i v) h = refl
modest-ids (Result.seat id) h = absurd (false≢true h)
modest-ids (Result.device id) h = absurd (false≢true h)
modest-ids (Result.value n) h = refl
modest-ids (Result.truth b) h = refl
modest-ids Result.none h = refl
modest-ids Result.given h = refl

-- ---- the plans

module _ {P : Type 0} (s : Session P) (p : P) where
  pub record Fits (plan : Plan) : Type 0 where
    pub held : Held s.devices → Held (enact_all plan.edits p s).devices
    pub ids : Between s.connection.next_id (new_ids plan.outcome plan.events) (enact_all plan.edits p s).connection.next_id

  -- a plan that gives no id and puts no touch down
  fits-quiet : (plan : Plan) → new_ids plan.outcome plan.events ≡ [] → all_quiet plan.edits ≡ true → Fits plan
  fits-quiet plan e q = record { held = edits-held plan.edits p s q; ids = rw e (end (edits-next_id plan.edits p s)) }

  -- a touch down, where fewer than 16 are held
  down_fits : (f : Found) (x : Sight) (t : ℕ) → touches_at f.slot s.devices ≡ f.device.down_touch_ids → length f.device.down_touch_ids < 16 → Fits (pend_after (Amend.touch_down t ∷ []) f x)
  unfolding pend_after edit new_ids enact_all enact all_quiet
  down_fits f x t e few =
      let k = f.slot in
      record {
        held = λ h. edits-held (Edit.pend k x ∷ []) p (enact (Edit.amend k (Amend.touch_down t)) p s) refl (down_held t k s.devices (rw e few) h);
        ids = end (edits-next_id (Edit.amend k (Amend.touch_down t) ∷ Edit.pend k x ∷ []) p s);
      }

  pend-fits : (f : Found) (x : Sight) {amends : List Amend} → touches_at f.slot s.devices ≡ f.device.down_touch_ids → Touched f.device.down_touch_ids x.touch amends → Fits (pend_after amends f x)
  unfolding pend_after edit new_ids all_quiet
  pend-fits f x e Touched.same = fits-quiet _ refl refl
  pend-fits f x e (Touched.down few) = down_fits f x x.touch e few
  pend-fits f x e Touched.up = fits-quiet _ refl refl

  answer-fits : (o : Result) → modest o ≡ true → Fits (answer o)
  unfolding answer all_quiet
  answer-fits o h = fits-quiet (answer o) (modest-ids o h) refl

  -- the device that is found holds what the one in its slot does
  found-touches : (cap i : ℕ) (f : Found) → device_for_interface cap i (view s) ≡ some f → touches_at f.slot s.devices ≡ f.device.down_touch_ids
  unfolding device_for_interface view touches_at map_device
  found-touches cap i f e =
      found-holds (λ d. lists_as cap i d.interfaces) (λ ds g. touches_at g.slot ds ≡ g.device.down_touch_ids) (λ d ds t. refl) (λ d ds g h. h) s.devices f e

  leaf_fits : {now : ℕ} {c : Call Sight} {plan : Plan} → Leaf (view s) now c plan → Fits plan
  unfolding ignore modest edit send send_next send_destroyed new_ids all_quiet enact_all enact view
  leaf_fits (Leaf.turned o h m) = answer-fits o m
  leaf_fits (Leaf.passed h) = answer-fits Result.accepted refl
  leaf_fits (Leaf.pended {i = i} {x = x} f amends e g t) = pend-fits f x (found-touches (capability_index (handler x.kind).capability) i f e) t
  leaf_fits (Leaf.answered o m) = answer-fits o m
  leaf_fits (Leaf.synced callback) = fits-quiet _ refl refl
  leaf_fits (Leaf.synced_message callback) = fits-quiet _ refl refl
  leaf_fits (Leaf.noted object event edits m h) = fits-quiet _ refl (noted-quiet h)
  leaf_fits (Leaf.released cap id f e) = fits-quiet _ refl refl
  leaf_fits (Leaf.device_gone id f r e) = fits-quiet _ refl refl
  leaf_fits (Leaf.seat_gone id x r e) = fits-quiet _ refl refl
  leaf_fits (Leaf.all_gone reason explanation r) = fits-quiet _ refl (remove_seats-quiet s.connection.seats)
  leaf_fits (Leaf.queued u n) = fits-quiet _ refl refl
  leaf_fits (Leaf.flushed id f u n k e) = fits-quiet _ refl refl
  leaf_fits (Leaf.closed id serial time f k e) = fits-quiet _ refl refl
  leaf_fits Leaf.handed = fits-quiet _ refl refl
  leaf_fits (Leaf.new_seat name caps) =
      let id = s.connection.next_id in
      record { held = λ h. h; ids = next (le_refl id) (end (le_refl (id + 1))) }
  leaf_fits (Leaf.new_device seat name type both) =
      let c = s.connection in
      let id = c.next_id in
      let made = common both (negotiated_capabilities c) in
      record {
        held = edits-held (Edit.add_device seat made ∷ []) p s refl;
        ids = device-told id seat (device_version c) type name c (new_interfaces id made) _ (added-among c id both) (new_between id made);
      }

  pub decide-fits : (now : ℕ) (c : Call Sight) → Fits (decide (view s) now c)
  decide-fits now c = leaf_fits (walk (view s) now c)
