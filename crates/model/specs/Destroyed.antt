-- "Released is released": what becomes of an object. The theorems are in proofs/Destroyed.antt and proofs/Released.antt. Assumes nothing.
use Rattle.std.specs.Prelude.{ℕ, ◌+◌, ◌≤◌, ◌≡◌, false, cond, List, [], ◌∷◌, ◌++◌, map, eqb}
use Rattle.std.proofs.Math.Option.{Option, some}
use Rattle.eiproto.specs.Capability.{capability_index}
use Rattle.eiproto.specs.declared.event.DeviceCapability.{DeviceCapability}
use Rattle.wire.specs.Record.{layout}
use Rattle.model.specs.Call.{Load, Plain, Call, Turn, Split, split}
use Rattle.model.specs.Session.{Seat, Session, fresh, view}
use Rattle.model.specs.Plan.{Sent, Result, answer}
use Rattle.model.specs.Decide.{Found, device_for_interface, seat_of, decide_plain}
use Rattle.model.specs.Step.{Step, refuses, step}
use Rattle.model.specs.Demand3.{trail}
use Rattle.model.specs.Reachable.{count_of, seat_ids, device_ids, interface_ids_in, session_after, ids_in}

-- the objects of the destroyed events, which are of kind 5
unfoldable pub destroyed_of : List Sent → List ℕ
unfolding layout
destroyed_of [] = []
destroyed_of (e ∷ es) = cond (eqb (layout e.event).kind 5) (e.object ∷ []) [] ++ destroyed_of es

unfoldable pub destroyed_in : {P : Type 0} → List (Step P) → List ℕ
unfolding destroyed_of
destroyed_in [] = []
destroyed_in (r ∷ rs) = destroyed_of r.events ++ destroyed_in rs

-- "The protocol gives an object one.": no id is the object of two destroyed events, in any session
unfoldable pub DestroyedOnce : Type 0
unfolding destroyed_in count_of trail
DestroyedOnce = (c s n : ℕ) (vs : List (Option ℕ)) (ts : List Turn) (id : ℕ) → count_of id (destroyed_in (trail c s n vs ts)) ≤ 1

-- at how many places of the tables an id stands
unfoldable pub standing : {P : Type 0} → (id : ℕ) → Session P → ℕ
unfolding count_of seat_ids device_ids interface_ids_in
standing id s = count_of id (seat_ids s) + (count_of id (device_ids s) + count_of id (interface_ids_in s.devices))

-- An object lives while it stands in a table: each id that was given was destroyed or stands there, and never both (no id is given twice)
unfoldable pub LivesStanding : Type 0
unfolding destroyed_in standing count_of ids_in trail session_after fresh
LivesStanding =
    (c s n : ℕ) (vs : List (Option ℕ)) (ts : List Turn) (id : ℕ) →
    count_of id (ids_in (trail c s n vs ts))
    ≡ count_of id (destroyed_in (trail c s n vs ts)) + standing id (session_after (map split ts) (fresh {P = Load} c s n vs))

-- a call that has no payload of its own
abbrev pub plainly : {P : Type 0} → (load : P) (now room : ℕ) → Plain → Split P
plainly load now room c = record { call = Call.plain c; load = load; now = now; room = room }

-- a client's release of a seat that stands is the station's removal of it: session, answer, events and serials, refusals too
unfoldable pub ReleaseIsRemoval : Type 1
unfolding seat_of view step
ReleaseIsRemoval =
    (P : Type 0) (load : P) (now room seat : ℕ) (x : Seat) (s : Session P) → seat_of seat (view s) ≡ some x →
    step (plainly load now room (Plain.seat_release seat)) s ≡ step (plainly load now room (Plain.remove_seat seat)) s

-- "A released interface now leaves its device's list, so `has_capability` turns false"
unfoldable pub ReleasedUnlisted : Type 0
unfolding device_for_interface view step refuses session_after fresh decide_plain answer
ReleasedUnlisted =
    (c s n : ℕ) (vs : List (Option ℕ)) (ts : List Turn) (cap : DeviceCapability) (id now room later : ℕ) (f : Found) →
    let before = session_after (map split ts) (fresh {P = Load} c s n vs) in
    let released = step (plainly Load.None now room (Plain.interface_release cap id)) before in
    device_for_interface (capability_index cap) id (view before) ≡ some f → refuses released.outcome ≡ false →
    decide_plain (view released.session) later (Plain.has_capability f.device.id cap) ≡ answer (Result.truth false)
