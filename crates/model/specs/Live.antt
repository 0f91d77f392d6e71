-- WHICH OBJECTS LIVE, "each until the event by which the protocol destroys it, and of which interface and version": they follow from the tables, and nothing is
-- stored twice. proofs/Live.antt proves the statement. Assumes nothing.
use Rattle.std.specs.Prelude.{ℕ, ◌≡◌, Bool, true, false, ◌&&◌, ◌||◌, not, cond, List, [], ◌∷◌, map, eqb}
use Rattle.std.proofs.Math.Option.{Option, none, some}
use Rattle.eiproto.specs.Capability.{interface_of_bit}
use Rattle.eiproto.specs.Interface.{ei_connection, ei_seat, ei_device}
use Rattle.wire.specs.Record.{layout}
use Rattle.model.specs.Call.{Load, Turn, split}
use Rattle.model.specs.Session.{Interface, Device, Connection, View, fresh, view}
use Rattle.model.specs.Plan.{Sent}
use Rattle.model.specs.Decide.{version, seat_version, device_version, device_of, seat_of}
use Rattle.model.specs.Step.{Step}
use Rattle.model.specs.Demand3.{trail}
use Rattle.model.specs.Reachable.{count_of, session_after, ids_in}
use Rattle.model.specs.Destroyed.{destroyed_in}

pub record Object : Type 0 where
  -- by its number
  pub interface : ℕ
  pub version : ℕ

unfoldable pub is_found : {A : Type 0} → Option A → Bool
is_found none = false
is_found (some x) = true

-- the capability for which a device lists an interface with this id
unfoldable pub listed_as : (id : ℕ) → List Interface → Option ℕ
listed_as id [] = none
listed_as id (i ∷ is) = cond (eqb i.id id) (some i.capability) (listed_as id is)

unfoldable pub or_else : Option ℕ → Option ℕ → Option ℕ
or_else none other = other
or_else (some b) other = some b

-- or some device
unfoldable pub listed_in : (id : ℕ) → List (Device (Unit {0})) → Option ℕ
unfolding listed_as or_else
listed_in id [] = none
listed_in id (d ∷ ds) = or_else (listed_as id d.interfaces) (listed_in id ds)

-- an object of an interface, if that has a version
unfoldable pub object_of : (interface : ℕ) → (version : Option ℕ) → Option Object
object_of i none = none
object_of i (some v) = some (record { interface = i; version = v })

unfoldable pub interface_object : Connection → Option ℕ → Option Object
unfolding object_of version interface_of_bit
interface_object c none = none
interface_object c (some b) = object_of (interface_of_bit b) (version c (interface_of_bit b))

-- THE OBJECT OF AN ID: the connection until its `disconnected`, a seat, a device, an interface that a device lists. (A callback is destroyed by the call that it is
-- made by, and a pingpong is never made)
unfoldable pub live : View → (id : ℕ) → Option Object
unfolding is_found seat_version device_version seat_of device_of interface_object listed_in
live v id =
    let c = v.connection in
    cond (eqb c.id id && not c.gone) (some (record { interface = ei_connection; version = 1 }))
    (cond (is_found (seat_of id v)) (some (record { interface = ei_seat; version = seat_version c }))
    (cond (is_found (device_of id v)) (some (record { interface = ei_device; version = device_version c })) (interface_object c (listed_in id v.devices))))

-- ---- an id is alive exactly when an event of the trail announced it and none of its own destroyed it

-- whether `disconnected` is among some events: it is of kind 14
unfoldable pub has_disconnected : List Sent → Bool
unfolding layout
has_disconnected [] = false
has_disconnected (e ∷ es) = eqb (layout e.event).kind 14 || has_disconnected es

unfoldable pub disconnected_in : {P : Type 0} → List (Step P) → Bool
unfolding has_disconnected
disconnected_in [] = false
disconnected_in (r ∷ rs) = has_disconnected r.events || disconnected_in rs

-- The connection is alive until a `disconnected` is sent; any other id is alive when it was given, as a seat's, a device's or an interface's, and its `destroyed`
-- was not sent. (A callback's id may be any, and its `done` destroys no object that the tables hold)
unfoldable pub LiveIsAnnounced : Type 0
unfolding live is_found count_of ids_in destroyed_in disconnected_in trail session_after fresh view
LiveIsAnnounced =
    (c s n : ℕ) (vs : List (Option ℕ)) (ts : List Turn) (id : ℕ) →
    let steps = trail c s n vs ts in
    let after = session_after (map split ts) (fresh {P = Load} c s n vs) in
    is_found (live (view after) id)
    ≡ (eqb c id && not (disconnected_in steps)) || (eqb (count_of id (ids_in steps)) 1 && eqb (count_of id (destroyed_in steps)) 0)
