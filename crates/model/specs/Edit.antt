-- The edits that a session changes by. Only `enact` and what it calls touch a payload. Assumes nothing.
use Prim.Native.Nat.{ℕ, zero, suc, ◌+◌, ◌%◌}
use Rattle.std.specs.Prelude.{Bool, cond, eqb}
use Rattle.std.proofs.Math.Bool.{true}
use mathlib.Core.List.{List, [], ◌∷◌, ◌++◌, map}
use Rattle.std.proofs.Math.ListN.{length}
use Rattle.eiproto.specs.Bits.{bits_of}
use Rattle.touches.specs.Touches.{without}
use Rattle.model.specs.Call.{Sight}
use Rattle.model.specs.Session.{Item, Untimed, Queued, Interface, Seat, Device, Connection, Session}

-- changes of one device that leave its id, its seat and its pending list alone
pub data Amend : Type 0 where
  touch_down : (touch : ℕ) → Amend
  touch_up : (touch : ℕ) → Amend
  clear_touches : Amend
  unlist : (capability : ℕ) → Amend

-- a slot is a device's place in the list of devices. New ids come from the session's next id, so no edit can give one twice
pub data Edit : Type 0 where
  raise : (serials : ℕ) → Edit
  add_seat : (capabilities : ℕ) → Edit
  remove_seat : (seat : ℕ) → Edit
  add_device : (seat capabilities : ℕ) → Edit
  remove_device : (slot : ℕ) → Edit
  remove_devices_of : (seat : ℕ) → Edit
  amend : (slot : ℕ) → Amend → Edit
  pend : (slot : ℕ) → Sight → Edit
  frame : (slot last_serial time : ℕ) → Edit
  queue : Untimed → Edit
  deliver : Edit
  -- an object that the client made
  peer_object : (id : ℕ) → Edit
  -- the connection's own object destroyed
  end_connection : Edit

-- "The serial of an event is the last plus one, and after 4294967295 comes 0."
unfoldable pub next_serial : ℕ → ℕ
next_serial s = (s + 1) % 4294967296

-- so many serials on
unfoldable pub raised : ℕ → ℕ → ℕ
unfolding next_serial
raised zero s = s
raised (suc n) s = raised n (next_serial s)

-- the interfaces of a new device: one for each capability, by bit, with the ids from `id` on
unfoldable pub interfaces_from : (id : ℕ) → List ℕ → List Interface
interfaces_from id [] = []
interfaces_from id (b ∷ bs) = record { capability = b; id = id } ∷ interfaces_from (id + 1) bs

unfoldable pub new_interfaces : (device capabilities : ℕ) → List Interface
unfolding interfaces_from bits_of
new_interfaces device capabilities = interfaces_from (device + 1) (bits_of capabilities)

-- all but those for a capability
unfoldable pub interfaces_without : (capability : ℕ) → List Interface → List Interface
interfaces_without cap [] = []
interfaces_without cap (i ∷ is) = cond (eqb i.capability cap) [] (i ∷ []) ++ interfaces_without cap is

unfoldable pub seats_without : ℕ → List Seat → List Seat
seats_without id [] = []
seats_without id (s ∷ ss) = cond (eqb s.id id) ss (s ∷ seats_without id ss)

-- seats, last serial and next id changed, all else as it was
unfoldable pub connection_with : (seats : List Seat) (last_serial next_id : ℕ) → Connection → Connection
connection_with ss s n c =
    record { id = c.id; versions = c.versions; seats = ss; last_serial = s; next_id = n; last_peer_id = c.last_peer_id; gone = c.gone }

-- the last id that the client gave and the connection's own object changed, all else as it was
unfoldable pub objects_with : (last_peer_id : ℕ) (gone : Bool) → Connection → Connection
objects_with p g c =
    record { id = c.id; versions = c.versions; seats = c.seats; last_serial = c.last_serial; next_id = c.next_id; last_peer_id = p; gone = g }

module _ {P : Type 0} where
  unfoldable pub device_with : (interfaces : List Interface) (down_touch_ids : List ℕ) (pending : List (Item P)) → Device P → Device P
  device_with is ts ps d = record { id = d.id; seat = d.seat; interfaces = is; down_touch_ids = ts; pending = ps }

  unfoldable pub amended : Amend → Device P → Device P
  unfolding device_with without interfaces_without
  amended (Amend.touch_down t) d = device_with d.interfaces (d.down_touch_ids ++ (t ∷ [])) d.pending d
  amended (Amend.touch_up t) d = device_with d.interfaces (without t d.down_touch_ids) d.pending d
  amended Amend.clear_touches d = device_with d.interfaces [] d.pending d
  amended (Amend.unlist cap) d = device_with (interfaces_without cap d.interfaces) d.down_touch_ids d.pending d

  unfoldable pub item : Sight → P → Item P
  item s p = record { kind = s.kind; touch = s.touch; size = s.size; load = p }

  unfoldable pub pended : Item P → Device P → Device P
  unfolding device_with
  pended i d = device_with d.interfaces d.down_touch_ids (d.pending ++ (i ∷ [])) d

  unfoldable pub emptied : Device P → Device P
  unfolding device_with
  emptied d = device_with d.interfaces d.down_touch_ids [] d

  -- "Frame .. with nothing pending: nothing. Else every pending request, in arrival order, gets the frame's time and is queued, then the Frame itself."
  unfoldable pub framed : (device last_serial time : ℕ) → List (Item P) → List (Queued P)
  framed d s t [] = []
  framed d s t (i ∷ is) = map (λ x. Queued.timed d t x) (i ∷ is) ++ (Queued.untimed (Untimed.Frame d s t) ∷ [])

  unfoldable pub new_device : (id seat capabilities : ℕ) → Device P
  unfolding new_interfaces
  new_device id seat caps = record { id = id; seat = seat; interfaces = new_interfaces id caps; down_touch_ids = []; pending = [] }

  -- the device in a slot changed, the others as they were
  unfoldable pub at : (Device P → Device P) → ℕ → List (Device P) → List (Device P)
  at f k [] = []
  at f zero (d ∷ ds) = f d ∷ ds
  at f (suc k) (d ∷ ds) = d ∷ at f k ds

  unfoldable pub without_slot : ℕ → List (Device P) → List (Device P)
  without_slot k [] = []
  without_slot zero (d ∷ ds) = ds
  without_slot (suc k) (d ∷ ds) = d ∷ without_slot k ds

  unfoldable pub without_seat : ℕ → List (Device P) → List (Device P)
  without_seat s [] = []
  without_seat s (d ∷ ds) = cond (eqb d.seat s) [] (d ∷ []) ++ without_seat s ds

  -- what the frame of a slot queues
  unfoldable pub framed_at : (slot last_serial time : ℕ) → List (Device P) → List (Queued P)
  unfolding framed
  framed_at k s t [] = []
  framed_at zero s t (d ∷ ds) = framed d.id s t d.pending
  framed_at (suc k) s t (d ∷ ds) = framed_at k s t ds

  unfoldable pub rest : List (Queued P) → List (Queued P)
  rest [] = []
  rest (r ∷ rs) = rs

  unfoldable pub with_connection : Connection → Session P → Session P
  with_connection c s = record { connection = c; devices = s.devices; requests = s.requests }

  unfoldable pub with_devices : List (Device P) → Session P → Session P
  with_devices ds s = record { connection = s.connection; devices = ds; requests = s.requests }

  unfoldable pub with_requests : List (Queued P) → Session P → Session P
  with_requests rs s = record { connection = s.connection; devices = s.devices; requests = rs }

  -- an edit, with the payload of the call
  unfoldable pub enact : Edit → P → Session P → Session P
  unfolding connection_with objects_with with_connection with_devices with_requests raised seats_without new_device without_slot without_seat at amended item pended emptied framed_at rest
  enact (Edit.raise n) p s = with_connection (connection_with s.connection.seats (raised n s.connection.last_serial) s.connection.next_id s.connection) s
  enact (Edit.add_seat caps) p s =
      with_connection
      (connection_with (s.connection.seats ++ (record { id = s.connection.next_id; capabilities = caps } ∷ [])) s.connection.last_serial (s.connection.next_id + 1) s.connection)
      s
  enact (Edit.remove_seat seat) p s =
      with_connection (connection_with (seats_without seat s.connection.seats) s.connection.last_serial s.connection.next_id s.connection) s
  enact (Edit.add_device seat caps) p s =
      let id = s.connection.next_id in
      let d = new_device id seat caps in
      record {
        connection = connection_with s.connection.seats s.connection.last_serial (id + 1 + length d.interfaces) s.connection;
        devices = s.devices ++ (d ∷ []);
        requests = s.requests;
      }
  enact (Edit.remove_device k) p s = with_devices (without_slot k s.devices) s
  enact (Edit.remove_devices_of seat) p s = with_devices (without_seat seat s.devices) s
  enact (Edit.amend k a) p s = with_devices (at (amended a) k s.devices) s
  enact (Edit.pend k sight) p s = with_devices (at (pended (item sight p)) k s.devices) s
  enact (Edit.frame k serial time) p s =
      record { connection = s.connection; devices = at emptied k s.devices; requests = s.requests ++ framed_at k serial time s.devices }
  enact (Edit.queue r) p s = with_requests (s.requests ++ (Queued.untimed r ∷ [])) s
  enact Edit.deliver p s = with_requests (rest s.requests) s
  enact (Edit.peer_object id) p s = with_connection (objects_with id s.connection.gone s.connection) s
  enact Edit.end_connection p s = with_connection (objects_with s.connection.last_peer_id true s.connection) s

  -- edits, one after another
  unfoldable pub enact_all : List Edit → P → Session P → Session P
  unfolding enact
  enact_all [] p s = s
  enact_all (e ∷ es) p s = enact_all es p (enact e p s)
