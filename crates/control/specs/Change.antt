-- What each kind of change makes of the control words: c are the words before it, e those after it. Assumes nothing.
use Rattle.std.specs.Prelude.{◌≡◌, ℕ, suc, ◌+◌, ◌<◌, ◌≤◌, true, List, [], replicate, ◌≢◌}
use Rattle.std.proofs.Math.Option.{Option, none}
use Rattle.model.specs.Session.{Interface, Seat, Connection, fresh}
use Rattle.model.specs.Edit.{connection_with, objects_with}
use Rattle.control.specs.Control.{device_count, queue_head, queue_length, connection_of, interfaces_on, Core, core_at}
use Rattle.control.specs.Sound.{Sound}

pub record SameDevices (c e : List ℕ) : Type 0 where
  pub count : device_count e ≡ device_count c
  pub core : (k : ℕ) → core_at e k ≡ core_at c k

pub record SameQueue (c e : List ℕ) : Type 0 where
  pub head : queue_head e ≡ queue_head c
  pub queued : queue_length e ≡ queue_length c

-- the connection is now `to`, and no more changed
pub record Reconnected (c e : List ℕ) (to : Connection) : Type 0 where
  pub connection : connection_of e ≡ to
  pub devices : SameDevices c e
  pub queue : SameQueue c e
  pub sound : Sound e

-- the device in slot k is now `to`, and no more changed
pub record Amended (c e : List ℕ) (k : ℕ) (to : Core) : Type 0 where
  pub connection : connection_of e ≡ connection_of c
  pub count : device_count e ≡ device_count c
  pub here : core_at e k ≡ to
  pub other : (j : ℕ) → (j ≢ k) → core_at e j ≡ core_at c j
  pub queue : SameQueue c e
  pub sound : Sound e

-- the same by what the change makes of the connection, and of the device in slot k
abbrev pub Reconnects : (c e : List ℕ) → (Connection → Connection) → Type 0
Reconnects c e change = Reconnected c e (change (connection_of c))

abbrev pub Amends : (c e : List ℕ) (k : ℕ) → (Core → Core) → Type 0
Amends c e k change = Amended c e k (change (core_at c k))

-- the device `new` comes last, and no more changed
pub record Appended (c e : List ℕ) (new : Core) : Type 0 where
  pub connection : connection_of e ≡ connection_of c
  pub count : device_count e ≡ device_count c + 1
  pub here : core_at e (device_count c) ≡ new
  pub other : (j : ℕ) → (j ≢ device_count c) → core_at e j ≡ core_at c j
  pub queue : SameQueue c e
  pub sound : Sound e

-- the device in slot k is gone, those behind it moved down, and no more changed
pub record Removed (c e : List ℕ) (k : ℕ) : Type 0 where
  pub connection : connection_of e ≡ connection_of c
  pub count : device_count c ≡ device_count e + 1
  pub before : (j : ℕ) → j < k → core_at e j ≡ core_at c j
  pub behind : (j : ℕ) → k ≤ j → j < device_count e → core_at e j ≡ core_at c (suc j)
  pub queue : SameQueue c e
  pub sound : Sound e

-- the queue's head and length are set, and no more changed
pub record Requeued (c e : List ℕ) (head queued : ℕ) : Type 0 where
  pub connection : connection_of e ≡ connection_of c
  pub devices : SameDevices c e
  pub head_is : queue_head e ≡ head
  pub queued_is : queue_length e ≡ queued
  pub sound : Sound e

-- a session as a Finish that succeeds leaves it, with no version negotiated: no seats, no devices, nothing queued
pub record Fresh (e : List ℕ) (connection serial next : ℕ) : Type 0 where
  pub connection_is : connection_of e ≡ (fresh {P = Unit {0}} connection serial next (replicate 12 none)).connection
  pub devices : device_count e ≡ 0
  pub queued : queue_length e ≡ 0
  pub sound : Sound e

-- ---- what a device becomes

-- a new device: every interface listed, no touch held, nothing pending
unfoldable pub new_core : (id seat capabilities : ℕ) → Core
new_core id seat caps = record { id = id; seat = seat; interfaces = interfaces_on id caps caps; down_touch_ids = []; pending = 0 }

abbrev pub with_pending : ℕ → Core → Core
with_pending n d = record { id = d.id; seat = d.seat; interfaces = d.interfaces; down_touch_ids = d.down_touch_ids; pending = n }

abbrev pub with_touches : List ℕ → Core → Core
with_touches ts d = record { id = d.id; seat = d.seat; interfaces = d.interfaces; down_touch_ids = ts; pending = d.pending }

abbrev pub with_interfaces : List Interface → Core → Core
with_interfaces is d = record { id = d.id; seat = d.seat; interfaces = is; down_touch_ids = d.down_touch_ids; pending = d.pending }

-- ---- what the connection becomes

abbrev pub with_seats : List Seat → Connection → Connection
with_seats ss n = connection_with ss n.last_serial n.next_id n

abbrev pub with_serial : ℕ → Connection → Connection
with_serial s n = connection_with n.seats s n.next_id n

abbrev pub with_next_id : ℕ → Connection → Connection
with_next_id id n = connection_with n.seats n.last_serial id n

abbrev pub with_versions : List (Option ℕ) → Connection → Connection
with_versions vs n =
    record { id = n.id; versions = vs; seats = n.seats; last_serial = n.last_serial; next_id = n.next_id; last_peer_id = n.last_peer_id; gone = n.gone }

abbrev pub with_peer : ℕ → Connection → Connection
with_peer id n = objects_with id n.gone n

abbrev pub ended : Connection → Connection
ended n = objects_with n.last_peer_id true n
