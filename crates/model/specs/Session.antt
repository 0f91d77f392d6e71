-- A session as the source holds it: lists of any length, ids for `Arc` and `Weak`. `P` is the payload of a request. Assumes nothing.
use Rattle.std.specs.Prelude.{ℕ, Bool, false}
use mathlib.Core.List.{List, [], map}
use Rattle.std.proofs.Math.Option.{Option}
use Rattle.model.specs.Call.{Kind}

-- a timed request as it waits in its device's pending list: all but its device and its time
pub record Item (P : Type 0) : Type 0 where
  pub kind : Kind
  pub touch : ℕ
  pub size : ℕ
  pub load : P

-- the untimed requests, in the order and with the names of `EisRequest`
pub data Untimed : Type 0 where
  Disconnect : Untimed
  Bind : (seat capabilities : ℕ) → Untimed
  DeviceClosed : (device : ℕ) → Untimed
  RequestDevice : (seat capabilities : ℕ) → Untimed
  Frame : (device last_serial time : ℕ) → Untimed
  Ready : (device : ℕ) → Untimed
  DeviceStartEmulating : (device last_serial sequence : ℕ) → Untimed
  DeviceStopEmulating : (device last_serial : ℕ) → Untimed

-- a queued request: `EisRequest`, its text among its payload
pub data Queued (P : Type 0) : Type 0 where
  timed : (device time : ℕ) → Item P → Queued P
  untimed : Untimed → Queued P

-- an interface that a device lists, so that requests on it are known to be the device's (`device_for_interface`)
pub record Interface : Type 0 where
  -- by its bit
  pub capability : ℕ
  pub id : ℕ

pub record Seat : Type 0 where
  pub id : ℕ
  pub capabilities : ℕ

pub record Device (P : Type 0) : Type 0 where
  pub id : ℕ
  pub seat : ℕ
  pub interfaces : List Interface
  pub down_touch_ids : List ℕ
  pub pending : List (Item P)

-- what has no payload and is no device's
pub record Connection : Type 0 where
  pub id : ℕ
  -- of the twelve interfaces, in the order of their numbers: the negotiated version, or none ("not negotiated" is no version 0)
  pub versions : List (Option ℕ)
  pub seats : List Seat
  pub last_serial : ℕ
  pub next_id : ℕ
  -- the last id that the client gave to an object of its own, 0 for none (`next_peer_id` of the source is one more)
  pub last_peer_id : ℕ
  -- whether `disconnected` was sent, the event that destroys the connection's own object
  pub gone : Bool

pub record Session (P : Type 0) : Type 0 where
  pub connection : Connection
  pub devices : List (Device P)
  -- the queue, oldest first
  pub requests : List (Queued P)

-- a session as a successful Finish leaves it
unfoldable pub fresh : {P : Type 0} → (connection serial next_id : ℕ) (versions : List (Option ℕ)) → Session P
fresh c s n vs =
    record {
      connection = record { id = c; versions = vs; seats = []; last_serial = s; next_id = n; last_peer_id = 0; gone = false };
      devices = [];
      requests = [];
    }

-- another payload in the place of each
module _ {P Q : Type 0} (f : P → Q) where
  unfoldable pub map_item : Item P → Item Q
  map_item i = record { kind = i.kind; touch = i.touch; size = i.size; load = f i.load }

  unfoldable pub map_queued : Queued P → Queued Q
  unfolding map_item
  map_queued (Queued.timed d t i) = Queued.timed d t (map_item i)
  map_queued (Queued.untimed r) = Queued.untimed r

  unfoldable pub map_device : Device P → Device Q
  unfolding map_item
  map_device d =
      record { id = d.id; seat = d.seat; interfaces = d.interfaces; down_touch_ids = d.down_touch_ids; pending = map map_item d.pending }

  unfoldable pub map_session : Session P → Session Q
  unfolding map_device map_queued
  map_session s = record { connection = s.connection; devices = map map_device s.devices; requests = map map_queued s.requests }

unfoldable pub blank : {P : Type 0} → P → Unit {0}
blank p = tt

-- all that a decision may read of a session: all but the payloads
abbrev pub View : Type 0
View = Session (Unit {0})

unfoldable pub view : {P : Type 0} → Session P → View
unfolding map_session blank
view s = map_session blank s
