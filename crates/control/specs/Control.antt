-- What the control words of a session mean: connection, seats and devices, all but the requests. Every list of words means something. Assumes nothing.
use Rattle.std.specs.Prelude.{ℕ, ◌+◌, ◌-◌, ◌*◌, ◌%◌, ◌^◌, cond, not, List, map, take, ◌==◌, slice_index}
use Rattle.std.proofs.Math.Option.{Option, none, some}
use Rattle.eiproto.specs.Bits.{bits_of, bits_below, common}
use Rattle.touches.specs.Touches.{touches_limit}
use Rattle.model.specs.Session.{Interface, Seat, Connection}
use Rattle.control.specs.Table.{tab}

-- ---- the limits: of all seats and devices, of each device's pending requests, and of the queue. That of a device's held touches is `touches_limit`

abbrev pub seats_limit : ℕ
seats_limit = 4

abbrev pub devices_limit : ℕ
devices_limit = 8

abbrev pub pending_limit : ℕ
pending_limit = 64

abbrev pub queue_limit : ℕ
queue_limit = 256

-- ---- the layout

-- 0 the connection's id, 1 the last serial, 2 the next id, 3 the seats that stand, 4 the devices, 5 the place of the oldest queued request, 6 the queued requests,
-- 7 the last id that the client gave, 8 to 19 the versions, from 20 the rows of the seats, 28 whether the connection is gone (0 for no), from 32 the rows of the
-- devices. The words between are free
abbrev pub seat_words : ℕ
seat_words = 2

abbrev pub device_words : ℕ
device_words = 24

abbrev pub peer_place : ℕ
peer_place = 7

abbrev pub gone_place : ℕ
gone_place = 28

abbrev pub version_place : ℕ → ℕ
version_place i = 8 + i

abbrev pub seat_place : ℕ → ℕ
seat_place k = 20 + seat_words * k

abbrev pub device_place : ℕ → ℕ
device_place k = 32 + device_words * k

abbrev pub control_length : ℕ
control_length = device_place devices_limit

abbrev pub seat_count : List ℕ → ℕ
seat_count c = slice_index c 3

abbrev pub device_count : List ℕ → ℕ
device_count c = slice_index c 4

abbrev pub queue_head : List ℕ → ℕ
queue_head c = slice_index c 5

abbrev pub queue_length : List ℕ → ℕ
queue_length c = slice_index c 6

-- word f of a device's row: 0 its id, 1 its seat, 2 the capabilities that it was made with, 3 those whose interface it still lists, 4 how many requests are pending,
-- 5 how many touches are held, from 6 on the ids of sixteen touches; the words behind them are free
abbrev pub device_word : List ℕ → (k f : ℕ) → ℕ
device_word c k f = slice_index c (device_place k + f)

abbrev pub capabilities_at : List ℕ → ℕ → ℕ
capabilities_at c k = device_word c k 2 % 128

-- a bit of word 3 that is none of word 2 means nothing
abbrev pub listed_at : List ℕ → ℕ → ℕ
listed_at c k = common (capabilities_at c k) (device_word c k 3)

abbrev pub pending_at : List ℕ → ℕ → ℕ
pending_at c k = device_word c k 4

abbrev pub held_at : List ℕ → ℕ → ℕ
held_at c k = device_word c k 5

-- ---- what they mean

-- 0 for none, else one more than the version
unfoldable pub version_in : ℕ → Option ℕ
version_in w = cond (w == 0) none (some ((w - 1) % 2 ^ 32))

-- a seat: its id, its capabilities
unfoldable pub seat_at : List ℕ → ℕ → Seat
seat_at c k = record { id = slice_index c (seat_place k); capabilities = slice_index c (seat_place k + 1) % 128 }

unfoldable pub versions_of : List ℕ → List (Option ℕ)
unfolding tab version_in
versions_of c = tab 12 (λ i. version_in (slice_index c (version_place i)))

unfoldable pub connection_of : List ℕ → Connection
unfolding tab versions_of seat_at
connection_of c =
    record {
      id = slice_index c 0;
      versions = versions_of c;
      seats = tab (seat_count c) (seat_at c);
      last_serial = slice_index c 1 % 2 ^ 32;
      next_id = slice_index c 2;
      last_peer_id = slice_index c peer_place;
      gone = not (slice_index c gone_place == 0);
    }

-- "a device's interface ids follow its own id in order of capability bits"
unfoldable pub interface_id : (device capabilities : ℕ) → ℕ → ℕ
unfolding bits_below
interface_id device caps b = (device + 1 + bits_below caps b) % 2 ^ 64

-- which an interface keeps, whatever else is still listed
unfoldable pub interface_on : (device capabilities : ℕ) → ℕ → Interface
unfolding interface_id
interface_on device caps b = record { capability = b; id = interface_id device caps b }

-- those that a device still lists of the interfaces that it was made with
unfoldable pub interfaces_on : (device capabilities listed : ℕ) → List Interface
unfolding interface_on bits_of
interfaces_on device caps listed = map (interface_on device caps) (bits_of listed)

-- a device without its pending requests
pub record Core : Type 0 where
  pub id : ℕ
  pub seat : ℕ
  pub interfaces : List Interface
  pub down_touch_ids : List ℕ
  -- how many are pending
  pub pending : ℕ

unfoldable pub core_at : List ℕ → ℕ → Core
unfolding interfaces_on tab
core_at c k =
    record {
      id = device_word c k 0;
      seat = device_word c k 1;
      interfaces = interfaces_on (device_word c k 0) (capabilities_at c k) (listed_at c k);
      down_touch_ids = take (held_at c k) (tab touches_limit (λ j. device_word c k (6 + j) % 2 ^ 32));
      pending = pending_at c k;
    }

abbrev pub touches_at : List ℕ → ℕ → List ℕ
touches_at c k = (core_at c k).down_touch_ids

unfoldable pub cores_of : List ℕ → List Core
unfolding tab core_at
cores_of c = tab (device_count c) (core_at c)
