-- A client's request as numbers of lent slices, and the records that the slices hold. Every row of numbers means some record. Assumes nothing.
use Rattle.std.specs.Prelude.{ℕ, ◌+◌, ◌*◌, ◌/◌, ◌≤◌, min, Bool, not, ◌&&◌, ◌||◌, List, [], ◌∷◌, eqb, leb, Float, get_or, length}
use Rattle.std.specs.Float.{nan}
use Rattle.requests.specs.declared.eis.HandshakeRequest.{HandshakeRequest}
use Rattle.requests.specs.declared.eis.ConnectionRequest.{ConnectionRequest}
use Rattle.requests.specs.declared.eis.SeatRequest.{SeatRequest}
use Rattle.requests.specs.declared.eis.DeviceRequest.{DeviceRequest}
use Rattle.requests.specs.declared.eis.PointerRequest.{PointerRequest}
use Rattle.requests.specs.declared.eis.PointerAbsoluteRequest.{PointerAbsoluteRequest}
use Rattle.requests.specs.declared.eis.ScrollRequest.{ScrollRequest}
use Rattle.requests.specs.declared.eis.ButtonRequest.{ButtonRequest}
use Rattle.requests.specs.declared.eis.KeyboardRequest.{KeyboardRequest}
use Rattle.requests.specs.declared.eis.TouchscreenRequest.{TouchscreenRequest}
use Rattle.requests.specs.declared.eis.TextRequest.{TextRequest}
use Rattle.requests.specs.declared.eis.InterfaceRequest.{InterfaceRequest}
use Rattle.requests.specs.declared.eis.Request.{Request}
use Rattle.requests.specs.Row.{low, amount_of, button_state, key_state}
use Rattle.eiproto.specs.Bits.{every}
use Rattle.control.specs.Table.{tab}
use Rattle.reads.specs.declared.record.RequestRecord.{RequestRecord}
use Rattle.lent_read.specs.declared.record.RequestCell.{RequestCell}

abbrev on : InterfaceRequest → Request
on r = Request.Interface r

-- what the numbers mean at each request: requests are numbered by their places here, the order of the source's enums
abbrev pub meanings : RequestCell → List Request
meanings c =
    Request.Handshake (HandshakeRequest.HandshakeVersion (low c.first)) ∷
    Request.Handshake HandshakeRequest.Finish ∷
    Request.Handshake (HandshakeRequest.ContextType (low c.first)) ∷
    Request.Handshake HandshakeRequest.Name ∷
    Request.Handshake (HandshakeRequest.InterfaceVersion (low c.first)) ∷
    Request.Connection (ConnectionRequest.Sync c.first (low c.second)) ∷
    Request.Connection ConnectionRequest.Disconnect ∷
    Request.PingpongDone ∷
    Request.Seat SeatRequest.Release ∷
    Request.Seat (SeatRequest.Bind c.first) ∷
    Request.Seat (SeatRequest.RequestDevice c.first) ∷
    Request.Device DeviceRequest.Release ∷
    Request.Device (DeviceRequest.StartEmulating (low c.first) (low c.second)) ∷
    Request.Device (DeviceRequest.StopEmulating (low c.first)) ∷
    Request.Device (DeviceRequest.Frame (low c.first) c.second) ∷
    Request.Device DeviceRequest.Ready ∷
    on (InterfaceRequest.Pointer PointerRequest.Release) ∷
    on (InterfaceRequest.Pointer (PointerRequest.MotionRelative c.x c.y)) ∷
    on (InterfaceRequest.PointerAbsolute PointerAbsoluteRequest.Release) ∷
    on (InterfaceRequest.PointerAbsolute (PointerAbsoluteRequest.MotionAbsolute c.x c.y)) ∷
    on (InterfaceRequest.Scroll ScrollRequest.Release) ∷
    on (InterfaceRequest.Scroll (ScrollRequest.Scroll c.x c.y)) ∷
    on (InterfaceRequest.Scroll (ScrollRequest.ScrollDiscrete (amount_of c.first) (amount_of c.second))) ∷
    on (InterfaceRequest.Scroll (ScrollRequest.ScrollStop (low c.first) (low c.second) (low c.third))) ∷
    on (InterfaceRequest.Button ButtonRequest.Release) ∷
    on (InterfaceRequest.Button (ButtonRequest.Button (low c.first) (button_state c.second))) ∷
    on (InterfaceRequest.Keyboard KeyboardRequest.Release) ∷
    on (InterfaceRequest.Keyboard (KeyboardRequest.Key (low c.first) (key_state c.second))) ∷
    on (InterfaceRequest.Touchscreen TouchscreenRequest.Release) ∷
    on (InterfaceRequest.Touchscreen (TouchscreenRequest.Down (low c.first) c.x c.y)) ∷
    on (InterfaceRequest.Touchscreen (TouchscreenRequest.Motion (low c.first) c.x c.y)) ∷
    on (InterfaceRequest.Touchscreen (TouchscreenRequest.Up (low c.first))) ∷
    on (InterfaceRequest.Touchscreen (TouchscreenRequest.Cancel (low c.first))) ∷
    on (InterfaceRequest.Text TextRequest.Release) ∷
    on (InterfaceRequest.Text (TextRequest.Keysym (low c.first) (key_state c.second))) ∷
    on (InterfaceRequest.Text TextRequest.Utf8) ∷
    []

-- the meaning at the cell's number; one past the last means Pingpong's Done, which does nothing
unfoldable pub request_of : RequestCell → Request
request_of c = get_or (meanings c) c.request Request.PingpongDone

-- the numbers of a request alone, on no object and with no part
abbrev pub arguments_of : (request first second third : ℕ) → (x y : Float) → RequestCell
arguments_of n a b c x y =
    record { request = n; object = 0; version = 0; first = a; second = b; third = c; start = 0; length = 0; x = x; y = y }

unfoldable pub record_of : RequestCell → RequestRecord
unfolding request_of
record_of c = record { object = c.object; version = low c.version; request = request_of c; start = c.start; length = c.length }

-- ---- numbers that stand for no case of their enum

-- the last of the requests' numbers
abbrev pub last_request : ℕ
last_request = 35

-- the requests that tell a state: Button, Key and Keysym, whose second number it is
abbrev pub has_state : ℕ → Bool
has_state n = eqb n 25 || (eqb n 27 || eqb n 34)

-- a number of a request, with a state that is 0 or 1
abbrev pub is_request : RequestCell → Bool
is_request c = leb c.request last_request && (not (has_state c.request) || leb c.second 1)

-- ---- records in slices

-- the words and the reals of a record
abbrev pub record_words : ℕ
record_words = 8

abbrev pub record_reals : ℕ
record_reals = 2

unfoldable pub cell_at : List ℕ → List Float → ℕ → RequestCell
cell_at records points i =
    record {
      request = get_or records (i * record_words) 0;
      object = get_or records (i * record_words + 1) 0;
      version = get_or records (i * record_words + 2) 0;
      first = get_or records (i * record_words + 3) 0;
      second = get_or records (i * record_words + 4) 0;
      third = get_or records (i * record_words + 5) 0;
      start = get_or records (i * record_words + 6) 0;
      length = get_or records (i * record_words + 7) 0;
      x = get_or points (i * record_reals) nan;
      y = get_or points (i * record_reals + 1) nan;
    }

unfoldable pub record_at : List ℕ → List Float → ℕ → RequestRecord
unfolding record_of cell_at
record_at records points i = record_of (cell_at records points i)

-- record i lies within the slices
abbrev pub Within : List ℕ → List Float → ℕ → Type 0
Within records points i = (i * record_words + record_words ≤ length records) × (i * record_reals + record_reals ≤ length points)

-- how many whole records the slices hold
abbrev pub record_count : List ℕ → List Float → ℕ
record_count records points = min (length records / record_words) (length points / record_reals)

-- THE RECORDS that the slices hold
unfoldable pub records_in : List ℕ → List Float → List RequestRecord
unfolding tab record_at
records_in records points = tab (record_count records points) (record_at records points)

-- whether the slices hold whole records and nothing else
abbrev pub are_whole : List ℕ → List Float → Bool
are_whole records points =
    let n = record_count records points in eqb (length records) (n * record_words) && eqb (length points) (n * record_reals)

-- whether each of them is a request's
unfoldable pub are_requests : List ℕ → List Float → Bool
unfolding tab every cell_at
are_requests records points =
    are_whole records points && every is_request (tab (record_count records points) (cell_at records points))
