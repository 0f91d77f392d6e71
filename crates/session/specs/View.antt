-- What the four lent slices of a session mean: the session of the model, with the payloads as they are delivered. Every slice of numbers means
-- something. Assumes nothing.
use Rattle.std.specs.Prelude.{ℕ, ◌+◌, ◌*◌, ◌%◌, ◌<◌, ◌≡◌, Bool, false, ◌&&◌, List, [], eqb, Float, length, take, drop}
use Rattle.requests.specs.declared.request.EisRequest.{EisRequest}
use Rattle.requests.specs.declared.request.EisRequest.TheVariants.{Disconnect, Bind, DeviceClosed, RequestDevice, Frame, Ready, DeviceStartEmulating, DeviceStopEmulating, PointerMotion, PointerMotionAbsolute, Button, ScrollDelta, ScrollStop, ScrollCancel, ScrollDiscrete, KeyboardKey, TouchDown, TouchUp, TouchMotion, TouchCancel, TextKeysym, TextUtf8}
use Rattle.requests.specs.Request.{text_length}
use Rattle.requests.specs.Row.{texts_limit, Row, row_words, row_reals, row_at}
use Rattle.model.specs.Call.{Kind, Load}
use Rattle.model.specs.Session.{Item, Untimed, Queued, Device, Session}
use Rattle.control.specs.Table.{tab}
use Rattle.control.specs.Control.{devices_limit, pending_limit, queue_limit, device_count, queue_head, queue_length, connection_of, core_at}
use Rattle.control.specs.Sound.{Sound, is_sound}

-- ---- the slices: control words (the layout is in control's specs), rows of requests as words and reals, texts

pub record Store : Type 0 where
  pub control : List ℕ
  pub words : List ℕ
  pub reals : List Float
  pub texts : List ℕ

abbrev pub store : List ℕ → List ℕ → List Float → List ℕ → Store
store c w r t = record { control = c; words = w; reals = r; texts = t }

-- request j of the pending list of slot k
abbrev pub pending_row : (k j : ℕ) → ℕ
pending_row k j = pending_limit * k + j

-- behind the pending lists of all devices, the queue's ring
abbrev pub queue_start : ℕ
queue_start = pending_limit * devices_limit

-- request j of the queue, whose oldest stands at `head` of the ring
abbrev pub queue_row : (head j : ℕ) → ℕ
queue_row head j = queue_start + (head + j) % queue_limit

abbrev pub row_count : ℕ
row_count = queue_start + queue_limit

abbrev pub words_length : ℕ
words_length = row_words * row_count

abbrev pub reals_length : ℕ
reals_length = row_reals * row_count

-- a slot for each text. A text has at most 254 bytes, and any length that a row can hold, which is a byte, lies within its slot
abbrev pub slot_length : ℕ
slot_length = 256

abbrev pub texts_length : ℕ
texts_length = slot_length * texts_limit

-- the last number that an id may be
abbrev pub last_id : ℕ
last_id = 18446744073709551615

-- ---- what they mean

abbrev pub item_of : Kind → (touch : ℕ) → Load → Item Load
item_of k t p = record { kind = k; touch = t; size = 0; load = p }

-- a request of the code, with its text, as the model has it
unfoldable pub request_in : EisRequest → (text : List ℕ) → Queued Load
request_in Disconnect text = Queued.untimed Untimed.Disconnect
request_in (Bind s m) text = Queued.untimed (Untimed.Bind s m)
request_in (DeviceClosed d) text = Queued.untimed (Untimed.DeviceClosed d)
request_in (RequestDevice s m) text = Queued.untimed (Untimed.RequestDevice s m)
request_in (Frame d n t) text = Queued.untimed (Untimed.Frame d n t)
request_in (Ready d) text = Queued.untimed (Untimed.Ready d)
request_in (DeviceStartEmulating d n q) text = Queued.untimed (Untimed.DeviceStartEmulating d n q)
request_in (DeviceStopEmulating d n) text = Queued.untimed (Untimed.DeviceStopEmulating d n)
request_in (PointerMotion d t x y) text = Queued.timed d t (item_of Kind.PointerMotion 0 (Load.Point x y))
request_in (PointerMotionAbsolute d t x y) text = Queued.timed d t (item_of Kind.PointerMotionAbsolute 0 (Load.Point x y))
request_in (Button d t b s) text = Queued.timed d t (item_of Kind.Button 0 (Load.ButtonPress b s))
request_in (ScrollDelta d t x y) text = Queued.timed d t (item_of Kind.ScrollDelta 0 (Load.Point x y))
request_in (ScrollStop d t x y) text = Queued.timed d t (item_of Kind.ScrollStop 0 (Load.Axes x y))
request_in (ScrollCancel d t x y) text = Queued.timed d t (item_of Kind.ScrollCancel 0 (Load.Axes x y))
request_in (ScrollDiscrete d t x y) text = Queued.timed d t (item_of Kind.ScrollDiscrete 0 (Load.Discrete x y))
request_in (KeyboardKey d t k s) text = Queued.timed d t (item_of Kind.KeyboardKey 0 (Load.KeyPress k s))
request_in (TouchDown d t i x y) text = Queued.timed d t (item_of Kind.TouchDown i (Load.Point x y))
request_in (TouchUp d t i) text = Queued.timed d t (item_of Kind.TouchUp i Load.None)
request_in (TouchMotion d t i x y) text = Queued.timed d t (item_of Kind.TouchMotion i (Load.Point x y))
request_in (TouchCancel d t i) text = Queued.timed d t (item_of Kind.TouchCancel i Load.None)
request_in (TextKeysym d t k s) text = Queued.timed d t (item_of Kind.TextKeysym 0 (Load.KeyPress k s))
request_in (TextUtf8 d t n) text = Queued.timed d t (record { kind = Kind.TextUtf8; touch = 0; size = n; load = Load.Text text })

-- a pending request: its device and its time come with its frame. One that is not timed, which only damage can leave there, counts as a
-- ScrollStop of neither axis (`framed_request`)
unfoldable pub item_in : Queued Load → Item Load
item_in (Queued.timed d t i) = i
item_in (Queued.untimed r) = item_of Kind.ScrollStop 0 (Load.Axes false false)

-- the text of a load; the empty one where it is none
abbrev pub text_in : Load → List ℕ
text_in (Load.Text text) = text
text_in Load.None = []
text_in (Load.Point x y) = []
text_in (Load.ButtonPress b s) = []
text_in (Load.KeyPress k s) = []
text_in (Load.Discrete x y) = []
text_in (Load.Axes x y) = []

-- the text of a row; the empty one where it has none
unfoldable pub text_of : List ℕ → Row → List ℕ
text_of texts w = take (text_length w.request) (drop (slot_length * w.slot) texts)

unfoldable pub request_at : List ℕ → Row → Queued Load
unfolding request_in text_of
request_at texts w = request_in w.request (text_of texts w)

unfoldable pub item_at : List ℕ → Row → Item Load
unfolding item_in request_at
item_at texts w = item_in (request_at texts w)

-- a device, from its control words and its pending rows
unfoldable pub device_in : List ℕ → (ℕ → Row) → List ℕ → ℕ → Device Load
unfolding core_at tab item_at
device_in c rows texts k =
    record {
      id = (core_at c k).id;
      seat = (core_at c k).seat;
      interfaces = (core_at c k).interfaces;
      down_touch_ids = (core_at c k).down_touch_ids;
      pending = tab (core_at c k).pending (λ j. item_at texts (rows (pending_row k j)));
    }

-- the queue, oldest first
unfoldable pub queue_in : List ℕ → (ℕ → Row) → List ℕ → List (Queued Load)
unfolding tab request_at
queue_in c rows texts = tab (queue_length c) (λ j. request_at texts (rows (queue_row (queue_head c) j)))

unfoldable pub session_in : List ℕ → (ℕ → Row) → List ℕ → Session Load
unfolding connection_of tab device_in queue_in
session_in c rows texts =
    record { connection = connection_of c; devices = tab (device_count c) (device_in c rows texts); requests = queue_in c rows texts }

-- THE SESSION that the slices hold
unfoldable pub session : Store → Session Load
unfolding session_in row_at
session s = session_in s.control (row_at s.words s.reals) s.texts

-- no pending and no queued request has its text in the slot
pub record Free (c : List ℕ) (rows : ℕ → Row) (slot : ℕ) : Type 0 where
  pub pending : (k j : ℕ) → k < device_count c → j < (core_at c k).pending → (rows (pending_row k j)).slot ≡ slot → ⊥
  pub queued : (j : ℕ) → j < queue_length c → (rows (queue_row (queue_head c) j)).slot ≡ slot → ⊥

-- ---- damaged states

-- "21 BAD_STATE: a stored count above its limit, or a stored link past its table": the control words are sound, and a slice of another length is no
-- session's. A row's text lies within the texts whatever the row holds
unfoldable pub is_lent : (control words : List ℕ) (reals : List Float) → Bool
unfolding is_sound
is_lent c w r = is_sound c && (eqb (length w) words_length && eqb (length r) reals_length)

unfoldable pub is_whole : Store → Bool
unfolding is_lent
is_whole s = is_lent s.control s.words s.reals && eqb (length s.texts) texts_length

-- the same as bounds: of the control words and the rows of requests, and of all four
pub record Lent (c w : List ℕ) (r : List Float) : Type 0 where
  pub sound : Sound c
  pub words_long : length w ≡ words_length
  pub reals_long : length r ≡ reals_length

pub record Whole (s : Store) : Type 0 where
  pub sound : Sound s.control
  pub words_long : length s.words ≡ words_length
  pub reals_long : length s.reals ≡ reals_length
  pub texts_long : length s.texts ≡ texts_length

-- what a call is lent of a session: its control words, the rows of requests too, or all four slices
pub data Lending : Type 0 where
  control : Lending
  rows : Lending
  all : Lending

-- REFUSAL 21's TEST looks at what a call is lent
unfoldable pub is_intact : Lending → Store → Bool
unfolding is_sound is_lent is_whole
is_intact Lending.control s = is_sound s.control
is_intact Lending.rows s = is_lent s.control s.words s.reals
is_intact Lending.all s = is_whole s
