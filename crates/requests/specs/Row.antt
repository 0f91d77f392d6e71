-- A request as a row of the lent slices: some words and reals. Every row of numbers means some request. Assumes nothing.
use Rattle.std.specs.Prelude.{ℕ, ◌+◌, ◌*◌, ◌≤◌, ◌<◌, ◌%◌, ◌≡◌, Bool, cond, ◌&&◌, List, [], ◌∷◌, eqb, leb, Float, ℤ, get_or, length}
use Rattle.std.specs.Float.{nan}
use Rattle.std.specs.Int.{w32}
use Rattle.std.proofs.Common.{to_z}
use Rattle.eiproto.specs.declared.eiproto_enum.ButtonState.{ButtonState}
use Rattle.eiproto.specs.declared.eiproto_enum.KeyState.{KeyState}
use Rattle.requests.specs.Request.{framed_request, is_text}
use Rattle.requests.specs.declared.cell.Cell.{Cell}
use Rattle.requests.specs.declared.request.EisRequest.{EisRequest}
use Rattle.requests.specs.declared.request.EisRequest.TheVariants.{Disconnect, Bind, DeviceClosed, RequestDevice, Frame, Ready, DeviceStartEmulating, DeviceStopEmulating, PointerMotion, PointerMotionAbsolute, Button, ScrollDelta, ScrollStop, ScrollCancel, ScrollDiscrete, KeyboardKey, TouchDown, TouchUp, TouchMotion, TouchCancel, TextKeysym, TextUtf8}

-- the low 32 bits of a word
abbrev pub low : ℕ → ℕ
low n = n % 4294967296

-- the signed number that these bits are, in two's complement
unfoldable pub amount_of : ℕ → ℤ
amount_of n = to_z w32 (low n)

abbrev pub button_state : ℕ → ButtonState
button_state n = cond (eqb n 1) ButtonState.Press ButtonState.Released

abbrev pub key_state : ℕ → KeyState
key_state n = cond (eqb n 1) KeyState.Press KeyState.Released

abbrev pub cell_of : ℕ → ℕ → ℕ → ℕ → ℕ → Float → Float → Cell
cell_of k o t e f x y = record { kind = k; object = o; time = t; extra = e; flag = f; x = x; y = y }

-- what a cell means at each kind: the kinds are the places in the enum
abbrev pub meanings : Cell → List EisRequest
meanings c =
    Disconnect ∷
    Bind c.object c.time ∷
    DeviceClosed c.object ∷
    RequestDevice c.object c.time ∷
    Frame c.object (low c.extra) c.time ∷
    Ready c.object ∷
    DeviceStartEmulating c.object (low c.extra) (low c.flag) ∷
    DeviceStopEmulating c.object (low c.extra) ∷
    PointerMotion c.object c.time c.x c.y ∷
    PointerMotionAbsolute c.object c.time c.x c.y ∷
    Button c.object c.time (low c.extra) (button_state c.flag) ∷
    ScrollDelta c.object c.time c.x c.y ∷
    ScrollStop c.object c.time (eqb c.extra 1) (eqb c.flag 1) ∷
    ScrollCancel c.object c.time (eqb c.extra 1) (eqb c.flag 1) ∷
    ScrollDiscrete c.object c.time (amount_of c.extra) (amount_of c.flag) ∷
    KeyboardKey c.object c.time (low c.extra) (key_state c.flag) ∷
    TouchDown c.object c.time (low c.extra) c.x c.y ∷
    TouchUp c.object c.time (low c.extra) ∷
    TouchMotion c.object c.time (low c.extra) c.x c.y ∷
    TouchCancel c.object c.time (low c.extra) ∷
    TextKeysym c.object c.time (low c.extra) (key_state c.flag) ∷
    TextUtf8 c.object c.time (c.extra % 256) ∷
    []

-- the timed requests ("the variants for which `time_mut` answers") come last, and of them the text
abbrev pub first_timed : ℕ
first_timed = 8

abbrev pub text_kind : ℕ
text_kind = 21

abbrev pub timed_kind : ℕ → Bool
timed_kind k = leb first_timed k && leb k text_kind

-- the meaning at the cell's kind; a kind past the last means `Disconnect`
unfoldable pub request_of : Cell → EisRequest
request_of c = get_or (meanings c) c.kind Disconnect

-- "32 texts stand": the slots that texts lie in are those below
abbrev pub texts_limit : ℕ
texts_limit = 32

-- that of no text
abbrev pub no_slot : ℕ
no_slot = texts_limit

-- a request, with the slot that its text lies in
pub record Row : Type 0 where
  pub request : EisRequest
  pub slot : ℕ

unfoldable pub entry : EisRequest → ℕ → Row
entry r s = record { request = r; slot = cond (is_text r) (s % texts_limit) no_slot }

unfoldable pub row_of : Cell → Row
row_of c = entry (request_of c) c.flag

-- a pending row as the frame of its device queues it; a text stays in its slot
unfoldable pub framed_row : (device time : ℕ) → Row → Row
framed_row d t w = record { request = framed_request d t w.request; slot = w.slot }

-- the words and the reals of a row
abbrev pub row_words : ℕ
row_words = 5

abbrev pub row_reals : ℕ
row_reals = 2

unfoldable pub cell_at : List ℕ → List Float → ℕ → Cell
cell_at words reals i =
    cell_of
    (get_or words (i * row_words) 0)
    (get_or words (i * row_words + 1) 0)
    (get_or words (i * row_words + 2) 0)
    (get_or words (i * row_words + 3) 0)
    (get_or words (i * row_words + 4) 0)
    (get_or reals (i * row_reals) nan)
    (get_or reals (i * row_reals + 1) nan)

unfoldable pub row_at : List ℕ → List Float → ℕ → Row
row_at words reals i = row_of (cell_at words reals i)

-- row i lies within the words and the reals
abbrev pub Within : List ℕ → List Float → ℕ → Type 0
Within words reals i = (i * row_words + row_words ≤ length words) × (i * row_reals + row_reals ≤ length reals)

-- a table whose rows have n entries each, after the values were put into a row: there they stand, and every other entry is as it was
pub record PutRow {A : Type 0} (n row : ℕ) (values before after : List A) : Type 0 where
  pub here : (j : ℕ) (d : A) → j < n → get_or after (row * n + j) d ≡ get_or values j d
  pub below : (k : ℕ) (d : A) → k < row * n → get_or after k d ≡ get_or before k d
  pub above : (k : ℕ) (d : A) → row * n + n ≤ k → get_or after k d ≡ get_or before k d

-- a table after a was put at place i: there it stands, and every other place is as it was
pub record Put {A : Type 0} (before after : ℕ → A) (i : ℕ) (a : A) : Type 0 where
  pub here : after i ≡ a
  pub other : (j : ℕ) → (j ≡ i → ⊥) → after j ≡ before j

-- a pending row was put over another as the frame of its device queues it
abbrev pub PutFramed : (before after : ℕ → Row) (from to device time : ℕ) → Type 0
PutFramed before after from to d t = Put before after to (framed_row d t (before from))
