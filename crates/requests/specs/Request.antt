-- What `device` of src/request.rs answers for each request, and what a frame and a text make of it. Assumes nothing.
use Rattle.std.specs.Prelude.{ℕ, Bool, true, false, Some, None}
use Rattle.std.specs.Prelude as rust
use Rattle.std.proofs.Math.Option.{Option, none, some}
use Rattle.requests.specs.declared.request.EisRequest.{EisRequest}
use Rattle.requests.specs.declared.request.EisRequest.TheVariants.{Disconnect, Bind, DeviceClosed, RequestDevice, Frame, Ready, DeviceStartEmulating, DeviceStopEmulating, PointerMotion, PointerMotionAbsolute, Button, ScrollDelta, ScrollStop, ScrollCancel, ScrollDiscrete, KeyboardKey, TouchDown, TouchUp, TouchMotion, TouchCancel, TextKeysym, TextUtf8}

-- what is asked of a request
pub record Form : Type 0 where
  -- the device that it is on
  pub device : rust.Option ℕ
  -- the length of the text that lies beside it
  pub text : Option ℕ
  -- the request as the frame of a device queues it
  pub framed : (device time : ℕ) → EisRequest

-- None but timed requests ("the variants for which `time_mut` answers") are made pending. Any other, which only damage can leave there, counts
-- as a ScrollStop of neither axis
abbrev lost : (device time : ℕ) → EisRequest
lost d t = ScrollStop d t false false

-- one on no device; one on a device that is not timed; and a timed one
abbrev apart : Form
apart = record { device = None; text = none; framed = lost }

abbrev still : (device : ℕ) → Form
still d = record { device = Some d; text = none; framed = lost }

abbrev timed : (device : ℕ) → ((device time : ℕ) → EisRequest) → Form
timed d at = record { device = Some d; text = none; framed = at }

abbrev pub form : EisRequest → Form
form Disconnect = apart
form (Bind s m) = apart
form (DeviceClosed d) = still d
form (RequestDevice s m) = apart
form (Frame d n u) = still d
form (Ready d) = still d
form (DeviceStartEmulating d n q) = still d
form (DeviceStopEmulating d n) = still d
form (PointerMotion d u x y) = timed d (λ e t. PointerMotion e t x y)
form (PointerMotionAbsolute d u x y) = timed d (λ e t. PointerMotionAbsolute e t x y)
form (Button d u b s) = timed d (λ e t. Button e t b s)
form (ScrollDelta d u x y) = timed d (λ e t. ScrollDelta e t x y)
form (ScrollStop d u x y) = timed d (λ e t. ScrollStop e t x y)
form (ScrollCancel d u x y) = timed d (λ e t. ScrollCancel e t x y)
form (ScrollDiscrete d u x y) = timed d (λ e t. ScrollDiscrete e t x y)
form (KeyboardKey d u k s) = timed d (λ e t. KeyboardKey e t k s)
form (TouchDown d u i x y) = timed d (λ e t. TouchDown e t i x y)
form (TouchUp d u i) = timed d (λ e t. TouchUp e t i)
form (TouchMotion d u i x y) = timed d (λ e t. TouchMotion e t i x y)
form (TouchCancel d u i) = timed d (λ e t. TouchCancel e t i)
form (TextKeysym d u k s) = timed d (λ e t. TextKeysym e t k s)
form (TextUtf8 d u n) = record { device = Some d; text = some n; framed = λ e t. TextUtf8 e t n }

-- "Returns the high-level `Device` wrapper for this request, if applicable."
abbrev pub device_of : EisRequest → rust.Option ℕ
device_of r = (form r).device

-- a pending request on the device of the frame, at the frame's time
abbrev pub framed_request : (device time : ℕ) → EisRequest → EisRequest
framed_request d t r = (form r).framed d t

abbrev pub given : Option ℕ → Bool
given none = false
given (some n) = true

-- whether a text lies beside the request
abbrev pub is_text : EisRequest → Bool
is_text r = given (form r).text

abbrev pub or_none : Option ℕ → ℕ
or_none none = 0
or_none (some n) = n

-- how many bytes that text has; 0 where there is none
abbrev pub text_length : EisRequest → ℕ
text_length r = or_none (form r).text
