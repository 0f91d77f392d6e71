-- A request's place in the enum tells whether it has a text. Assumes nothing.
use Prim.Native.Nat.{ℕ, ◌<◌}
use mathlib.Core.Path.{◌≡◌, refl, ◌∙◌}
use mathlib.Core.Bool.{false}
use mathlib.Core.Option.{Option, none, some}
use native.Mathlib.Omega.{arith}
use borrow.Author.Tests.{ne_eqb}
use lib.Dec.{eqb}
use denote.Enum.Declared.{tag_of}
use Rattle.requests.specs.contracts.request.EisRequest.{the_type}
use Rattle.requests.specs.declared.request.EisRequest.{EisRequest}
use Rattle.requests.specs.declared.request.EisRequest.TheVariants.{Disconnect, Bind, DeviceClosed, RequestDevice, Frame, Ready, DeviceStartEmulating, DeviceStopEmulating, PointerMotion, PointerMotionAbsolute, Button, ScrollDelta, ScrollStop, ScrollCancel, ScrollDiscrete, KeyboardKey, TouchDown, TouchUp, TouchMotion, TouchCancel, TextKeysym, TextUtf8}
use Rattle.requests.specs.Row.{text_kind}
use Rattle.requests.specs.Request.{form, given, is_text, or_none, text_length}

-- the text is at its kind
place : (r : EisRequest) → is_text r ≡ eqb (tag_of the_type r) text_kind
place Disconnect = refl
place (Bind a b) = refl
place (DeviceClosed a) = refl
place (RequestDevice a b) = refl
place (Frame a b c) = refl
place (Ready a) = refl
place (DeviceStartEmulating a b c) = refl
place (DeviceStopEmulating a b) = refl
place (PointerMotion a b c d) = refl
place (PointerMotionAbsolute a b c d) = refl
place (Button a b c d) = refl
place (ScrollDelta a b c d) = refl
place (ScrollStop a b c d) = refl
place (ScrollCancel a b c d) = refl
place (ScrollDiscrete a b c d) = refl
place (KeyboardKey a b c d) = refl
place (TouchDown a b c d e) = refl
place (TouchUp a b c) = refl
place (TouchMotion a b c d e) = refl
place (TouchCancel a b c) = refl
place (TextKeysym a b c d) = refl
place (TextUtf8 a b c) = refl

no_length : (o : Option ℕ) → given o ≡ false → or_none o ≡ 0
no_length none h = refl
no_length (some n) h = let z : ◌≡◌ {A = ℕ} 0 1 = cc in absurd (omega arith)

-- a request with no text beside it has a text of no bytes
pub no_length_below : (r : EisRequest) → tag_of the_type r < text_kind → text_length r ≡ 0
no_length_below r h = no_length (form r).text (place r ∙ ne_eqb (tag_of the_type r) text_kind (λ e. omega arith))
