-- What is told of a request of the code, kind by kind: here and in requests/proofs/Forms alone are the 22 kinds gone through. Assumes nothing.
use Prim.Native.Nat.{ℕ, ◌+◌}
use mathlib.Core.Path.{◌≡◌, refl, sym, ap, ◌∙◌}
use mathlib.Core.Bool.{Bool, true, false, cond}
use mathlib.Core.List.{List, [], ◌∷◌}
use mathlib.Core.Option.{Option, none, some}
use native.Mathlib.Nat.{add-zero}
use native.Mathlib.Omega.{arith}
use lib.ListN.{take}
use Rattle.requests.specs.declared.request.EisRequest.{EisRequest}
use Rattle.requests.specs.declared.request.EisRequest.TheVariants.{Disconnect, Bind, DeviceClosed, RequestDevice, Frame, Ready, DeviceStartEmulating, DeviceStopEmulating, PointerMotion, PointerMotionAbsolute, Button, ScrollDelta, ScrollStop, ScrollCancel, ScrollDiscrete, KeyboardKey, TouchDown, TouchUp, TouchMotion, TouchCancel, TextKeysym, TextUtf8}
use Rattle.requests.specs.Request.{form, given, is_text, or_none, framed_request, text_length}
use Rattle.model.specs.Call.{Load}
use Rattle.model.specs.Session.{Untimed, Queued}
use Rattle.model.specs.Step.{texts, text_bytes}
use Rattle.session.specs.View.{request_in, item_in, text_in}

-- 1 for a text, 0 for any other request
abbrev pub texts_of : Queued Load → ℕ
texts_of (Queued.timed d t i) = texts i.kind
texts_of (Queued.untimed r) = 0

-- the text that a request carries
abbrev pub carried : Queued Load → List ℕ
carried (Queued.timed d t i) = text_in i.load
carried (Queued.untimed r) = []

-- what is asked of a request with a text x, with another text y, and framed
record Told : Type 0 where
  framed : Queued Load
  length : ℕ
  count : ℕ
  bytes : ℕ
  text : List ℕ
  other : Queued Load

module _ (d t : ℕ) (x y : List ℕ) where
  abbrev asked : EisRequest → Told
  asked r =
      record {
        framed = request_in (framed_request d t r) x;
        length = text_length (framed_request d t r);
        count = texts_of (request_in r x);
        bytes = text_bytes (request_in r x ∷ []);
        text = carried (request_in r x);
        other = request_in r y;
      }

  abbrev answered : EisRequest → Told
  answered r =
      record {
        framed = Queued.timed d t (item_in (request_in r x));
        length = text_length r;
        count = cond (is_text r) 1 0;
        bytes = text_length r + 0;
        text = cond (is_text r) x [];
        other = cond (is_text r) (request_in r y) (request_in r x);
      }

  same : (r : EisRequest) → asked r ≡ answered r
  unfolding request_in item_in texts text_bytes
  same Disconnect = refl
  same (Bind a b) = refl
  same (DeviceClosed a) = refl
  same (RequestDevice a b) = refl
  same (Frame a b c) = refl
  same (Ready a) = refl
  same (DeviceStartEmulating a b c) = refl
  same (DeviceStopEmulating a b) = refl
  same (PointerMotion a b c e) = refl
  same (PointerMotionAbsolute a b c e) = refl
  same (Button a b c e) = refl
  same (ScrollDelta a b c e) = refl
  same (ScrollStop a b c e) = refl
  same (ScrollCancel a b c e) = refl
  same (ScrollDiscrete a b c e) = refl
  same (KeyboardKey a b c e) = refl
  same (TouchDown a b c e f) = refl
  same (TouchUp a b c) = refl
  same (TouchMotion a b c e f) = refl
  same (TouchCancel a b c) = refl
  same (TextKeysym a b c e) = refl
  same (TextUtf8 a b c) = refl

-- one that is untimed is no text
stays-untimed : (b : Bool) (p q : Queued Load) (u : Untimed) → texts_of p ≡ cond b 1 0 → q ≡ cond b q p → p ≡ Queued.untimed u → q ≡ Queued.untimed u
stays-untimed true p q u n e z = let k : ◌≡◌ {A = ℕ} 0 1 = sym (ap texts_of z) ∙ n in absurd (omega arith)
stays-untimed false p q u n e z = e ∙ z

-- a text of no length is the empty one
cut_text : (o : Option ℕ) (x : List ℕ) → cond (given o) (take (or_none o) x) [] ≡ take (or_none o) x
cut_text none x = refl
cut_text (some n) x = refl

pub record Shape (r : EisRequest) : Type 0 where
  -- framed it is the same, on the device and at the time of the frame
  pub framed : (d t : ℕ) (x : List ℕ) → request_in (framed_request d t r) x ≡ Queued.timed d t (item_in (request_in r x))
  pub length_kept : (d t : ℕ) → text_length (framed_request d t r) ≡ text_length r
  -- an untimed one is the same with any text
  pub untimed : (x y : List ℕ) (u : Untimed) → request_in r x ≡ Queued.untimed u → request_in r y ≡ Queued.untimed u
  -- the texts and the bytes that the model counts, and the text that it gives
  pub count : (x : List ℕ) → texts_of (request_in r x) ≡ cond (is_text r) 1 0
  pub bytes : (x : List ℕ) → text_bytes (request_in r x ∷ []) ≡ text_length r
  pub text : (x : List ℕ) → carried (request_in r (take (text_length r) x)) ≡ take (text_length r) x

pub shape : (r : EisRequest) → Shape r
shape r =
    record {
      framed = λ d t x. ap (λ (a : Told). a.framed) (same d t x x r);
      length_kept = λ d t. ap (λ (a : Told). a.length) (same d t [] [] r);
      untimed =
          λ x y u.
          stays-untimed (is_text r) (request_in r x) (request_in r y) u (ap (λ (a : Told). a.count) (same 0 0 x y r)) (ap (λ (a : Told). a.other) (same 0 0 x y r));
      count = λ x. ap (λ (a : Told). a.count) (same 0 0 x x r);
      bytes = λ x. ap (λ (a : Told). a.bytes) (same 0 0 x x r) ∙ add-zero (text_length r);
      text = λ x. ap (λ (a : Told). a.text) (same 0 0 (take (text_length r) x) [] r) ∙ cut_text (form r).text x;
    }
