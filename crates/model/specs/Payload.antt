-- Demand 3's first half in the scope's own words: which arguments are payload, argument by argument. Assumes nothing.
use Rattle.std.specs.Prelude.{ℕ, ◌≡◌, true, List, [], ◌∷◌, map, ℤ, Float, length}
use Rattle.std.proofs.Math.Option.{Option}
use Rattle.eiproto.specs.declared.eiproto_enum.ButtonState.{ButtonState}
use Rattle.eiproto.specs.declared.eiproto_enum.KeyState.{KeyState}
use Rattle.utf8.specs.Rfc3629.{is_utf8}
use Rattle.model.specs.Call.{Input, Plain, Call, Turn}
use Rattle.model.specs.Demand3.{observed, trail}

-- Two timed requests that are the same, with "every other argument but payload" equal; "two Utf8 texts are equal, or equally long and both valid".
-- (Up and Cancel have no payload)
pub data SameButPayload : Input → Input → Type 0 where
  same : (a : Input) → SameButPayload a a
  MotionRelative : (x y x' y' : Float) → SameButPayload (Input.MotionRelative x y) (Input.MotionRelative x' y')
  MotionAbsolute : (x y x' y' : Float) → SameButPayload (Input.MotionAbsolute x y) (Input.MotionAbsolute x' y')
  Button : (button button' : ℕ) (state state' : ButtonState) → SameButPayload (Input.Button button state) (Input.Button button' state')
  Scroll : (x y x' y' : Float) → SameButPayload (Input.Scroll x y) (Input.Scroll x' y')
  ScrollDiscrete : (x y x' y' : ℤ) → SameButPayload (Input.ScrollDiscrete x y) (Input.ScrollDiscrete x' y')
  ScrollStop : (x y x' y' is_cancel : ℕ) → SameButPayload (Input.ScrollStop x y is_cancel) (Input.ScrollStop x' y' is_cancel)
  Key : (key key' : ℕ) (state state' : KeyState) → SameButPayload (Input.Key key state) (Input.Key key' state')
  Down : (touchid : ℕ) (x y x' y' : Float) → SameButPayload (Input.Down touchid x y) (Input.Down touchid x' y')
  Motion : (touchid : ℕ) (x y x' y' : Float) → SameButPayload (Input.Motion touchid x y) (Input.Motion touchid x' y')
  Keysym : (keysym keysym' : ℕ) (state state' : KeyState) → SameButPayload (Input.Keysym keysym state) (Input.Keysym keysym' state')
  Utf8 : (t t' : List ℕ) → length t ≡ length t' → is_utf8 t ≡ true → is_utf8 t' ≡ true → SameButPayload (Input.Utf8 t) (Input.Utf8 t')

-- "Equally placed calls are the same, with equal handles, object and touch ids, `now` and every other argument but payload; .. Of `out` and the text
-- buffer of `next_request`, only the lengths need agree."
pub data Matched : List Turn → List Turn → Type 0 where
  none : Matched [] []
  plain : (c : Plain) (now room : ℕ) {ts ts' : List Turn} → Matched ts ts' →
      Matched (record { call = Call.plain c; now = now; room = room } ∷ ts) (record { call = Call.plain c; now = now; room = room } ∷ ts')
  timed : (interface version now room : ℕ) {a a' : Input} {ts ts' : List Turn} → SameButPayload a a' → Matched ts ts' →
      Matched (record { call = Call.timed interface version a; now = now; room = room } ∷ ts) (record { call = Call.timed interface version a'; now = now; room = room } ∷ ts')

-- DEMAND 3, FIRST HALF, with nothing said of what a decision sees
unfoldable pub MatchedTrails : Type 0
unfolding observed trail
MatchedTrails =
    (c s n : ℕ) (vs : List (Option ℕ)) (ts ts' : List Turn) → Matched ts ts' → map observed (trail c s n vs ts) ≡ map observed (trail c s n vs ts')
