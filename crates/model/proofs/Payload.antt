-- What a decision sees of two matching calls is the same. Assumes nothing.
use Prim.Native.Nat.{ℕ}
use mathlib.Core.Path.{◌≡◌, refl}
use mathlib.Core.Bool.{true}
use mathlib.Core.List.{List}
use lib.ListN.{length}
use Rattle.utf8.specs.Rfc3629.{is_utf8}
use Rattle.model.specs.Call.{Input, Turn, sight}
use Rattle.model.specs.Demand3.{Alike}
use Rattle.model.specs.Payload.{SameButPayload, Matched}

-- "two Utf8 texts are equal, or equally long and both valid"
pub equally_long : (t t' : List ℕ) → length t ≡ length t' → is_utf8 t ≡ true → is_utf8 t' ≡ true → sight (Input.Utf8 t) ≡ sight (Input.Utf8 t')
unfolding sight
equally_long t t' l h h' = rw (l, h, h')

pub sight_same : {a a' : Input} → SameButPayload a a' → sight a ≡ sight a'
unfolding sight
sight_same (SameButPayload.same a) = refl
sight_same (SameButPayload.MotionRelative x y x' y') = refl
sight_same (SameButPayload.MotionAbsolute x y x' y') = refl
sight_same (SameButPayload.Button b b' s s') = refl
sight_same (SameButPayload.Scroll x y x' y') = refl
sight_same (SameButPayload.ScrollDiscrete x y x' y') = refl
sight_same (SameButPayload.ScrollStop x y x' y' is_cancel) = refl
sight_same (SameButPayload.Key k k' s s') = refl
sight_same (SameButPayload.Down t x y x' y') = refl
sight_same (SameButPayload.Motion t x y x' y') = refl
sight_same (SameButPayload.Keysym k k' s s') = refl
sight_same (SameButPayload.Utf8 t t' l h h') = equally_long t t' l h h'

pub matched_alike : {ts ts' : List Turn} → Matched ts ts' → Alike ts ts'
unfolding Alike
matched_alike Matched.none = refl
matched_alike (Matched.plain c now room m) = rw (matched_alike m)
matched_alike (Matched.timed i v now room p m) = rw (sight_same p, matched_alike m)
