-- Messages that differ in payload alone are read alike. Assumes nothing.
use Prim.Native.Nat.{ℕ, ◌+◌, ◌*◌, ◌≤◌, ◌<◌}
use mathlib.Core.Path.{◌≡◌, refl, ap₂}
use mathlib.Core.Bool.{Bool, true, false, ◌||◌, cond}
use mathlib.Core.List.{List}
use mathlib.Core.Logic.{inl, inr}
use mathlib.Core.Option.{Option, none, some}
use native.Mathlib.Omega.{arith}
use borrow.Author.Tests.{ltb-false}
use lib.Dec.{ltb}
use lib.ListN.{length, get_or, take, drop}
use Rattle.wire.specs.declared.ParseError.{ParseError}
use Rattle.std.specs.Prelude.{Ok, Err, Some}
use Rattle.std.specs.Prelude as rust
use Rattle.parse.specs.First.{ReadFirst, first_as, first_of}
use Rattle.parse.specs.Parse.{Parsed, le32, le64, parsed}
use Rattle.parse.specs.Same.{Same, Alike, Moves, Touches, States}
use Rattle.parse.proofs.Same.{alike}
use Rattle.lent_read.specs.Numbers.{request_of}
use Rattle.model.specs.Call.{Input, Call}
use Rattle.model.specs.Payload.{SameButPayload}
use Rattle.model.specs.Live.{Object, live}
use Rattle.model_reads.specs.Message.{Reading}
use Rattle.model_reads.specs.Acts.{MatchedCall, MatchedReading}
use Rattle.messages.specs.Reading.{request_in, call_in, read_as, reading_on, reading_of, reading}
use Rattle.messages.specs.Same.{SameMatched}

-- ---- the same

same_call : (c : Call Input) → MatchedCall c c
same_call (Call.timed i v a) = MatchedCall.timed i v (SameButPayload.same a)
same_call (Call.plain c) = MatchedCall.plain c

-- ---- by request

module _ (object version : ℕ) where
  same_text : {t t' : List ℕ} → t ≡ t' → MatchedCall (Call.timed object version (Input.Utf8 t)) (Call.timed object version (Input.Utf8 t'))
  same_text {t} e = rw (← e) (same_call (Call.timed object version (Input.Utf8 t)))

  -- of n bytes
  matched_as : {r r' : Parsed} (m m' : List ℕ) (n : ℕ) → Alike (take n m) (take n m') r r'
      → MatchedReading (read_as object version m (first_as n r)) (read_as object version m' (first_as n r'))
  unfolding read_as first_as call_in request_in request_of
  matched_as {r = Err e} m m' n (Alike.equal q) = MatchedReading.malformed e
  matched_as {r = Ok a} m m' n (Alike.equal q) = rw (← q) (MatchedReading.request n (same_call (call_in a object version (take n m))))
  matched_as m m' n (Alike.malformed e) = MatchedReading.malformed e
  matched_as m m' n (Alike.moves Moves.motion_relative x y x' y') = MatchedReading.request n (MatchedCall.timed object version (SameButPayload.MotionRelative x y x' y'))
  matched_as m m' n (Alike.moves Moves.motion_absolute x y x' y') = MatchedReading.request n (MatchedCall.timed object version (SameButPayload.MotionAbsolute x y x' y'))
  matched_as m m' n (Alike.moves Moves.scroll x y x' y') = MatchedReading.request n (MatchedCall.timed object version (SameButPayload.Scroll x y x' y'))
  matched_as m m' n (Alike.discrete a b a' b') = MatchedReading.request n (MatchedCall.timed object version (SameButPayload.ScrollDiscrete _ _ _ _))
  matched_as m m' n (Alike.stop a b a' b' cancel) = MatchedReading.request n (MatchedCall.timed object version (SameButPayload.ScrollStop _ _ _ _ _))
  matched_as m m' n (Alike.states States.button a s a' s' l l') = MatchedReading.request n (MatchedCall.timed object version (SameButPayload.Button _ _ _ _))
  matched_as m m' n (Alike.states States.key a s a' s' l l') = MatchedReading.request n (MatchedCall.timed object version (SameButPayload.Key _ _ _ _))
  matched_as m m' n (Alike.states States.keysym a s a' s' l l') = MatchedReading.request n (MatchedCall.timed object version (SameButPayload.Keysym _ _ _ _))
  matched_as m m' n (Alike.touches Touches.down id x y x' y') = MatchedReading.request n (MatchedCall.timed object version (SameButPayload.Down _ x y x' y'))
  matched_as m m' n (Alike.touches Touches.motion id x y x' y') = MatchedReading.request n (MatchedCall.timed object version (SameButPayload.Motion _ x y x' y'))
  matched_as m m' n (Alike.text start count l (inl e)) = MatchedReading.request n (same_text e)
  matched_as m m' n (Alike.text start count l (inr b)) = MatchedReading.request n (MatchedCall.timed object version (SameButPayload.Utf8 (take count (drop start (take n m))) (take count (drop start (take n m'))) l b.0 b.1))

-- ---- headers

le32_same : (m m' : List ℕ) (at : ℕ) → ((i : ℕ) → at ≤ i → i < at + 4 → get_or m i 0 ≡ get_or m' i 0) → le32 m at ≡ le32 m' at
unfolding le32
le32_same m m' at h = rw (h at (omega arith) (omega arith), h (at + 1) (omega arith) (omega arith), h (at + 2) (omega arith) (omega arith), h (at + 3) (omega arith) (omega arith))

le64_same : (m m' : List ℕ) (at : ℕ) → ((i : ℕ) → at ≤ i → i < at + 8 → get_or m i 0 ≡ get_or m' i 0) → le64 m at ≡ le64 m' at
unfolding le64
le64_same m m' at h =
    ap₂ (λ (a b : ℕ). a + 0x1_0000_0000 * b) (le32_same m m' at (λ i a b. h i a (omega arith))) (le32_same m m' (at + 4) (λ i a b. h i (omega arith) (omega arith)))

-- ---- on an object that lives

module _ (object interface version : ℕ) (m m' : List ℕ) (long : length m ≡ length m') (size : le32 m 8 ≡ le32 m' 8)
    (rest : le32 m 8 ≤ length m → Same interface (take (le32 m 8) m) (take (le32 m 8) m')) where
  abbrev As : List ℕ → ReadFirst → Reading (Call Input)
  As l r = read_as object version l r

  -- a message that is whole
  abbrev whole : List ℕ → ReadFirst
  whole l = first_as (le32 m 8) (parsed interface (take (le32 m 8) l))

  matched_on : MatchedReading (reading_on object interface version m) (reading_on object interface version m')
  unfolding reading_on first_of read_as
  matched_on = rw (← size, ← long) (by_length (ltb (le32 m 8) 16 || ltb 1024 (le32 m 8)))
    where
      by_room : (b : Bool) → ltb (length m) (le32 m 8) ≡ b → MatchedReading (As m (cond b (Ok rust.None) (whole m))) (As m' (cond b (Ok rust.None) (whole m')))
      by_room true e = MatchedReading.wait
      by_room false e =
          matched_as object version m m' (le32 m 8) (alike interface (take (le32 m 8) m) (take (le32 m 8) m') (rest (ltb-false (length m) (le32 m 8) e)))

      by_length : (b : Bool)
          → MatchedReading
          (As m (cond b (Err (ParseError.HeaderLength (le32 m 8))) (cond (ltb (length m) (le32 m 8)) (Ok rust.None) (whole m))))
          (As m' (cond b (Err (ParseError.HeaderLength (le32 m 8))) (cond (ltb (length m) (le32 m 8)) (Ok rust.None) (whole m'))))
      by_length true = MatchedReading.malformed (ParseError.HeaderLength (le32 m 8))
      by_length false = by_room (ltb (length m) (le32 m 8)) refl

pub same_matched : SameMatched
unfolding reading reading_of
same_matched v m m' s = rw (← s.long) (by_header (ltb (length m) 16) refl)
  where
    by_object : (h : 16 ≤ length m) (o : Option Object) → live v (le64 m 0) ≡ o → MatchedReading (reading_of (le64 m 0) o m) (reading_of (le64 m 0) o m')
    by_object h none e = MatchedReading.no_object
    by_object h (some o) e =
        matched_on (le64 m 0) o.interface o.version m m' s.long (le32_same m m' 8 (λ i a b. s.header h i (omega arith))) (s.rest h o e)

    by_header : (b : Bool) → ltb (length m) 16 ≡ b
        → MatchedReading (cond b Reading.wait (reading_of (le64 m 0) (live v (le64 m 0)) m)) (cond b Reading.wait (reading_of (le64 m' 0) (live v (le64 m' 0)) m'))
    by_header true e = MatchedReading.wait
    by_header false e =
        let h = ltb-false (length m) 16 e in
        rw (← le64_same m m' 0 (λ i a b. s.header h i (omega arith))) (by_object h (live v (le64 m 0)) refl)
