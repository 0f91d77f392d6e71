-- Messages that differ in payload alone, and what they are read as. Assumes nothing.
use Rattle.std.specs.Prelude.{ℕ, ◌+◌, ◌≤◌, ◌<◌, ◌≡◌, Bool, true, false, ◌||◌, cond, List, [], ◌∷◌, ◌⊎◌, eqb, Float, length, get_or, take, drop, Ok, Err, Some}
use Rattle.std.specs.Prelude as rust
use Rattle.utf8.specs.Rfc3629.{is_utf8}
use Rattle.wire.specs.declared.ParseError.{ParseError}
use Rattle.parse.specs.Table.{Found, signature_of}
use Rattle.parse.specs.Parse.{le32, padded, text_at, Parsed, arguments_of, zero_real}

-- ---- payload

-- a part of a message: its bytes from one place on, and before another
pub record Part : Type 0 where
  pub from : ℕ
  pub to : ℕ

abbrev pub Outside : Part → ℕ → Type 0
Outside p i = (i < p.from) ⊎ (p.to ≤ i)

abbrev pub is_in : List ℕ → ℕ → Bool
is_in [] n = false
is_in (x ∷ l) n = eqb n x || is_in l n

-- the bytes of the starred arguments: both of Motion and Scroll, the discrete ones too; Scroll Stop's first two; Button, Key and Keysym whole;
-- a touch's place; and all behind the length of a text, for no message has more than 1,024 bytes
unfoldable pub payload : (request : ℕ) → Part
payload n =
    cond (is_in (17 ∷ 19 ∷ 21 ∷ 22 ∷ 23 ∷ 25 ∷ 27 ∷ 34 ∷ []) n)
    (record { from = 16; to = 24 })
    (cond (is_in (29 ∷ 30 ∷ []) n)
    (record { from = 20; to = 28 })
    (cond (eqb n 35)
    (record { from = 20; to = 1024 })
    (record { from = 0; to = 0 })))

-- the requests that have two reals alone, a touch's number and two reals, a number and a press state
pub data Moves : ℕ → Type 0 where
  motion_relative : Moves 17
  motion_absolute : Moves 19
  scroll : Moves 21

pub data Touches : ℕ → Type 0 where
  down : Touches 29
  motion : Touches 30

pub data States : ℕ → Type 0 where
  button : States 25
  key : States 27
  keysym : States 34

-- ---- messages

-- the text of a Utf8
abbrev pub text_of : (message : List ℕ) → List ℕ
text_of m = text_at m 20 (le32 m 16)

-- "equal, or equally long and both valid"
abbrev pub Texts : List ℕ → List ℕ → Type 0
Texts t t' = (t ≡ t') ⊎ ((is_utf8 t ≡ true) × (is_utf8 t' ≡ true))

-- two messages of this request that differ in payload alone: they have equal lengths, and the bytes outside the payload are equal. "Presumed besides:
-- each press state is 0 or 1 in both"; and a text is the same in both, or both are UTF-8. Of what is not whole nothing is presumed.
pub record SameAs (request : ℕ) (m m' : List ℕ) : Type 0 where
  pub long : length m ≡ length m'
  pub bytes : (i : ℕ) → Outside (payload request) i → get_or m i 0 ≡ get_or m' i 0
  pub states : States request → 24 ≤ length m → (le32 m 20 ≤ 1) × (le32 m' 20 ≤ 1)
  pub texts : request ≡ 35 → 20 + padded (le32 m 16) ≤ length m → Texts (text_of m) (text_of m')

-- a request's number, 36 for none
abbrev pub number_of : Found → ℕ
number_of (Some s) = s.request
number_of rust.None = 36

-- the same of messages on an object of this interface, by the request that the first one's opcode stands for
abbrev pub Same : (interface : ℕ) → (m m' : List ℕ) → Type 0
Same interface m m' = SameAs (number_of (signature_of interface (le32 m 12))) m m'

-- ---- what they are read as

-- numbers and reals, and no text
abbrev pub numbered : (request first second third : ℕ) → (x y : Float) → Parsed
numbered n a b c x y = Ok (arguments_of n a b c 0 0 x y)

-- numbers alone, and a text alone: its part of the message
abbrev pub whole : (request first second third : ℕ) → Parsed
whole n a b c = numbered n a b c zero_real zero_real

abbrev pub texted : (request start length : ℕ) → Parsed
texted n start length = Ok (arguments_of n 0 0 0 start length zero_real zero_real)

-- the same ParseError, or the same request with arguments that are equal but for payload. Messages of a request that has none are equal.
pub data Alike (m m' : List ℕ) : Parsed → Parsed → Type 0 where
  equal : {r : Parsed} → m ≡ m' → Alike m m' r r
  malformed : (e : ParseError) → Alike m m' (Err e) (Err e)
  moves : {n : ℕ} → Moves n → (x y x' y' : Float) → Alike m m' (numbered n 0 0 0 x y) (numbered n 0 0 0 x' y')
  discrete : (a b a' b' : ℕ) → Alike m m' (whole 22 a b 0) (whole 22 a' b' 0)
  stop : (a b a' b' cancel : ℕ) → Alike m m' (whole 23 a b cancel) (whole 23 a' b' cancel)
  states : {n : ℕ} → States n → (a s a' s' : ℕ) → s ≤ 1 → s' ≤ 1 → Alike m m' (whole n a s 0) (whole n a' s' 0)
  touches : {n : ℕ} → Touches n → (id : ℕ) → (x y x' y' : Float) → Alike m m' (numbered n id 0 0 x y) (numbered n id 0 0 x' y')
  text : (start count : ℕ) → length (take count (drop start m)) ≡ length (take count (drop start m'))
      → Texts (take count (drop start m)) (take count (drop start m')) → Alike m m' (texted 35 start count) (texted 35 start count)
