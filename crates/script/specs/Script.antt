-- The lines of a call script, as the format's page (docs/CALL-SCRIPTS.md) has them. Assumes nothing.
use Rattle.std.specs.Prelude.{ℕ, ◌+◌, ◌-◌, ◌^◌, Bool, true, cond, ◌||◌, List, [], ◌∷◌, ◌++◌, ltb, eqb, Float, ℤ, pos, neg_ℤ, length, drop}
use Rattle.std.proofs.Math.Option.{Option, none, some, map}
use Rattle.std.specs.Float.{nan, binary32}
use Rattle.std.specs.Float.Ieee.{of_bits}
use Rattle.script.specs.declared.verb.Verb.{Verb}
use Rattle.script.specs.declared.verb.Kind.{Kind}
use Rattle.eiproto.specs.Interface.{ascii, same_bytes}
use Rattle.script.specs.Words.{starts_with, before, words}
use Rattle.script.specs.Number.{digits, number, that, within, fits64}
use Rattle.script.specs.Text.{is_text, bytes_of}
use Rattle.script.specs.Verbs.{settings, row_at, kinds_of, lookup}

-- what a word behind the first stands for: a number of 64 or of 32 bits, one with a sign, a float, a text, none, or a part of a read's texts
pub data Arg : Type 0 where
  number64 : ℕ → Arg
  number32 : ℕ → Arg
  signed : ℤ → Arg
  float : Float → Arg
  text : List ℕ → Arg
  no_text : Arg
  text_part : (start length : ℕ) → Arg

-- "MASK one of the seven bits, as 4 for the keyboard"
abbrev pub one_of_seven : ℕ → Bool
one_of_seven n = eqb n 1 || (eqb n 2 || (eqb n 4 || (eqb n 8 || (eqb n 16 || (eqb n 32 || eqb n 64)))))

-- a number that passes a test, with its width
abbrev pub unsigned_of : (ℕ → Arg) → (ℕ → Bool) → List ℕ → Option Arg
unsigned_of arg f w = map arg (that f (number w))

-- "Only `scroll.scroll_discrete` takes a `-` before a decimal number."
unfoldable pub signed_of : List ℕ → Option Arg
unfolding ascii starts_with digits number
signed_of w =
    cond (starts_with (ascii "-") w) (map (λ n. signed (neg_ℤ (pos n))) (that (within 0 (2 ^ 31)) (digits 10 (drop 1 w))))
    (map (λ n. signed (pos n)) (that (within 0 (2 ^ 31 - 1)) (number w)))

-- "An f32 is its bits as a hexadecimal number (`0x3f800000` is 1.0), or `nan`. A pattern of a NaN reads as `nan`."
unfoldable pub float_of : List ℕ → Option Arg
unfolding ascii same_bytes starts_with number of_bits
float_of w =
    cond (same_bytes w (ascii "nan")) (some (float nan))
    (cond (starts_with (ascii "0x") w) (map (λ n. float (of_bits binary32 n)) (that (within 0 (2 ^ 32 - 1)) (number w))) none)

abbrev pub text_of : List ℕ → Option Arg
text_of w = cond (is_text w) (some (text (bytes_of (drop 2 w)))) none

abbrev pub both_of : Option ℕ → Option ℕ → Option Arg
both_of none n = none
both_of (some m) none = none
both_of (some m) (some n) = some (text_part m n)

-- `p:START:LENGTH`: "a part of TEXTS, two numbers of 64 bits"
unfoldable pub part_of : List ℕ → Option Arg
unfolding ascii starts_with before number
part_of w =
    let start = before 0x3a (drop 2 w) in
    cond (starts_with (ascii "p:") w) (both_of (that fits64 (number start)) (that fits64 (number (drop (3 + length start) w)))) none

-- A word read as a kind; none where it does not stand for one: "a press state above 1, a type, reason or mask that has no such value, a number too
-- large for its field".
unfoldable pub read_as : Kind → List ℕ → Option Arg
unfolding number signed_of float_of is_text bytes_of part_of ascii same_bytes
read_as Kind.U64 w = unsigned_of number64 fits64 w
read_as Kind.U32 w = unsigned_of number32 (within 0 (2 ^ 32 - 1)) w
read_as Kind.I32 w = signed_of w
read_as Kind.F32 w = float_of w
read_as Kind.Text w = text_of w
read_as Kind.OptionalText w = cond (same_bytes w (ascii "none")) (some no_text) (text_of w)
read_as Kind.State w = unsigned_of number32 (within 0 1) w
read_as Kind.TypeNumber w = unsigned_of number32 (within 1 2) w
read_as Kind.Reason w = unsigned_of number32 (within 0 5) w
read_as Kind.Capability w = unsigned_of number64 one_of_seven w
read_as Kind.Count w = unsigned_of number32 (within 0 65535) w
read_as Kind.Part w = part_of w
read_as Kind.Interface w = unsigned_of number32 (within 0 255) w

-- what stands behind what was read
abbrev pub behind : List Arg → Option (List Arg) → Option (List Arg)
behind xs none = none
behind xs (some ys) = some (xs ++ ys)

abbrev pub first : Option Arg → Option (List Arg) → Option (List Arg)
first none rest = none
first (some x) rest = behind (x ∷ []) rest

-- the words behind the first, one for each kind and none besides
unfoldable pub read_args : List Kind → List (List ℕ) → Option (List Arg)
unfolding read_as
read_args [] [] = some []
read_args [] (w ∷ ws) = none
read_args (k ∷ ks) [] = none
read_args (k ∷ ks) (w ∷ ws) = first (read_as k w) (read_args ks ws)

-- what a line is
pub data Reading : Type 0 where
  blank : Reading
  setting : Verb → List Arg → Reading
  call : Verb → List Arg → Reading
  no_call : Reading

-- by the row of the first word
abbrev pub read_with : ℕ → Verb → Option (List Arg) → Reading
read_with i v none = no_call
read_with i v (some args) = cond (ltb i (length settings)) (setting v args) (call v args)

abbrev pub read_row : (in_read : Bool) → Option ℕ → List (List ℕ) → Reading
read_row r none ws = no_call
read_row r (some i) ws = read_with i (row_at i).verb (read_args (kinds_of r (row_at i)) ws)

abbrev pub read_words : (in_read : Bool) → List (List ℕ) → Reading
read_words r [] = no_call
read_words r (w ∷ ws) = read_row r (lookup w) ws

-- "An empty line, and one that begins with `#`, is no call."
unfoldable pub is_blank : List ℕ → Bool
is_blank [] = true
is_blank (c ∷ l) = eqb c 0x23

-- "One call to a line, words separated by one space." In a read, each of its lines is read so too, with parts for texts
unfoldable pub reading : (in_read : Bool) → List ℕ → Reading
unfolding is_blank words settings lookup row_at read_args
reading r line = cond (is_blank line) blank (read_words r (words line))
