-- A message on an object of a known interface: its request and its arguments, or the first ParseError that the source meets. Assumes nothing.
use Rattle.std.specs.Prelude.{ℕ, ◌+◌, ◌-◌, ◌*◌, ◌/◌, ◌&&◌, cond, List, eqb, leb, ltb, Float, length, get_or, take, drop, Result, Ok, Err, Some}
use Rattle.std.specs.Prelude as rust
use Rattle.std.specs.Float.{binary32}
use Rattle.std.specs.Float.Ieee.{of_bits}
use Rattle.utf8.specs.Rfc3629.{is_utf8}
use Rattle.wire.specs.declared.ParseError.{ParseError}
use Rattle.parse.specs.declared.Argument.{Argument}
use Rattle.parse.specs.declared.Arguments.{Arguments}
use Rattle.parse.specs.declared.Progress.{Progress}
use Rattle.parse.specs.Table.{Found, signature_of}

-- how far a message is read, and what is read of it, or the first thing that is wrong with it
abbrev pub Walk : Type 0
Walk = Result Progress ParseError

abbrev pub Parsed : Type 0
Parsed = Result Arguments ParseError

-- ---- numbers, "always little-endian"

abbrev byte : List ℕ → ℕ → ℕ
byte m i = get_or m i 0

unfoldable pub le32 : (message : List ℕ) → (at : ℕ) → ℕ
le32 m at = byte m at + 0x100 * byte m (at + 1) + 0x1_0000 * byte m (at + 2) + 0x100_0000 * byte m (at + 3)

unfoldable pub le64 : (message : List ℕ) → (at : ℕ) → ℕ
unfolding le32
le64 m at = le32 m at + 0x1_0000_0000 * le32 m (at + 4)

-- ---- what was read, with one argument more

abbrev pub arguments_of : (request first second third start length : ℕ) → (x y : Float) → Arguments
arguments_of n a b c start length x y =
    record { request = n; first = a; second = b; third = c; start = start; length = length; x = x; y = y }

abbrev pub progress_of : (at numbers reals : ℕ) → Arguments → Progress
progress_of at numbers reals a = record { at = at; numbers = numbers; reals = reals; read = a }

-- whole numbers go to `first`, `second` and `third` in their order
unfoldable pub with_number : Progress → (next number : ℕ) → Progress
with_number p next n =
    let a = p.read in
    cond (eqb p.numbers 0)
    (progress_of next 1 p.reals (arguments_of a.request n a.second a.third a.start a.length a.x a.y))
    (cond (eqb p.numbers 1)
    (progress_of next 2 p.reals (arguments_of a.request a.first n a.third a.start a.length a.x a.y))
    (progress_of next 3 p.reals (arguments_of a.request a.first a.second n a.start a.length a.x a.y)))

-- reals go to `x` and `y`
unfoldable pub with_real : Progress → (next : ℕ) → Float → Progress
with_real p next v =
    let a = p.read in
    cond (eqb p.reals 0)
    (progress_of next p.numbers 1 (arguments_of a.request a.first a.second a.third a.start a.length v a.y))
    (progress_of next p.numbers 2 (arguments_of a.request a.first a.second a.third a.start a.length a.x v))

-- a text is told by its part of the message
unfoldable pub with_text : Progress → (next start length : ℕ) → Progress
with_text p next start length =
    let a = p.read in
    progress_of next p.numbers p.reals (arguments_of a.request a.first a.second a.third start length a.x a.y)

-- ---- one argument

-- EndOfMessage: "an argument needs more bytes than are left"
unfoldable pub needing : (message : List ℕ) → (at count : ℕ) → Walk → Walk
needing m at count w = cond (leb (at + count) (length m)) w (Err ParseError.EndOfMessage)

-- "32-bit numbers, floats and enums 4 bytes, 64-bit numbers and new_ids 8"
unfoldable pub word_read : (message : List ℕ) → Progress → Walk
unfolding le32 with_number needing
word_read m p = needing m p.at 4 (Ok (with_number p (p.at + 4) (le32 m p.at)))

unfoldable pub double_word_read : (message : List ℕ) → Progress → Walk
unfolding le64 le32 with_number needing
double_word_read m p = needing m p.at 8 (Ok (with_number p (p.at + 8) (le64 m p.at)))

unfoldable pub real_read : (message : List ℕ) → Progress → Walk
unfolding le32 with_real needing
real_read m p = needing m p.at 4 (Ok (with_real p (p.at + 4) (of_bits binary32 (le32 m p.at))))

-- "zeros up to a multiple of four"
abbrev pub padded : ℕ → ℕ
padded count = (count + 3) / 4 * 4

-- the bytes of a text of so many with its closing zero: "Byte L (the closing zero) and the padding are not looked at"
abbrev pub text_at : (message : List ℕ) → (at count : ℕ) → List ℕ
text_at m at count = take (count - 1) (drop at m)

-- "a string is L (32 bits, with its closing zero), L bytes, zeros up to a multiple of four; L = 0 is NULL"
unfoldable pub text_read : (message : List ℕ) → Progress → Walk
unfolding le32 with_text needing is_utf8
text_read m p =
    let count = le32 m p.at in
    let start = p.at + 4 in
    needing m p.at 4
    (cond (eqb count 0)
    (Err ParseError.InvalidNull)
    (needing m start (padded count)
    (cond (is_utf8 (text_at m start count))
    (Ok (with_text p (start + padded count) start (count - 1)))
    (Err ParseError.Utf8))))

-- an enum's number, from its least to its most: else it is an InvalidVariant
unfoldable pub variant_read : (least most : ℕ) → (message : List ℕ) → Progress → Walk
unfolding le32 with_number needing
variant_read least most m p =
    let n = le32 m p.at in
    needing m p.at 4
    (cond (leb least n && leb n most)
    (Ok (with_number p (p.at + 4) n))
    (Err (ParseError.InvalidVariant n)))

-- "context_type not 1, 2; button and key states not 0, 1" are InvalidVariant
unfoldable pub read_by : Argument → (message : List ℕ) → Progress → Walk
unfolding word_read double_word_read real_read text_read variant_read
read_by Argument.None m p = Ok p
read_by Argument.Uint32 m p = word_read m p
read_by Argument.Uint64 m p = double_word_read m p
read_by Argument.Float m p = real_read m p
read_by Argument.String m p = text_read m p
read_by Argument.PressState m p = variant_read 0 1 m p
read_by Argument.ContextType m p = variant_read 1 2 m p

-- "by argument, in order": behind one that is malformed none is read
unfoldable pub argument_read : Argument → (message : List ℕ) → Walk → Walk
unfolding read_by
argument_read kind m (Err e) = Err e
argument_read kind m (Ok p) = read_by kind m p

-- ---- the message

-- the arguments begin behind the header; what no argument gives is 0
abbrev pub zero_real : Float
zero_real = of_bits binary32 0

unfoldable pub begun : (request : ℕ) → Walk
begun n = Ok (progress_of 16 0 0 (arguments_of n 0 0 0 0 0 zero_real zero_real))

-- "MessageLength(length + left, length)": "bytes left behind the last argument"
unfoldable pub ended : (message : List ℕ) → Walk → Parsed
ended m (Err e) = Err e
ended m (Ok p) =
    cond (ltb p.at (length m))
    (Err (ParseError.MessageLength (length m + (length m - p.at)) (length m)))
    (Ok p.read)

-- "opcode; string; numbers in turn; variant; left over"
unfoldable pub parsed_as : (interface : ℕ) → (message : List ℕ) → Found → Parsed
unfolding le32 argument_read begun ended
parsed_as interface m rust.None = Err (ParseError.InvalidOpcode interface (le32 m 12))
parsed_as interface m (Some s) =
    ended m (argument_read s.third m (argument_read s.second m (argument_read s.first m (begun s.request))))

unfoldable pub parsed : (interface : ℕ) → (message : List ℕ) → Parsed
unfolding le32 signature_of parsed_as
parsed interface m = parsed_as interface m (signature_of interface (le32 m 12))
