-- THE FIRST MESSAGE OF A LENT SLICE, ON AN OBJECT OF A KNOWN INTERFACE: "object id 64 bits, length 32 bits with the header of 16 bytes, opcode 32 bits, arguments".
-- Assumes nothing.
use Rattle.std.specs.Prelude.{ℕ, ◌||◌, cond, List, ltb, length, take, Result, Ok, Err, Some}
use Rattle.std.specs.Prelude as rust
use Rattle.wire.specs.declared.ParseError.{ParseError}
use Rattle.parse.specs.declared.Arguments.{Arguments}
use Rattle.parse.specs.declared.First.{First}
use Rattle.parse.specs.Parse.{Parsed, le32, parsed}

-- what is told of it: none where it is not yet whole
abbrev pub ReadFirst : Type 0
ReadFirst = Result (rust.Option First) ParseError

abbrev pub read : Arguments → (length : ℕ) → ReadFirst
read a n = Ok (Some (record { arguments = a; length = n }))

-- a whole message of so many bytes, once it is parsed
unfoldable pub first_as : (length : ℕ) → Parsed → ReadFirst
first_as n (Err e) = Err e
first_as n (Ok a) = read a n

-- "once its header is there, object and length are checked before waiting": "Lengths above 1,024 are malformed (`HeaderLength`)", as those below the header's;
-- then WAIT, where the slice is shorter than the length; then the rest, and nothing behind the message
unfoldable pub first_of : (interface : ℕ) → (bytes : List ℕ) → ReadFirst
unfolding le32 first_as parsed
first_of interface bytes =
    let n = le32 bytes 8 in
    cond (ltb n 16 || ltb 1024 n)
    (Err (ParseError.HeaderLength n))
    (cond (ltb (length bytes) n) (Ok rust.None) (first_as n (parsed interface (take n bytes))))
