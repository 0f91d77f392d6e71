-- Numbers and bytes in digits. Assumes nothing.
use Rattle.std.specs.Prelude.{ℕ, zero, suc, ◌+◌, ◌/◌, ◌%◌, Bool, true, false, cond, List, [], ◌∷◌, ◌++◌, eqb, ltb}
use Rattle.eiproto.specs.Interface.{ascii}

-- the bytes that f makes of each element, one behind the other
unfoldable pub each : (ℕ → List ℕ) → List ℕ → List ℕ
each f [] = []
each f (b ∷ bs) = f b ++ each f bs

-- a hexadecimal digit, in small letters
unfoldable pub digit : ℕ → ℕ
digit n = cond (ltb n 10) (0x30 + n) (0x57 + n)

-- a byte in two of them
unfoldable pub pair : ℕ → List ℕ
unfolding digit
pair b = digit (b / 16) ∷ digit (b % 16) ∷ []

-- the low 32 bits in eight
unfoldable pub eight : ℕ → List ℕ
unfolding pair
eight n = pair (n / 16777216 % 256) ++ (pair (n / 65536 % 256) ++ (pair (n / 256 % 256) ++ pair (n % 256)))

-- "hexadecimal": bytes, two digits each
unfoldable pub hexadecimal : List ℕ → List ℕ
unfolding each pair
hexadecimal bytes = each pair bytes

-- an id of 64 bits: `0x` and 16 digits
unfoldable pub ident : ℕ → List ℕ
unfolding ascii eight
ident n = ascii "0x" ++ (eight (n / 4294967296) ++ eight n)

-- at most so many decimal digits, the last of the number, with no zeros in front
unfoldable pub decimal_in : ℕ → ℕ → List ℕ
decimal_in zero n = []
decimal_in (suc k) n = cond (eqb (n / 10) 0) [] (decimal_in k (n / 10)) ++ ((0x30 + n % 10) ∷ [])

-- a number of 64 bits, which has at most 20 decimal digits
unfoldable pub decimal : ℕ → List ℕ
unfolding decimal_in
decimal n = decimal_in 20 n

-- what a line shows as it is: from space to `~`, but for the quotation mark and the backslash
unfoldable pub is_plain : ℕ → Bool
is_plain b = cond (ltb b 0x20) false (cond (ltb 0x7e b) false (cond (eqb b 0x22) false (cond (eqb b 0x5c) false true)))

-- Any other byte of a text is `\x` and its two digits. So no text has an end of line, and none ends the quotation marks that it stands in
unfoldable pub escape : ℕ → List ℕ
unfolding ascii pair is_plain
escape b = cond (is_plain b) (b ∷ []) (ascii "\\x" ++ pair b)

unfoldable pub escaped : List ℕ → List ℕ
unfolding each escape
escaped text = each escape text
