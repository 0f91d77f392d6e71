-- Numbers, as words have them. Assumes nothing.
use Rattle.std.specs.Prelude.{ℕ, ◌+◌, ◌-◌, ◌*◌, ◌^◌, Bool, cond, ◌&&◌, List, [], ◌∷◌, leb, ltb, drop}
use Rattle.std.proofs.Math.Option.{Option, none, some}
use Rattle.eiproto.specs.Interface.{ascii}
use Rattle.script.specs.Words.{starts_with}

-- the value of a digit, in small or in capital letters; 16 where the character is none
unfoldable pub digit : ℕ → ℕ
digit c =
    cond (leb 0x30 c && leb c 0x39) (c - 0x30)
    (cond (leb 0x61 c && leb c 0x66) (c - 0x61 + 10)
    (cond (leb 0x41 c && leb c 0x46) (c - 0x41 + 10)
    16))

-- the number that digits of a base stand for, behind digits whose number is v
unfoldable pub digits_from : (base v : ℕ) → List ℕ → Option ℕ
unfolding digit
digits_from base v [] = some v
digits_from base v (c ∷ l) = cond (ltb (digit c) base) (digits_from base (v * base + digit c) l) none

-- one digit at least
unfoldable pub digits : ℕ → List ℕ → Option ℕ
unfolding digits_from
digits base [] = none
digits base (c ∷ l) = digits_from base 0 (c ∷ l)

-- "A number is decimal (`500`), or hexadecimal after `0x` (`0xff00000000000001`)."
unfoldable pub number : List ℕ → Option ℕ
unfolding starts_with digits ascii
number w = cond (starts_with (ascii "0x") w) (digits 16 (drop 2 w)) (digits 10 w)

-- the number if it passes a test, such as that it is not "too large for its field"
abbrev pub that : (ℕ → Bool) → Option ℕ → Option ℕ
that f none = none
that f (some n) = cond (f n) (some n) none

abbrev pub within : (least most n : ℕ) → Bool
within least most n = leb least n && leb n most

abbrev pub fits64 : ℕ → Bool
fits64 n = ltb n (2 ^ 64)
