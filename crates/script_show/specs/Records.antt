-- Event records as a trail shows them: in hexadecimal, and in words. Assumes nothing.
use Rattle.std.specs.Prelude.{ℕ, zero, suc, ◌+◌, ◌-◌, ◌*◌, ◌/◌, ◌%◌, Bool, true, false, cond, ◌||◌, List, [], ◌∷◌, ◌++◌, eqb, ltb, get_or, length, take, drop}
use Rattle.eiproto.specs.Interface.{ascii}
use Rattle.script_pattern.specs.Digits.{hexadecimal}
use Rattle.script_pattern.specs.Pattern.{first_record, first_line, shown, bytes_of}
use Rattle.script_pattern.specs.declared.table.Shown.{Shown}

-- ---- one record behind another

-- how many bytes the record has that bytes begin with: the 11 bits behind its kind say so; all of them where these say 0 or more than there are
abbrev pub size_within : (said all : ℕ) → ℕ
size_within said all = cond (eqb said 0 || ltb all said) all said

unfoldable pub record_size : List ℕ → ℕ
record_size l = cond (ltb (length l) 2) (length l) (size_within (get_or l 0 0 % 8 * 256 + get_or l 1 0) (length l))

-- the bytes that f makes of each record, of which the first begins behind n bytes
unfoldable pub each_from : (List ℕ → List ℕ) → (n : ℕ) → List ℕ → List ℕ
unfolding record_size
each_from f n [] = []
each_from f zero (b ∷ bs) = f (take (record_size (b ∷ bs)) (b ∷ bs)) ++ each_from f (record_size (b ∷ bs) - 1) bs
each_from f (suc n) (b ∷ bs) = each_from f n bs

unfoldable pub each_record : (List ℕ → List ℕ) → List ℕ → List ℕ
unfolding each_from
each_record f bytes = each_from f 0 bytes

-- ---- a record in words

-- the numbers of one, four and eight bytes at a place, the most significant byte first; past the end of the record stand zeros
abbrev pub one : (at : ℕ) → List ℕ → ℕ
one at l = get_or l at 0

unfoldable pub four : (at : ℕ) → List ℕ → ℕ
four at l = one at l * 16777216 + (one (at + 1) l * 65536 + (one (at + 2) l * 256 + one (at + 3) l))

-- a number of so many bytes; none of 0
unfoldable pub number_at : (size at : ℕ) → List ℕ → ℕ
unfolding four
number_at n at l =
    cond (eqb n 1) (one at l)
    (cond (eqb n 4) (four at l)
    (cond (eqb n 8) (four at l * 4294967296 + four (at + 4) l)
    0))

-- how many bytes each of the three numbers of a kind has, from kind 0 on
abbrev pub sizes : List ℕ
sizes =
    0 ∷ 0 ∷ 0
    ∷ 8 ∷ 4 ∷ 0
    ∷ 0 ∷ 0 ∷ 0
    ∷ 8 ∷ 1 ∷ 0
    ∷ 0 ∷ 0 ∷ 0
    ∷ 4 ∷ 0 ∷ 0
    ∷ 8 ∷ 4 ∷ 0
    ∷ 4 ∷ 0 ∷ 0
    ∷ 8 ∷ 1 ∷ 4
    ∷ 4 ∷ 0 ∷ 0
    ∷ 4 ∷ 0 ∷ 0
    ∷ 4 ∷ 4 ∷ 0
    ∷ 4 ∷ 0 ∷ 0
    ∷ 4 ∷ 8 ∷ 0
    ∷ 4 ∷ 4 ∷ 1
    ∷ 8 ∷ 0 ∷ 0
    ∷ 4 ∷ 0 ∷ 0
    ∷ 1 ∷ 4 ∷ 0
    ∷ 8 ∷ 4 ∷ 4
    ∷ []

-- the kind, in the upper five bits of the first byte; 0 where there is no such kind
unfoldable pub kind_of : List ℕ → ℕ
kind_of l = cond (ltb (one 0 l / 8) 19) (one 0 l / 8) 0

-- where the numbers of a record begin, and where its text does
abbrev pub second : List ℕ → ℕ
second l = 10 + get_or sizes (3 * kind_of l) 0

abbrev pub third : List ℕ → ℕ
third l = second l + get_or sizes (3 * kind_of l + 1) 0

abbrev pub text_start : List ℕ → ℕ
text_start l = third l + get_or sizes (3 * kind_of l + 2) 0

-- a record's numbers
abbrev pub record_shown : List ℕ → Shown
record_shown l =
    shown (first_record + kind_of l)
    (number_at (get_or sizes (3 * kind_of l) 0) 10 l)
    (number_at (get_or sizes (3 * kind_of l + 1) 0) (second l) l)
    (number_at (get_or sizes (3 * kind_of l + 2) 0) (third l) l)
    0 0

-- the object that it is sent on
abbrev pub object_shown : List ℕ → Shown
object_shown l = shown (first_line + 2) (number_at 8 2 l) 0 0 0 0

-- on a line of its own in words, or behind a space in hexadecimal
unfoldable pub record_bytes : (words : Bool) → List ℕ → List ℕ
unfolding bytes_of hexadecimal
record_bytes true l = bytes_of (object_shown l) [] ++ (bytes_of (record_shown l) (drop (text_start l) l) ++ (0x0a ∷ []))
record_bytes false l = 0x20 ∷ hexadecimal l

-- ` |` and the records, if there are any
unfoldable pub trail : List ℕ → List ℕ
unfolding ascii each_record record_bytes
trail [] = []
trail (b ∷ bs) = ascii " |" ++ each_record (record_bytes false) (b ∷ bs)
