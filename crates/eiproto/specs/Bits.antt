-- Masks of 64 bits, by their set bits. Assumes nothing.
use Rattle.std.specs.Prelude.{ℕ, zero, suc, ◌+◌, ◌-◌, ◌*◌, ◌/◌, ◌%◌, ◌^◌, Bool, true, cond, ◌&&◌, List, [], ◌∷◌, ◌++◌, eqb, length, get_or}

-- bit b of the mask m is set
abbrev pub bit : (b m : ℕ) → Bool
bit b m = eqb (m / 2 ^ b % 2) 1

-- the places of the set bits among the k lowest of m, ascending, where the lowest bit's place is p
unfoldable pub bits_from : (k p m : ℕ) → List ℕ
bits_from zero p m = []
bits_from (suc k) p m = cond (eqb (m % 2) 1) (p ∷ []) [] ++ bits_from k (p + 1) (m / 2)

-- the set bits of a mask, ascending; "the number of a device's interfaces is the count of ones in its mask"
unfoldable pub bits_of : ℕ → List ℕ
unfolding bits_from
bits_of m = bits_from 64 0 m

-- the mask of the k places from p on that pass a test, where p is the place of its lowest bit
unfoldable pub mask_from : (k p : ℕ) → (ℕ → Bool) → ℕ
mask_from zero p test = 0
mask_from (suc k) p test = cond (test p) 1 0 + 2 * mask_from k (p + 1) test

-- the lowest set bit, 64 where none is set: "trailing zeros give the next capability in ascending order"
unfoldable pub lowest_bit : ℕ → ℕ
unfolding bits_of
lowest_bit m = get_or (bits_of m) 0 64

-- the mask without its lowest set bit
unfoldable pub without_lowest : ℕ → ℕ
unfolding lowest_bit
without_lowest m = m - 2 ^ lowest_bit m

-- How many bits of the mask are set below bit b: the place of bit b among them. The ids of a device's interfaces follow its own in this order.
unfoldable pub bits_below : (m b : ℕ) → ℕ
unfolding bits_of
bits_below m b = length (bits_of (m % 2 ^ b))

-- all of a list pass a test
unfoldable pub every : {A : Type 0} → (A → Bool) → List A → Bool
every f [] = true
every f (x ∷ xs) = f x && every f xs

-- every bit of `part` is a bit of `whole`: not "a bit not in the seat's set"
unfoldable pub contains : (whole part : ℕ) → Bool
unfolding every bits_of
contains whole part = every (λ b. bit b whole) (bits_of part)

-- bitwise and of the k lowest bits of two masks
unfoldable pub common_in : (k a b : ℕ) → ℕ
common_in zero a b = 0
common_in (suc k) a b = (a % 2) * (b % 2) + 2 * common_in k (a / 2) (b / 2)

-- the bits that two masks share
unfoldable pub common : (a b : ℕ) → ℕ
unfolding common_in
common a b = common_in 64 a b
