-- Fields packed into bytes, and bytes put into a buffer. Assumes nothing.
use Rattle.std.specs.Prelude.{ℕ, zero, suc, ◌+◌, ◌*◌, ◌/◌, ◌%◌, ◌^◌, cond, List, [], ◌∷◌, ◌++◌, leb, take, drop, length}

-- so many bits, and the number in them
pub record Field : Type 0 where
  pub width : ℕ
  pub value : ℕ

-- `32 bits serial` is a field
infix 80 ◌bits◌
abbrev pub ◌bits◌ : ℕ → ℕ → Field
w bits x = record { width = w; value = x }

unfoldable pub widths : List Field → ℕ
widths [] = 0
widths (f ∷ fs) = f.width + widths fs

-- "Fields are packed most significant bit first": side by side, they are one number, of which the first field is the most significant part
unfoldable pub packed : List Field → ℕ
unfolding widths
packed [] = 0
packed (f ∷ fs) = f.value % 2 ^ f.width * 2 ^ widths fs + packed fs

-- the k low bytes of a number, the most significant first
unfoldable pub be : ℕ → ℕ → List ℕ
be zero n = []
be (suc k) n = be k (n / 256) ++ (n % 256 ∷ [])

-- the bytes of packed fields
unfoldable pub pack : List Field → List ℕ
unfolding widths packed be
pack fs = be (widths fs / 8) (packed fs)

-- a buffer with bytes at a place, in the place of as many of its own; every other byte as it was
unfoldable pub splice : List ℕ → ℕ → List ℕ → List ℕ
splice out at bytes = take at out ++ (bytes ++ drop (at + length bytes) out)

-- all of the bytes where they fit at the place, none where they do not
unfoldable pub fitted : List ℕ → ℕ → List ℕ → List ℕ
fitted out at bytes = cond (leb (at + length bytes) (length out)) bytes []
