-- Bytes in hexadecimal. Assumes nothing.
use Rattle.std.specs.Prelude.{ℕ, ◌+◌, ◌*◌, cond, ◌&&◌, List, [], ◌∷◌, ◌++◌, leb, eqb}
use Rattle.script.specs.Number.{digit}
use Rattle.std.proofs.Math.Option.{Option, none, some}

-- bytes behind bytes that were read before
abbrev pub behind : List ℕ → Option (List ℕ) → Option (List ℕ)
behind xs none = none
behind xs (some ys) = some (xs ++ ys)

-- the byte of two digits, and then others
unfoldable pub byte : (high low : ℕ) → Option (List ℕ) → Option (List ℕ)
byte high low others = cond (leb high 15 && leb low 15) (behind ((high * 16 + low) ∷ []) others) none

-- the bytes that a line stands for: two digits each, and spaces around them
unfoldable pub bytes_of : List ℕ → Option (List ℕ)
unfolding digit byte
bytes_of [] = some []
bytes_of (c ∷ []) = cond (eqb c 0x20) (some []) none
bytes_of (c ∷ d ∷ l) = cond (eqb c 0x20) (bytes_of (d ∷ l)) (byte (digit c) (digit d) (bytes_of l))
