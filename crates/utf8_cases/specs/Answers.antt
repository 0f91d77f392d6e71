-- The answer to a line. Assumes nothing.
use Rattle.std.specs.Prelude.{ℕ, ◌≤◌, ◌≡◌, Bool, false, cond, List, [], ◌∷◌, leb, eqb, length, take, Some, None}
use Rattle.std.specs.Prelude as rust
use Rattle.std.proofs.Math.Option.{Option, none, some}
use Rattle.utf8.specs.Rfc3629.{is_utf8}
use Rattle.utf8_cases.specs.Hex.{bytes_of}
use Rattle.utf8_cases.specs.declared.Verdict.{Verdict}
use Rattle.utf8_cases.specs.declared.Verdict.TheVariants.{Comment, TooLong, NotHexadecimal, Valid, NotValid}

-- what a reading of a line says: so many bytes at the start of the text, or that the line is not in hexadecimal
abbrev pub told : rust.Option ℕ → List ℕ → Option (List ℕ)
told (Some n) text = some (take n text)
told None text = none

-- how many bytes that are
abbrev pub count_of : rust.Option ℕ → ℕ
count_of (Some n) = n
count_of None = 0

-- the bytes of the line stand at the start of the text
pub record Read (line text : List ℕ) (r : rust.Option ℕ) : Type 0 where
  pub fits : count_of r ≤ length text
  pub bytes : told r text ≡ bytes_of line

-- a comment begins with a number sign
unfoldable pub is_comment : List ℕ → Bool
is_comment [] = false
is_comment (c ∷ l) = eqb c 0x23

-- on the bytes of a line
unfoldable pub verdict : Option (List ℕ) → Verdict
verdict none = NotHexadecimal
verdict (some bs) = cond (is_utf8 bs) Valid NotValid

-- a comment has no answer, and a line of more than 1,024 characters is too long
unfoldable pub answer_to : List ℕ → Verdict
unfolding is_comment verdict
answer_to l = cond (is_comment l) Comment (cond (leb (length l) 1024) (verdict (bytes_of l)) TooLong)
