-- Texts in hexadecimal. Assumes nothing.
use Rattle.std.specs.Prelude.{ℕ, ◌+◌, ◌*◌, ◌%◌, min, ◌≡◌, Bool, true, false, ◌&&◌, List, [], ◌∷◌, ltb, length, take, drop}
use Rattle.std.proofs.Math.Seq.{paste}
use Rattle.script.specs.declared.text.Text.{Text}
use Rattle.eiproto.specs.Interface.{ascii}
use Rattle.script.specs.Words.{starts_with}
use Rattle.script.specs.Number.{digit}

-- two hexadecimal digits for each byte
unfoldable pub pairs : List ℕ → Bool
unfolding digit
pairs [] = true
pairs (c ∷ []) = false
pairs (c ∷ d ∷ l) = ltb (digit c) 16 && (ltb (digit d) 16 && pairs l)

-- the bytes of such pairs
unfoldable pub bytes_of : List ℕ → List ℕ
unfolding digit
bytes_of [] = []
bytes_of (c ∷ []) = []
bytes_of (c ∷ d ∷ l) = (digit c % 16 * 16 + digit d % 16) ∷ bytes_of l

-- "A text is `t:` and its bytes in hexadecimal, two digits each (`t:61c3a9`; `t:` is the empty text)."
unfoldable pub is_text : List ℕ → Bool
unfolding ascii starts_with pairs
is_text w = starts_with (ascii "t:") w && pairs (drop 2 w)

-- the bytes of a text of a line, by the place of its digits
unfoldable pub text_bytes : List ℕ → Text → List ℕ
unfolding bytes_of
text_bytes line t = bytes_of (take (2 * t.bytes) (drop t.start line))

-- as many of the text's bytes as have room stand at the start, and the others are as they were
pub record Copied (text before after : List ℕ) (r : ℕ) : Type 0 where
  pub count : r ≡ min (length text) (length before)
  pub bytes : after ≡ paste before 0 text r
