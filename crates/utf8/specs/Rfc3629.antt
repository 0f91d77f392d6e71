-- UTF-8 as RFC 3629, section 4, gives it: the rules of its ABNF, what it is to match them, and the test that decides it.
-- proofs/Grammar.antt proves that the test says yes exactly where the grammar is matched. Assumes nothing.
use Rattle.std.specs.Prelude.{ℕ, ◌≤◌, Bool, true, false, ◌&&◌, cond, not, leb}
use mathlib.Core.List.{List, [], ◌∷◌, ◌++◌, Memᴰ}
use Rattle.std.proofs.Math.Option.{Option, none, some}

-- one octet of a rule: from the first to the last
abbrev pub Range : Type 0
Range = ℕ × ℕ

-- the alternatives of a rule, each a sequence of octets
abbrev pub Rule : Type 0
Rule = List (List Range)

-- UTF8-tail = %x80-BF
unfoldable pub utf8_tail : Range
utf8_tail = (0x80, 0xBF)

-- UTF8-1 = %x00-7F
unfoldable pub utf8_1 : Rule
utf8_1 = ((0x00, 0x7F) ∷ []) ∷ []

-- UTF8-2 = %xC2-DF UTF8-tail
unfoldable pub utf8_2 : Rule
unfolding utf8_tail
utf8_2 = ((0xC2, 0xDF) ∷ utf8_tail ∷ []) ∷ []

-- UTF8-3 = %xE0 %xA0-BF UTF8-tail / %xE1-EC 2( UTF8-tail ) /
--          %xED %x80-9F UTF8-tail / %xEE-EF 2( UTF8-tail )
unfoldable pub utf8_3 : Rule
unfolding utf8_tail
utf8_3 =
    ((0xE0, 0xE0) ∷ (0xA0, 0xBF) ∷ utf8_tail ∷ [])
    ∷ ((0xE1, 0xEC) ∷ utf8_tail ∷ utf8_tail ∷ [])
    ∷ ((0xED, 0xED) ∷ (0x80, 0x9F) ∷ utf8_tail ∷ [])
    ∷ ((0xEE, 0xEF) ∷ utf8_tail ∷ utf8_tail ∷ [])
    ∷ []

-- UTF8-4 = %xF0 %x90-BF 2( UTF8-tail ) / %xF1-F3 3( UTF8-tail ) /
--          %xF4 %x80-8F 2( UTF8-tail )
unfoldable pub utf8_4 : Rule
unfolding utf8_tail
utf8_4 =
    ((0xF0, 0xF0) ∷ (0x90, 0xBF) ∷ utf8_tail ∷ utf8_tail ∷ [])
    ∷ ((0xF1, 0xF3) ∷ utf8_tail ∷ utf8_tail ∷ utf8_tail ∷ [])
    ∷ ((0xF4, 0xF4) ∷ (0x80, 0x8F) ∷ utf8_tail ∷ utf8_tail ∷ [])
    ∷ []

-- UTF8-char = UTF8-1 / UTF8-2 / UTF8-3 / UTF8-4
unfoldable pub utf8_char : Rule
unfolding utf8_1 utf8_2 utf8_3 utf8_4
utf8_char = utf8_1 ++ utf8_2 ++ utf8_3 ++ utf8_4

-- the octets match a sequence: one for each of its ranges, and within it
pub data Sequence : List Range → List ℕ → Type 0 where
  end : Sequence [] []
  octet : {r : Range} {rs : List Range} {x : ℕ} {s : List ℕ} → r.0 ≤ x → x ≤ r.1 → Sequence rs s → Sequence (r ∷ rs) (x ∷ s)

-- UTF8-octets = *( UTF8-char )
pub data Octets : List ℕ → Type 0 where
  empty : Octets []
  char : {rs : List Range} {s t : List ℕ} → Memᴰ rs utf8_char → Sequence rs s → Octets t → Octets (s ++ t)

-- the test of one octet
unfoldable pub within : Range → ℕ → Bool
within r x = leb r.0 x && leb x r.1

-- what follows the octet x in the alternative that begins with it. No two alternatives of UTF8-char begin with the same octet.
unfoldable pub after : Rule → ℕ → Option (List Range)
unfolding within
after [] x = none
after ([] ∷ rule) x = after rule x
after ((r ∷ rs) ∷ rule) x = cond (within r x) (some rs) (after rule x)

-- the test of what follows, where a character begins with x at all
abbrev pub on : Option (List Range) → (List Range → Bool) → Bool
on none f = false
on (some rs) f = f rs

-- the text is the rest rs of a character that has begun, and then whole characters
unfoldable pub goes_on : List Range → List ℕ → Bool
unfolding after within utf8_char
goes_on [] [] = true
goes_on (r ∷ rs) [] = false
goes_on [] (x ∷ l) = on (after utf8_char x) (λ rs. goes_on rs l)
goes_on (r ∷ rs) (x ∷ l) = within r x && goes_on rs l

-- the text is UTF-8
unfoldable pub is_utf8 : List ℕ → Bool
unfolding goes_on
is_utf8 l = goes_on [] l

-- a text that begins at a character's boundary: it is empty, or its first octet is no UTF8-tail
unfoldable pub boundary : List ℕ → Bool
unfolding within utf8_tail
boundary [] = true
boundary (x ∷ l) = not (within utf8_tail x)
