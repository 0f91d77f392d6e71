-- The words of a line. Assumes nothing.
use Rattle.std.specs.Prelude.{ℕ, Bool, true, false, cond, List, [], ◌∷◌, eqb, length, take}
use Rattle.eiproto.specs.Interface.{same_bytes}

-- a word begins with these bytes
unfoldable pub starts_with : List ℕ → List ℕ → Bool
unfolding same_bytes
starts_with p w = same_bytes p (take (length p) w)

-- what stands before the first byte b
unfoldable pub before : ℕ → List ℕ → List ℕ
before b [] = []
before b (c ∷ l) = cond (eqb c b) [] (c ∷ before b l)

-- a byte put before the words of a line: a space ends an empty word there, and any other byte begins the first
unfoldable pub joined : Bool → ℕ → List (List ℕ) → List (List ℕ)
joined true c ws = [] ∷ ws
joined false c [] = (c ∷ []) ∷ []
joined false c (w ∷ ws) = (c ∷ w) ∷ ws

-- "words separated by one space": two spaces have an empty word between them, and a line that ends with a space has one behind it
unfoldable pub words : List ℕ → List (List ℕ)
unfolding joined
words [] = [] ∷ []
words (c ∷ l) = joined (eqb c 0x20) c (words l)
