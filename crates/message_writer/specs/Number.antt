-- Numbers in a record. Assumes nothing.
use Rattle.std.specs.Prelude.{ℕ, ◌+◌, ◌*◌, List, [], ◌∷◌, take, drop}
use Rattle.event_messages.specs.Shape.{width, values_of}
use Rattle.event_messages.specs.declared.Shape.{Shape}
use Rattle.event_messages.specs.declared.Values.{Values}

-- bytes behind a number, the most significant first
unfoldable pub joined : ℕ → List ℕ → ℕ
joined n [] = n
joined n (x ∷ l) = joined (n * 256 + x) l

-- the number of k bytes at a place
unfoldable pub big_at : List ℕ → (at k : ℕ) → ℕ
unfolding joined
big_at l at k = joined 0 (take k (drop at l))

-- the values of a record, by the shape of its kind
unfoldable pub values_in : List ℕ → Shape → Values
unfolding big_at
values_in l s =
    let a = width s.first in
    let b = width s.second in
    values_of (big_at l 10 a) (big_at l (10 + a) b) (big_at l (10 + (a + b)) (width s.third))
