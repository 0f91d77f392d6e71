-- The held ids as a list, and what is asked of it.
use Rattle.std.specs.Prelude.{ℕ, Bool, false, ◌||◌, cond, List, [], ◌∷◌, eqb, leb, take, length, Result, Ok, Err}
use Rattle.touches.specs.declared.DownTouchIds.{DownTouchIds}
use Rattle.touches.specs.declared.DownError.{DownError}
use Rattle.touches.specs.declared.DownError.TheVariants.{TooManyTouches, DuplicatedTouchDown}

-- the most ids that are held
abbrev pub touches_limit : ℕ
touches_limit = 16

-- "a record of sixteen ids and a count": the ids before the count, in the order in which they went down. There are sixteen places, so a count above sixteen holds them all
abbrev pub held : DownTouchIds → List ℕ
held d = take d.count d.ids

-- whether x is in the list
unfoldable pub member : ℕ → List ℕ → Bool
member x [] = false
member x (y ∷ ys) = eqb x y || member x ys

-- the list without the first x
unfoldable pub without : ℕ → List ℕ → List ℕ
without x [] = []
without x (y ∷ ys) = cond (eqb x y) ys (y ∷ without x ys)

-- the number of a refused Down, 0 for none
abbrev pub refusal : Result (Unit {0}) DownError → ℕ
refusal (Ok _) = 0
refusal (Err TooManyTouches) = 4
refusal (Err DuplicatedTouchDown) = 5

-- "4 TOO_MANY_TOUCHES: Down while 16 ids are held, even for a held id. 5 DUPLICATED_TOUCH_DOWN: Down for a held id, fewer than 16 held."
unfoldable pub down_refusal : ℕ → List ℕ → ℕ
unfolding member
down_refusal x ids = cond (leb touches_limit (length ids)) 4 (cond (member x ids) 5 0)
