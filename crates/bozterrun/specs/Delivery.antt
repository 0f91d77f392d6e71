-- What is told of the next request. Assumes nothing.
use Rattle.std.specs.Prelude.{ℕ, ◌≡◌, List, [], ◌∷◌, Float, Option, Some, None, Result, Ok, Err}
use Rattle.requests.specs.declared.cell.Cell.{Cell}
use Rattle.session.specs.Slices.{Numbers, Reals, SharedNumbers, SharedReals}
use Rattle.answers.specs.Answer.{number_of}
use Rattle.answers.specs.declared.Error.{Error}
use Rattle.converter.specs.Next.{next_of, Delivers}
use Rattle.answer_numbers.specs.Numbers.{none_number}

abbrev pub next_status : Result (Option Cell) Error → ℕ
next_status (Ok (Some c)) = 0
next_status (Ok None) = none_number
next_status (Err e) = number_of e

-- the numbers of a request that is given; where none is, they are left as they were
abbrev pub numbers_of : Cell → List ℕ
numbers_of c = c.kind ∷ c.object ∷ c.time ∷ c.extra ∷ c.flag ∷ []

abbrev pub numbers_after : Result (Option Cell) Error → (before : List ℕ) → List ℕ
numbers_after (Ok (Some c)) before = numbers_of c
numbers_after (Ok None) before = before
numbers_after (Err e) before = before

abbrev pub coordinates_of : Cell → List Float
coordinates_of c = c.x ∷ c.y ∷ []

abbrev pub coordinates_after : Result (Option Cell) Error → (before : List Float) → List Float
coordinates_after (Ok (Some c)) before = coordinates_of c
coordinates_after (Ok None) before = before
coordinates_after (Err e) before = before

-- THE NUMBERS ARE THOSE OF A REQUEST that `next_request` promises
pub record Tells (control : Numbers) (words : SharedNumbers) (reals : SharedReals) (texts : SharedNumbers) (buffer numbers : Numbers) (coordinates : Reals) (status : ℕ) : Type 0 where
  pub next : Result (Option Cell) Error
  pub delivered : Delivers control words reals texts buffer (next_of next)
  pub status_is : status ≡ next_status next
  pub numbers_are : numbers.exit.now ≡ numbers_after next numbers.entry.now
  pub coordinates_are : coordinates.exit.now ≡ coordinates_after next coordinates.entry.now
