-- What the bytes that a client's message is read from come to. Assumes nothing.
use Rattle.std.specs.Prelude.{ℕ, cond}
use Rattle.wire.specs.declared.ParseError.{ParseError}
use Rattle.model.specs.Plan.{Result}
use Rattle.model.specs.Step.{refuses}

-- "one not yet whole answers WAIT"; "24 NO_OBJECT, the addressed id not alive"; "23 MALFORMED, with the first `ParseError` case"; or the request that the message
-- stands for, with the message's length. `A` is what a request is: a `Call Input` as it comes
pub data Reading (A : Type 0) : Type 0 where
  wait : Reading A
  no_object : Reading A
  malformed : ParseError → Reading A
  request : A → (length : ℕ) → Reading A

unfoldable pub map_reading : {A B : Type 0} → (A → B) → Reading A → Reading B
map_reading f Reading.wait = Reading.wait
map_reading f Reading.no_object = Reading.no_object
map_reading f (Reading.malformed e) = Reading.malformed e
map_reading f (Reading.request a n) = Reading.request (f a) n

-- "the answer gives its length as taken", "A refused message takes nothing."
unfoldable pub taken_of : Result → (length : ℕ) → ℕ
unfolding refuses
taken_of o n = cond (refuses o) 0 n
