-- THE FIRST MESSAGE OF A LENT SLICE, IN A SESSION: its object, and the request that it stands for. How it is read on an object of a known interface is
-- `first_of` of parse/specs/First. Assumes nothing.
use Rattle.std.specs.Prelude.{ℕ, cond, List, eqb, ltb, length, take, drop}
use Rattle.std.proofs.Math.Option.{Option, none, some}
use Rattle.std.specs.Prelude.{Ok, Err, Some}
use Rattle.std.specs.Prelude as rust
use Rattle.parse.specs.First.{ReadFirst, first_of}
use Rattle.parse.specs.Parse.{le64}
use Rattle.parse.specs.declared.Arguments.{Arguments}
use Rattle.requests.specs.Row.{low}
use Rattle.requests.specs.declared.eis.Request.{Request}
use Rattle.lent_read.specs.Numbers.{arguments_of, request_of}
use Rattle.handlers.specs.Call.{call_of}
use Rattle.model.specs.Call.{Input, Plain, Call}
use Rattle.model.specs.Session.{View}
use Rattle.model.specs.Live.{Object, live}
use Rattle.model_reads.specs.Message.{Reading}

-- the request of the arguments: its number is its place in `meanings` of lent_read/specs/Numbers
unfoldable pub request_in : Arguments → Request
unfolding request_of
request_in a = request_of (arguments_of a.request a.first a.second a.third a.x a.y)

-- the number of Sync, by which a client makes an object
abbrev sync_number : ℕ
sync_number = 5

-- its text, which is a part of the message
abbrev pub text_in : Arguments → (message : List ℕ) → List ℕ
text_in a m = take a.length (drop a.start m)

-- "handed on as the .. single request it stands for": its version is the object's
unfoldable pub call_in : Arguments → (object version : ℕ) → (message : List ℕ) → Call Input
unfolding request_in
call_in a object version m =
    cond (eqb a.request sync_number)
    (Call.plain (Plain.sync_message a.first (low a.second)))
    (call_of (request_in a) object version (text_in a m))

-- what was read, on an object of this version: a request's message is so many of the bytes
unfoldable pub read_as : (object version : ℕ) → (bytes : List ℕ) → ReadFirst → Reading (Call Input)
unfolding call_in
read_as object version bytes (Ok rust.None) = Reading.wait
read_as object version bytes (Err e) = Reading.malformed e
read_as object version bytes (Ok (Some f)) = Reading.request (call_in f.arguments object version (take f.length bytes)) f.length

unfoldable pub reading_on : (object interface version : ℕ) → (bytes : List ℕ) → Reading (Call Input)
unfolding first_of read_as
reading_on object interface version bytes = read_as object version bytes (first_of interface bytes)

-- "24 NO_OBJECT, the addressed id not alive"
unfoldable pub reading_of : (object : ℕ) → Option Object → (bytes : List ℕ) → Reading (Call Input)
unfolding reading_on
reading_of object none bytes = Reading.no_object
reading_of object (some o) bytes = reading_on object o.interface o.version bytes

unfoldable pub reading : View → (bytes : List ℕ) → Reading (Call Input)
unfolding le64 live reading_of
reading v bytes = cond (ltb (length bytes) 16) Reading.wait (reading_of (le64 bytes 0) (live v (le64 bytes 0)) bytes)
