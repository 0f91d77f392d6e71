-- The lines of a trail that a client's bytes have. Assumes nothing.
use Rattle.std.specs.Prelude.{ℕ, ◌+◌, Bool, cond, List, take, Ok, Err}
use Rattle.std.specs.Prelude as rust
use Rattle.model.specs.Plan.{Result}
use Rattle.answers.specs.Answer.{error_of, count_of}
use Rattle.answers.specs.declared.Answer.{Answer}
use Rattle.answers.specs.declared.Error.{Error}
use Rattle.answers.specs.declared.Outcome.{Outcome}
use Rattle.handshake.specs.declared.handshake.HandshakeAnswer.{HandshakeAnswer}
use Rattle.handshake.specs.View.{HandshakeOutcome}
use Rattle.wire.specs.declared.ParseError.{ParseError}
use Rattle.messages.specs.declared.Unhanded.{Unhanded}
use Rattle.messages.specs.Received.{Received}
use Rattle.script_pattern.specs.Pattern.{first_message, first_malformed, shown}
use Rattle.script_pattern.specs.declared.table.Shown.{Shown}
use Rattle.script_show.specs.Answer.{result_shown, handshake_outcome, line_of}

-- a case of 23 by its place among the seven; explained, with its name
abbrev pub malformed_at : (place : ℕ) → (explained : Bool) → ℕ
malformed_at n x = first_malformed + cond x 7 0 + n

-- "the case of `ParseError` and its numbers; an interface is its number, 0 the handshake's"
abbrev pub malformed : (explained : Bool) → ParseError → Shown
malformed x ParseError.EndOfMessage = shown (malformed_at 0 x) 23 0 0 0 0
malformed x ParseError.Utf8 = shown (malformed_at 1 x) 23 0 0 0 0
malformed x (ParseError.InvalidOpcode interface opcode) = shown (malformed_at 2 x) 23 interface opcode 0 0
malformed x (ParseError.InvalidVariant n) = shown (malformed_at 3 x) 23 n 0 0 0
malformed x (ParseError.HeaderLength n) = shown (malformed_at 4 x) 23 n 0 0 0
malformed x (ParseError.MessageLength read header) = shown (malformed_at 5 x) 23 read header 0 0
malformed x ParseError.InvalidNull = shown (malformed_at 6 x) 23 0 0 0 0

-- "`accepted taken 24`: of one that stands for a call that was accepted"; "the refusals of the call have no more than elsewhere"
abbrev pub taken_ending : (explained : Bool) → (taken : ℕ) → Outcome → Shown
taken_ending x n Outcome.Accepted = shown first_message n 0 0 0 0
taken_ending x n (Outcome.Seat id) = result_shown x (Result.seat id)
taken_ending x n (Outcome.Device id) = result_shown x (Result.device id)
taken_ending x n (Outcome.Value m) = result_shown x (Result.value m)
taken_ending x n (Outcome.Truth b) = result_shown x (Result.truth b)
taken_ending x n Outcome.None = result_shown x Result.none

abbrev pub taken_outcome : (explained : Bool) → (taken : ℕ) → rust.Result Answer Error → Shown
taken_outcome x n (Ok a) = taken_ending x n a.outcome
taken_outcome x n (Err e) = result_shown x (error_of e)

abbrev pub handshake_taken : (explained : Bool) → (taken : ℕ) → HandshakeOutcome → Shown
handshake_taken x n (Ok s) = shown first_message n 0 0 0 0
handshake_taken x n (Err e) = handshake_outcome x (Err e)

-- "`wait`: of one not yet whole"; 24 is the number of an id that is not alive
abbrev pub message_shown : (explained : Bool) → Received → Shown
message_shown x (Err Unhanded.Wait) = shown (first_message + 1) 0 0 0 0 0
message_shown x (Err Unhanded.NoObject) = result_shown x (Result.refused 24)
message_shown x (Err (Unhanded.Malformed e)) = malformed x e
message_shown x (Ok handed) = taken_outcome x handed.taken handed.answer

-- "Behind the bar its records"
abbrev pub message_count : Received → ℕ
message_count (Err why) = 0
message_count (Ok handed) = count_of handed.answer

-- WHAT A CLIENT'S BYTES ARE ANSWERED; the records begin `out`
unfoldable pub message_line : Received → (out : List ℕ) → (explained : Bool) → List ℕ
unfolding line_of
message_line r out x = line_of (message_shown x r) (take (message_count r) out) x

-- WHAT THE HANDSHAKE ANSWERS TO A MESSAGE; "a Finish that ends in 9 prints its records"
unfoldable pub handshake_message_line : HandshakeAnswer → (taken : ℕ) → (out : List ℕ) → (explained : Bool) → List ℕ
unfolding line_of
handshake_message_line a n out x = line_of (handshake_taken x n a.outcome) (take a.count out) x
