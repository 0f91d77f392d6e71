-- What is told of a client's bytes, as numbers. Assumes nothing.
use Rattle.std.specs.Prelude.{ℕ, ◌≡◌, cond, Result, Ok, Err}
use Rattle.wire.specs.declared.ParseError.{ParseError}
use Rattle.answers.specs.Answer.{outcome_of, count_of}
use Rattle.answers.specs.declared.Answer.{Answer}
use Rattle.answers.specs.declared.Error.{Error}
use Rattle.messages.specs.Received.{Received}
use Rattle.messages.specs.declared.Unhanded as session
use Rattle.handshake.specs.View.{is_finished}
use Rattle.handshake_messages.specs.Reading.{Told}
use Rattle.handshake_messages.specs.declared.Unhanded.{Unhanded}
use Rattle.lent_handshake.specs.Lent as lent
use Rattle.lent_handshake.specs.declared.HandshakeReply.{HandshakeReply}
use Rattle.lent_handshake.specs.declared.MessageReply.{MessageReply}
use Rattle.bozterrun.specs.Reply.{Number}
use Rattle.answer_numbers.specs.Numbers.{status_of, version_in, malformed_number, no_object_number, invalid_id_number, wait_number}
use Rattle.bozterrun.specs.declared.message.MessageTold.{MessageTold}
use Rattle.bozterrun.specs.declared.message.ParseErrorCase.{ParseErrorCase}

-- the cases of `ParseError` as C has them
abbrev pub case_number : ParseErrorCase → ℕ
case_number ParseErrorCase.EndOfMessage = 1
case_number ParseErrorCase.Utf8 = 2
case_number ParseErrorCase.InvalidOpcode = 3
case_number ParseErrorCase.InvalidVariant = 4
case_number ParseErrorCase.HeaderLength = 5
case_number ParseErrorCase.MessageLength = 6
case_number ParseErrorCase.InvalidNull = 7

-- nothing is taken or written, and there is no more to tell
abbrev pub bare : (status : ℕ) → MessageTold
bare status = record { status = status; taken = 0; count = 0; error = 0; first = 0; second = 0 }

abbrev pub malformed : (error first second : ℕ) → MessageTold
malformed error first second = record { status = malformed_number; taken = 0; count = 0; error = error; first = first; second = second }

-- "23 MALFORMED, with the first `ParseError` case": the cases by their places in the enum, from 1 on, each with its numbers
abbrev pub told_error : ParseError → MessageTold
told_error ParseError.EndOfMessage = malformed 1 0 0
told_error ParseError.Utf8 = malformed 2 0 0
told_error (ParseError.InvalidOpcode interface opcode) = malformed 3 interface opcode
told_error (ParseError.InvalidVariant variant) = malformed 4 variant 0
told_error (ParseError.HeaderLength length) = malformed 5 length 0
told_error (ParseError.MessageLength read header) = malformed 6 read header
told_error ParseError.InvalidNull = malformed 7 0 0

-- what the message's request was answered, with the details of refusal 2
abbrev pub told_answer : Result Answer Error → (taken : ℕ) → MessageTold
told_answer a taken =
    record {
      status = status_of a;
      taken = taken;
      count = count_of a;
      error = 0;
      first = (version_in (outcome_of a)).interface;
      second = (version_in (outcome_of a)).version;
    }

abbrev pub told_received : Received → MessageTold
told_received (Err session.Unhanded.Wait) = bare wait_number
told_received (Err session.Unhanded.NoObject) = bare no_object_number
told_received (Err (session.Unhanded.Malformed e)) = told_error e
told_received (Ok handed) = told_answer handed.answer handed.taken

-- the same in a handshake
abbrev pub told_unhanded : Unhanded → MessageTold
told_unhanded Unhanded.Wait = bare wait_number
told_unhanded Unhanded.NoObject = bare no_object_number
told_unhanded (Unhanded.Malformed e) = told_error e
told_unhanded Unhanded.InvalidId = bare invalid_id_number

abbrev pub told_handshake : Told → HandshakeReply → (taken : ℕ) → MessageTold
told_handshake (Err why) r taken = told_unhanded why
told_handshake (Ok u) r taken =
    record { status = lent.status_of r.outcome; taken = taken; count = r.count; error = 0; first = 0; second = 0 }

abbrev pub told_reply : MessageReply → MessageTold
told_reply r = told_handshake r.told r.reply r.taken

-- whether the message was a Finish that begins the session
abbrev pub begun_of : MessageReply → ℕ
begun_of r = cond (is_finished r.reply.outcome) 1 0

-- THE NUMBERS ARE THOSE OF WHAT THE CALL PROMISES of the bytes; told_of is how they are told, Rest what else is
pub record Tells {A : Type 0} (Promised : A → Type 0) (told_of : A → MessageTold) (status : ℕ) (taken count error first second : Number) (Rest : A → Type 0) : Type 0 where
  pub received : A
  pub promised : Promised received
  pub status_is : status ≡ (told_of received).status
  pub taken_is : taken.exit.now ≡ (told_of received).taken
  pub count_is : count.exit.now ≡ (told_of received).count
  pub error_is : error.exit.now ≡ (told_of received).error
  pub first_is : first.exit.now ≡ (told_of received).first
  pub second_is : second.exit.now ≡ (told_of received).second
  pub rest : Rest received
