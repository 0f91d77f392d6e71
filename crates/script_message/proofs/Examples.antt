-- Lines of a client's bytes, worked out. Assumes nothing.
use mathlib.Core.Path.{◌≡◌, refl}
use mathlib.Core.Bool.{true, false}
use mathlib.Core.List.{[]}
use Rattle.eiproto.specs.Interface.{ascii}
use Rattle.answers.specs.declared.Error.{Error}
use Rattle.std.specs.Prelude.{Ok, Err}
use Rattle.answers.specs.declared.Outcome.{Outcome}
use Rattle.wire.specs.declared.ParseError.{ParseError}
use Rattle.messages.specs.declared.Unhanded.{Unhanded}
use Rattle.script_pattern.specs.Digits.{decimal}
use Rattle.script_message.specs.Shown.{message_line}

taken : message_line (Ok (record { answer = Ok (record { outcome = Outcome.Accepted; count = 0 }); taken = 24 })) [] false ≡ ascii "accepted taken 24\n"
unfolding message_line ascii decimal
taken = refl

wait : message_line (Err Unhanded.Wait) [] true ≡ ascii "wait\n"
unfolding message_line ascii decimal
wait = refl

no_object_lem : message_line (Err Unhanded.NoObject) [] true ≡ ascii "refused 24 (no object)\n"
unfolding message_line ascii decimal
no_object_lem = refl

opcode : message_line (Err (Unhanded.Malformed (ParseError.InvalidOpcode 10 2))) [] false ≡ ascii "refused 23 InvalidOpcode 10 2\n"
unfolding message_line ascii decimal
opcode = refl

left_over : message_line (Err (Unhanded.Malformed (ParseError.MessageLength 32 28))) [] true ≡ ascii "refused 23 MessageLength 32 28 (malformed)\n"
unfolding message_line ascii decimal
left_over = refl

invalid_id : message_line (Ok (record { answer = Err Error.InvalidId; taken = 0 })) [] true ≡ ascii "refused 25 (invalid id)\n"
unfolding message_line ascii decimal
invalid_id = refl
