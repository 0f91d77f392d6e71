-- Lines of a trail, worked out. Assumes nothing.
use mathlib.Core.Path.{◌≡◌, refl}
use mathlib.Core.Bool.{true, false}
use mathlib.Core.List.{[], ◌∷◌, ◌++◌}
use lib.IntN.{negsuc, pos}
use lib.Ieee.{nan, is_nan}
use Rattle.std.specs.Prelude.{Option, Some, None, Result, Ok, Err}
use Rattle.eiproto.specs.Interface.{ascii}
use Rattle.eiproto.specs.declared.eiproto_enum.KeyState.{KeyState}
use Rattle.answers.specs.declared.Error.{Error}
use Rattle.answers.specs.declared.Outcome.{Outcome}
use Rattle.requests.specs.declared.request.EisRequest.{EisRequest}
use Rattle.requests.specs.declared.request.EisRequest.TheVariants.{KeyboardKey, ScrollDiscrete, PointerMotion, TextUtf8}
use Rattle.wire.specs.Record.{event_record}
use Rattle.wire.specs.declared.event.Event.TheVariants.{Destroyed, Disconnected, DeviceType}
use Rattle.script_pattern.specs.Digits.{hexadecimal, ident, decimal, escaped}
use Rattle.script_pattern.specs.Words.{real_number, real, amount, device_type, reason, explanation}
use Rattle.script_show.specs.Records.{number_at, kind_of, record_bytes}
use Rattle.script_show.specs.Answer.{answer_line, read_line, next_line, error_line, call_line}

abbrev given : EisRequest → Result (Option EisRequest) Error
given r = Ok (Some r)

key : next_line (given (KeyboardKey 0xff00000000000002 500 30 KeyState.Press)) [] false ≡ ascii "KeyboardKey device=0xff00000000000002 time=500 key=30 state=1\n"
unfolding next_line ascii ident decimal
key = refl

amounts : next_line (given (ScrollDiscrete 0xff00000000000002 18446744073709551615 (negsuc 119) (pos 0))) [] false ≡ ascii "ScrollDiscrete device=0xff00000000000002 time=18446744073709551615 discrete_dx=-120 discrete_dy=0\n"
unfolding next_line ascii ident decimal amount
amounts = refl

reals : next_line (given (PointerMotion 1 0 nan nan)) [] false ≡ ascii "PointerMotion device=0x0000000000000001 time=0 dx=nan dy=nan\n"
unfolding next_line ascii ident decimal real real_number is_nan
reals = refl

-- a text with an end of line, a quotation mark and a backslash
text : next_line (given (TextUtf8 1 7 4)) (0x41 ∷ 0x0a ∷ 0x22 ∷ 0x5c ∷ 0x42 ∷ []) true ≡ ascii "TextUtf8 device=0x0000000000000001 time=7 text=t:410a225c \"A\\x0a\\x22\\x5c\"\n"
unfolding next_line ascii ident decimal hexadecimal escaped
text = refl

refused : answer_line (Err (Error.InvalidInterfaceVersion 11 1)) [] false ≡ ascii "refused 2 interface=11 version=1\n"
unfolding answer_line ascii decimal
refused = refl

named : answer_line (Err Error.BadState) [] true ≡ ascii "refused 21 (bad state)\n"
unfolding answer_line ascii decimal
named = refl

part : answer_line (Err Error.BadPart) [] true ≡ ascii "refused 22 (bad part)\n"
unfolding answer_line ascii decimal
part = refl

-- reads: none refused, refused, refused with details and in words
handed : read_line 3 0 None [] false ≡ ascii "accepted 3\n"
unfolding read_line ascii decimal
handed = refl

handed-refused : read_line 0 0 (Some (Error.InvalidInterfaceVersion 11 1)) [] false ≡ ascii "accepted 0 refused 2 interface=11 version=1\n"
unfolding read_line ascii decimal
handed-refused = refl

handed-named : read_line 1 14 (Some Error.BadPart) (event_record 0xff00000000000001 (Destroyed 8) []) true
    ≡ ascii "accepted 1 refused 22 (bad part) | 280eff0000000000000100000008\n" ++ ascii "    0xff00000000000001: destroyed, serial 8\n"
unfolding read_line event_record ascii number_at kind_of ident decimal
handed-named = refl

-- records of wire
destroyed : answer_line (Ok (record { outcome = Outcome.Accepted; count = 14 })) (event_record 0xff00000000000001 (Destroyed 8) []) true
    ≡ ascii "accepted | 280eff0000000000000100000008\n" ++ ascii "    0xff00000000000001: destroyed, serial 8\n"
unfolding answer_line event_record ascii number_at kind_of ident decimal
destroyed = refl

explained : record_bytes true (event_record 2 (Disconnected 9 3 true) (0x62 ∷ 0x0a ∷ [])) ≡ ascii "    0x0000000000000002: disconnected, serial 9 reason protocol explanation \"b\\x0a\"\n"
unfolding record_bytes event_record ascii number_at kind_of ident decimal reason explanation
explained = refl

device_type_lem : record_bytes true (event_record 2 (DeviceType 1) []) ≡ ascii "    0x0000000000000002: device type virtual\n"
unfolding record_bytes event_record ascii number_at kind_of ident device_type
device_type_lem = refl

no_call : error_line 17 ≡ ascii "error line 17\n"
unfolding error_line ascii decimal
no_call = refl

call : call_line (ascii "now 5") ≡ ascii "> now 5\n"
unfolding call_line ascii escaped
call = refl
