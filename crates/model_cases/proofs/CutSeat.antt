-- A seat's set is what it was given and was negotiated: Bind and RequestDevice of any other are 3.
-- Made by tests/equations.py from a call script and its trail: the oracle's, and by hand from the first seat of a session on that is given what was not negotiated. Assumes nothing.
use mathlib.Core.Path.{◌≡◌, refl}
use mathlib.Core.Bool.{true, false}
use mathlib.Core.List.{List, [], ◌∷◌}
use mathlib.Core.Option.{Option, none, some}
use lib.IntN.{pos, negsuc}
use lib.Ieee.{nan}
use Rattle.eiproto.specs.declared.eiproto_enum.ButtonState.{ButtonState}
use Rattle.eiproto.specs.declared.eiproto_enum.DeviceType.{DeviceType}
use Rattle.eiproto.specs.declared.eiproto_enum.DisconnectReason.{DisconnectReason}
use Rattle.eiproto.specs.declared.eiproto_enum.KeyState.{KeyState}
use Rattle.eiproto.specs.declared.event.DeviceCapability.{DeviceCapability}
use Rattle.model.specs.Call.{Kind, Input, Load, HandshakeRequest, handshake, interface_release, Plain, timed, plain, Turn}
use Rattle.model.specs.Session.{Untimed, Queued}
use Rattle.model.specs.Plan.{Result, accepted, refused, refused_version, value, truth}
use Rattle.model_cases.specs.Line.{Line, line, f32, an, turn, computed}

abbrev calls1 : List Turn
calls1 =
    turn (plain (Plain.add_seat none 12)) 0 4096 ∷
    turn (plain (Plain.bind 0xff00000000000001 8)) 0 4096 ∷
    turn (plain (Plain.bind 0xff00000000000001 4)) 0 4096 ∷
    turn (plain (Plain.bind 0xff00000000000001 12)) 0 4096 ∷
    turn (plain (Plain.request_device 0xff00000000000001 12)) 0 4096 ∷
    turn (plain (Plain.request_device 0xff00000000000001 8)) 0 4096 ∷
    turn (plain (Plain.request_device 0xff00000000000001 4)) 0 4096 ∷
    turn (plain (Plain.bind 0xff00000000000001 0)) 0 4096 ∷
    turn (plain (Plain.request_device 0xff00000000000001 0)) 0 4096 ∷
    turn (plain (Plain.bind 0xff00000000000001 128)) 0 4096 ∷
    turn (plain (Plain.bind 0xff00000000000001 1)) 0 4096 ∷
    turn (plain (Plain.bind 0xff00000000000002 8)) 0 4096 ∷
    turn (plain (Plain.next_request)) 0 254 ∷
    turn (plain (Plain.next_request)) 0 254 ∷
    turn (plain (Plain.next_request)) 0 254 ∷
    turn (plain (Plain.next_request)) 0 254 ∷
    turn (plain (Plain.next_request)) 0 254 ∷
    turn (plain (Plain.add_seat none 255)) 0 4096 ∷
    turn (plain (Plain.add_seat none 136)) 0 4096 ∷
    turn (plain (Plain.add_seat none 128)) 0 4096 ∷
    turn (plain (Plain.add_seat none 9223372036854775812)) 0 4096 ∷
    turn (plain (Plain.add_seat none 127)) 0 50 ∷
    turn (plain (Plain.add_seat none 127)) 0 51 ∷
    turn (plain (Plain.bind 0xff00000000000002 127)) 0 4096 ∷
    turn (plain (Plain.bind 0xff00000000000002 4)) 0 4096 ∷
    turn (plain (Plain.add_seat none 0)) 0 4096 ∷
    turn (plain (Plain.bind 0xff00000000000003 4)) 0 4096 ∷
    turn (plain (Plain.bind 0xff00000000000003 0)) 0 4096 ∷
    turn (plain (Plain.add_seat none 8)) 0 4096 ∷
    turn (plain (Plain.add_seat none 8)) 0 4096 ∷
    turn (plain (Plain.add_seat none 255)) 0 4096 ∷
    turn (plain (Plain.last_serial)) 0 4096 ∷ []

abbrev trail1 : List Line
trail1 =
    line (Result.seat 0xff00000000000001) 0x10816ff00000000000000ff00000000000001000000011813ff0000000000000100000000000000040a200aff00000000000001 [] ∷
    line (refused 3) 0x1 [] ∷
    line (accepted) 0x1 [] ∷
    line (refused 3) 0x1 [] ∷
    line (refused 3) 0x1 [] ∷
    line (refused 3) 0x1 [] ∷
    line (accepted) 0x1 [] ∷
    line (accepted) 0x1 [] ∷
    line (accepted) 0x1 [] ∷
    line (refused 3) 0x1 [] ∷
    line (refused 3) 0x1 [] ∷
    line (accepted) 0x1 [] ∷
    line (Result.given) 0x1 (Queued.untimed (Untimed.Bind 0xff00000000000001 4) ∷ []) ∷
    line (Result.given) 0x1 (Queued.untimed (Untimed.RequestDevice 0xff00000000000001 4) ∷ []) ∷
    line (Result.given) 0x1 (Queued.untimed (Untimed.Bind 0xff00000000000001 0) ∷ []) ∷
    line (Result.given) 0x1 (Queued.untimed (Untimed.RequestDevice 0xff00000000000001 0) ∷ []) ∷
    line (Result.none) 0x1 [] ∷
    line (refused 13) 0x1 [] ∷
    line (refused 13) 0x1 [] ∷
    line (refused 13) 0x1 [] ∷
    line (refused 13) 0x1 [] ∷
    line (refused 19) 0x1 [] ∷
    line (Result.seat 0xff00000000000002) 0x10816ff00000000000000ff00000000000002000000011813ff0000000000000200000000000000040a200aff00000000000002 [] ∷
    line (refused 3) 0x1 [] ∷
    line (accepted) 0x1 [] ∷
    line (Result.seat 0xff00000000000003) 0x10816ff00000000000000ff0000000000000300000001200aff00000000000003 [] ∷
    line (refused 3) 0x1 [] ∷
    line (accepted) 0x1 [] ∷
    line (Result.seat 0xff00000000000004) 0x10816ff00000000000000ff0000000000000400000001200aff00000000000004 [] ∷
    line (refused 14) 0x1 [] ∷
    line (refused 13) 0x1 [] ∷
    line (value 7) 0x1 [] ∷ []

pub agrees1 : computed 0xff00000000000000 7 0xff00000000000001 ((some 1) ∷ (some 1) ∷ (some 1) ∷ none ∷ none ∷ none ∷ none ∷ none ∷ none ∷ (some 1) ∷ none ∷ none ∷ []) calls1 ≡ trail1
unfolding computed
agrees1 = refl
