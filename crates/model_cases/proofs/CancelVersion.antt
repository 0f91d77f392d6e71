-- The request's version decides, not the object's: object of version 1, request 2 (emulated).
-- Made by tests/equations.py from a call script and the oracle's trail of it. Assumes nothing.
use mathlib.Core.Path.{◌≡◌, refl}
use mathlib.Core.Bool.{true, false}
use mathlib.Core.List.{List, [], ◌∷◌}
use mathlib.Core.Option.{Option, none, some}
use lib.IntN.{pos, negsuc}
use lib.Ieee.{nan}
use Rattle.eiproto.specs.declared.eiproto_enum.ButtonState.{ButtonState}
use Rattle.eiproto.specs.declared.eiproto_enum.DeviceType.{DeviceType}
use Rattle.eiproto.specs.declared.eiproto_enum.DisconnectReason.{DisconnectReason}
use Rattle.eiproto.specs.declared.eiproto_enum.KeyState.{KeyState}
use Rattle.eiproto.specs.declared.event.DeviceCapability.{DeviceCapability}
use Rattle.model.specs.Call.{Kind, Input, Load, HandshakeRequest, handshake, interface_release, Plain, timed, plain, Turn}
use Rattle.model.specs.Session.{Untimed, Queued}
use Rattle.model.specs.Plan.{Result, accepted, refused, refused_version, value, truth}
use Rattle.model_cases.specs.Line.{Line, line, f32, an, turn, computed}

abbrev calls1 : List Turn
calls1 =
    turn (plain (Plain.add_seat none 8)) 0 4096 ∷
    turn (plain (Plain.add_device 0xff00000000000001 none DeviceType.Virtual 8)) 0 4096 ∷
    turn (timed 0xff00000000000003 1 (Input.Down 5 (f32 0x3f800000) (f32 0x3f800000))) 0 4096 ∷
    turn (timed 0xff00000000000003 1 (Input.Cancel 5)) 0 4096 ∷
    turn (timed 0xff00000000000003 2 (Input.Cancel 6)) 0 4096 ∷
    turn (timed 0xff00000000000003 2 (Input.Cancel 5)) 0 4096 ∷
    turn (timed 0xff00000000000003 1 (Input.Up 5)) 0 4096 ∷
    turn (plain (Plain.device_frame 0xff00000000000002 7 9)) 0 4096 ∷
    turn (plain (Plain.next_request)) 0 254 ∷
    turn (plain (Plain.next_request)) 0 254 ∷
    turn (plain (Plain.next_request)) 0 254 ∷ []

abbrev trail1 : List Line
trail1 =
    line (Result.seat 0xff00000000000001) 0x10816ff00000000000000ff00000000000001000000011813ff0000000000000100000000000000080b200aff00000000000001 [] ∷
    line (Result.device 0xff00000000000002) 0x13016ff00000000000001ff0000000000000200000001380eff00000000000002000000014017ff00000000000002ff000000000000030b00000001200aff00000000000002 [] ∷
    line (accepted) 0x1 [] ∷
    line (refused_version 11 1) 0x1 [] ∷
    line (accepted) 0x1 [] ∷
    line (accepted) 0x1 [] ∷
    line (accepted) 0x1 [] ∷
    line (accepted) 0x1 [] ∷
    line (Result.given) 0x1 (Queued.timed 0xff00000000000002 9 (an Kind.TouchDown 5 0 (Load.Point (f32 0x3f800000) (f32 0x3f800000))) ∷ []) ∷
    line (Result.given) 0x1 (Queued.timed 0xff00000000000002 9 (an Kind.TouchCancel 5 0 (Load.None)) ∷ []) ∷
    line (Result.given) 0x1 (Queued.untimed (Untimed.Frame 0xff00000000000002 7 9) ∷ []) ∷ []

pub agrees1 : computed 0xff00000000000000 7 0xff00000000000001 ((some 1) ∷ (some 1) ∷ (some 1) ∷ none ∷ none ∷ none ∷ none ∷ none ∷ none ∷ none ∷ (some 1) ∷ none ∷ []) calls1 ≡ trail1
unfolding computed
agrees1 = refl
