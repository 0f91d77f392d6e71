-- 19, at one byte less and at what is needed; nothing changes when refused, and an unknown seat's release needs no byte.
-- Made by tests/equations.py from a call script and its trail: the oracle's, and by hand from the first release of a session on. Assumes nothing.
use mathlib.Core.Path.{◌≡◌, refl}
use mathlib.Core.Bool.{true, false}
use mathlib.Core.List.{List, [], ◌∷◌}
use mathlib.Core.Option.{Option, none, some}
use lib.IntN.{pos, negsuc}
use lib.Ieee.{nan}
use Rattle.eiproto.specs.declared.eiproto_enum.ButtonState.{ButtonState}
use Rattle.eiproto.specs.declared.eiproto_enum.DeviceType.{DeviceType}
use Rattle.eiproto.specs.declared.eiproto_enum.DisconnectReason.{DisconnectReason}
use Rattle.eiproto.specs.declared.eiproto_enum.KeyState.{KeyState}
use Rattle.eiproto.specs.declared.event.DeviceCapability.{DeviceCapability}
use Rattle.model.specs.Call.{Kind, Input, Load, HandshakeRequest, handshake, interface_release, Plain, timed, plain, Turn}
use Rattle.model.specs.Session.{Untimed, Queued}
use Rattle.model.specs.Plan.{Result, accepted, refused, refused_version, value, truth}
use Rattle.model_cases.specs.Line.{Line, line, f32, an, turn, computed}

abbrev calls1 : List Turn
calls1 =
    turn (plain (Plain.add_seat (some (0x61 ∷ 0xc3 ∷ [])) 4)) 0 62 ∷
    turn (plain (Plain.add_seat (some (0x61 ∷ 0x61 ∷ [])) 1)) 0 62 ∷
    turn (plain (Plain.add_seat (some (0x61 ∷ 0x61 ∷ [])) 1)) 0 63 ∷
    turn (plain (Plain.add_device 0xff00000000000001 none DeviceType.Virtual 127)) 0 68 ∷
    turn (plain (Plain.add_device 0xff00000000000001 none DeviceType.Virtual 127)) 0 69 ∷
    turn (plain (Plain.resumed 0xff00000000000002)) 0 13 ∷
    turn (plain (Plain.paused 0xff00000000000002)) 0 13 ∷
    turn (plain (Plain.stop_emulating 0xff00000000000002)) 0 13 ∷
    turn (plain (interface_release DeviceCapability.Pointer 0xff00000000000003)) 0 13 ∷
    turn (plain (Plain.seat_release 0x0000000000000005)) 0 13 ∷
    turn (plain (Plain.last_serial)) 0 13 ∷
    turn (plain (Plain.start_emulating 0xff00000000000002 1)) 0 17 ∷
    turn (plain (Plain.sync 5 1)) 0 17 ∷
    turn (plain (Plain.frame 0xff00000000000002 1)) 0 21 ∷
    turn (plain (Plain.remove_device 0xff00000000000002)) 0 27 ∷
    turn (plain (Plain.remove_seat 0xff00000000000001)) 0 41 ∷
    turn (plain (Plain.seat_release 0xff00000000000001)) 0 41 ∷
    turn (plain (Plain.disconnected DisconnectReason.Error (some (0x61 ∷ 0x61 ∷ [])))) 0 62 ∷
    turn (plain (Plain.last_serial)) 0 62 ∷
    turn (timed 0xff00000000000003 1 (Input.MotionRelative (f32 0x3f800000) (f32 0x3f800000))) 0 0 ∷
    turn (plain (Plain.device_ready 0xff00000000000002)) 0 0 ∷
    turn (timed 0xff00000000000003 1 (Input.MotionRelative nan (f32 0x80000000))) 0 0 ∷
    turn (plain (Plain.pingpong_done)) 0 0 ∷
    turn (plain (Plain.seat_release 0xff00000000000002)) 0 0 ∷
    turn (plain (Plain.disconnected DisconnectReason.Error (some (0x61 ∷ 0x61 ∷ [])))) 0 63 ∷
    turn (plain (Plain.next_request)) 0 254 ∷
    turn (plain (Plain.next_request)) 0 254 ∷
    turn (plain (Plain.next_request)) 0 254 ∷
    turn (plain (Plain.next_request)) 0 254 ∷ []

abbrev trail1 : List Line
trail1 =
    line (refused 10) 0x1 [] ∷
    line (refused 19) 0x1 [] ∷
    line (Result.seat 0xff00000000000001) 0x10816ff00000000000000ff0000000000000100000002100cff0000000000000161611813ff00000000000001000000000000000106200aff00000000000001 [] ∷
    line (refused 19) 0x1 [] ∷
    line (Result.device 0xff00000000000002) 0x13016ff00000000000001ff0000000000000200000003380eff00000000000002000000014017ff00000000000002ff000000000000030600000001200aff00000000000002 [] ∷
    line (refused 19) 0x1 [] ∷
    line (refused 19) 0x1 [] ∷
    line (refused 19) 0x1 [] ∷
    line (refused 19) 0x1 [] ∷
    line (accepted) 0x1 [] ∷
    line (value 7) 0x1 [] ∷
    line (refused 19) 0x1 [] ∷
    line (refused 19) 0x1 [] ∷
    line (refused 19) 0x1 [] ∷
    line (refused 19) 0x1 [] ∷
    line (refused 19) 0x1 [] ∷
    line (refused 19) 0x1 [] ∷
    line (refused 19) 0x1 [] ∷
    line (value 7) 0x1 [] ∷
    line (accepted) 0x1 [] ∷
    line (accepted) 0x1 [] ∷
    line (accepted) 0x1 [] ∷
    line (accepted) 0x1 [] ∷
    line (accepted) 0x1 [] ∷
    line (accepted) 0x1280eff0000000000000300000008280eff0000000000000200000009280eff000000000000010000000a7015ff000000000000000000000a00000001806161 [] ∷
    line (Result.given) 0x1 (Queued.timed 0xff00000000000002 0 (an Kind.PointerMotion 0 0 (Load.Point (f32 0x3f800000) (f32 0x3f800000))) ∷ []) ∷
    line (Result.given) 0x1 (Queued.untimed (Untimed.Frame 0xff00000000000002 7 0) ∷ []) ∷
    line (Result.given) 0x1 (Queued.untimed (Untimed.Ready 0xff00000000000002) ∷ []) ∷
    line (Result.none) 0x1 [] ∷ []

pub agrees1 : computed 0xff00000000000000 7 0xff00000000000001 ((some 1) ∷ (some 1) ∷ (some 1) ∷ (some 2) ∷ (some 3) ∷ (some 1) ∷ (some 1) ∷ (some 1) ∷ (some 1) ∷ (some 1) ∷ (some 2) ∷ (some 1) ∷ []) calls1 ≡ trail1
unfolding computed
agrees1 = refl
