-- 14: 4 seats stand. 15: 8 devices stand. What is removed or released counts no longer.
-- Made by tests/equations.py from a call script and its trail: the oracle's, and by hand from the first release of a session on. Assumes nothing.
use mathlib.Core.Path.{◌≡◌, refl}
use mathlib.Core.Bool.{true, false}
use mathlib.Core.List.{List, [], ◌∷◌}
use mathlib.Core.Option.{Option, none, some}
use lib.IntN.{pos, negsuc}
use lib.Ieee.{nan}
use Rattle.eiproto.specs.declared.eiproto_enum.ButtonState.{ButtonState}
use Rattle.eiproto.specs.declared.eiproto_enum.DeviceType.{DeviceType}
use Rattle.eiproto.specs.declared.eiproto_enum.DisconnectReason.{DisconnectReason}
use Rattle.eiproto.specs.declared.eiproto_enum.KeyState.{KeyState}
use Rattle.eiproto.specs.declared.event.DeviceCapability.{DeviceCapability}
use Rattle.model.specs.Call.{Kind, Input, Load, HandshakeRequest, handshake, interface_release, Plain, timed, plain, Turn}
use Rattle.model.specs.Session.{Untimed, Queued}
use Rattle.model.specs.Plan.{Result, accepted, refused, refused_version, value, truth}
use Rattle.model_cases.specs.Line.{Line, line, f32, an, turn, computed}

abbrev calls1 : List Turn
calls1 =
    turn (plain (Plain.add_seat none 0)) 0 4096 ∷
    turn (plain (Plain.add_seat none 0)) 0 4096 ∷
    turn (plain (Plain.add_seat none 0)) 0 4096 ∷
    turn (plain (Plain.add_seat none 0)) 0 4096 ∷
    turn (plain (Plain.add_seat none 0)) 0 4096 ∷
    turn (plain (Plain.add_seat none 128)) 0 4096 ∷
    turn (plain (Plain.add_seat none 0)) 0 0 ∷
    turn (plain (Plain.seat_release 0xff00000000000001)) 0 4096 ∷
    turn (plain (Plain.add_seat none 0)) 0 4096 ∷
    turn (plain (Plain.add_seat none 0)) 0 4096 ∷
    turn (plain (Plain.remove_seat 0xff00000000000004)) 0 4096 ∷
    turn (plain (Plain.add_seat none 0)) 0 4096 ∷
    turn (plain (Plain.add_device 0xff00000000000001 none DeviceType.Virtual 127)) 0 4096 ∷
    turn (plain (Plain.add_device 0xff00000000000002 none DeviceType.Virtual 127)) 0 4096 ∷
    turn (plain (Plain.add_device 0xff00000000000002 none DeviceType.Virtual 127)) 0 4096 ∷
    turn (plain (Plain.add_device 0xff00000000000002 none DeviceType.Virtual 127)) 0 4096 ∷
    turn (plain (Plain.add_device 0xff00000000000002 none DeviceType.Virtual 127)) 0 4096 ∷
    turn (plain (Plain.add_device 0xff00000000000002 none DeviceType.Virtual 127)) 0 4096 ∷
    turn (plain (Plain.add_device 0xff00000000000002 none DeviceType.Virtual 127)) 0 4096 ∷
    turn (plain (Plain.add_device 0xff00000000000002 none DeviceType.Virtual 127)) 0 4096 ∷
    turn (plain (Plain.add_device 0xff00000000000002 none DeviceType.Virtual 127)) 0 4096 ∷
    turn (plain (Plain.add_device 0xff00000000000003 none DeviceType.Virtual 127)) 0 4096 ∷
    turn (plain (Plain.add_device 0xff00000000000004 none DeviceType.Virtual 127)) 0 4096 ∷
    turn (plain (Plain.device_release 0xff00000000000007)) 0 4096 ∷
    turn (plain (Plain.add_device 0xff00000000000003 none DeviceType.Virtual 127)) 0 4096 ∷
    turn (plain (Plain.remove_device 0xff00000000000007)) 0 4096 ∷
    turn (plain (Plain.add_device 0xff00000000000003 none DeviceType.Virtual 127)) 0 4096 ∷
    turn (plain (Plain.add_device 0xff00000000000003 none DeviceType.Virtual 127)) 0 4096 ∷
    turn (plain (Plain.seat_release 0xff00000000000002)) 0 4096 ∷
    turn (plain (Plain.add_device 0xff00000000000003 none DeviceType.Virtual 127)) 0 4096 ∷
    turn (plain (Plain.add_device 0xff00000000000003 none DeviceType.Virtual 127)) 0 4096 ∷
    turn (plain (Plain.add_device 0xff00000000000003 none DeviceType.Virtual 127)) 0 4096 ∷
    turn (plain (Plain.add_device 0xff00000000000003 none DeviceType.Virtual 127)) 0 4096 ∷
    turn (plain (Plain.add_device 0xff00000000000003 none DeviceType.Virtual 127)) 0 4096 ∷
    turn (plain (Plain.add_device 0xff00000000000003 none DeviceType.Virtual 127)) 0 4096 ∷
    turn (plain (Plain.add_device 0xff00000000000003 none DeviceType.Virtual 127)) 0 4096 ∷
    turn (plain (Plain.add_device 0xff00000000000003 none DeviceType.Virtual 127)) 0 4096 ∷
    turn (plain (Plain.next_request)) 0 254 ∷
    turn (plain (Plain.next_request)) 0 254 ∷ []

abbrev trail1 : List Line
trail1 =
    line (Result.seat 0xff00000000000001) 0x10816ff00000000000000ff0000000000000100000002200aff00000000000001 [] ∷
    line (Result.seat 0xff00000000000002) 0x10816ff00000000000000ff0000000000000200000002200aff00000000000002 [] ∷
    line (Result.seat 0xff00000000000003) 0x10816ff00000000000000ff0000000000000300000002200aff00000000000003 [] ∷
    line (Result.seat 0xff00000000000004) 0x10816ff00000000000000ff0000000000000400000002200aff00000000000004 [] ∷
    line (refused 14) 0x1 [] ∷
    line (refused 13) 0x1 [] ∷
    line (refused 14) 0x1 [] ∷
    line (accepted) 0x1280eff0000000000000100000008 [] ∷
    line (Result.seat 0xff00000000000005) 0x10816ff00000000000000ff0000000000000500000002200aff00000000000005 [] ∷
    line (refused 14) 0x1 [] ∷
    line (accepted) 0x1280eff0000000000000400000009 [] ∷
    line (Result.seat 0xff00000000000006) 0x10816ff00000000000000ff0000000000000600000002200aff00000000000006 [] ∷
    line (refused 12) 0x1 [] ∷
    line (Result.device 0xff00000000000007) 0x13016ff00000000000002ff0000000000000700000003380eff0000000000000700000001200aff00000000000007 [] ∷
    line (Result.device 0xff00000000000008) 0x13016ff00000000000002ff0000000000000800000003380eff0000000000000800000001200aff00000000000008 [] ∷
    line (Result.device 0xff00000000000009) 0x13016ff00000000000002ff0000000000000900000003380eff0000000000000900000001200aff00000000000009 [] ∷
    line (Result.device 0xff0000000000000a) 0x13016ff00000000000002ff0000000000000a00000003380eff0000000000000a00000001200aff0000000000000a [] ∷
    line (Result.device 0xff0000000000000b) 0x13016ff00000000000002ff0000000000000b00000003380eff0000000000000b00000001200aff0000000000000b [] ∷
    line (Result.device 0xff0000000000000c) 0x13016ff00000000000002ff0000000000000c00000003380eff0000000000000c00000001200aff0000000000000c [] ∷
    line (Result.device 0xff0000000000000d) 0x13016ff00000000000002ff0000000000000d00000003380eff0000000000000d00000001200aff0000000000000d [] ∷
    line (Result.device 0xff0000000000000e) 0x13016ff00000000000002ff0000000000000e00000003380eff0000000000000e00000001200aff0000000000000e [] ∷
    line (refused 15) 0x1 [] ∷
    line (refused 12) 0x1 [] ∷
    line (accepted) 0x1 [] ∷
    line (refused 15) 0x1 [] ∷
    line (accepted) 0x1280eff000000000000070000000a [] ∷
    line (Result.device 0xff0000000000000f) 0x13016ff00000000000003ff0000000000000f00000003380eff0000000000000f00000001200aff0000000000000f [] ∷
    line (refused 15) 0x1 [] ∷
    line (accepted) 0x1280eff000000000000080000000b280eff000000000000090000000c280eff0000000000000a0000000d280eff0000000000000b0000000e280eff0000000000000c0000000f280eff0000000000000d00000010280eff0000000000000e00000011280eff0000000000000200000012 [] ∷
    line (Result.device 0xff00000000000010) 0x13016ff00000000000003ff0000000000001000000003380eff0000000000001000000001200aff00000000000010 [] ∷
    line (Result.device 0xff00000000000011) 0x13016ff00000000000003ff0000000000001100000003380eff0000000000001100000001200aff00000000000011 [] ∷
    line (Result.device 0xff00000000000012) 0x13016ff00000000000003ff0000000000001200000003380eff0000000000001200000001200aff00000000000012 [] ∷
    line (Result.device 0xff00000000000013) 0x13016ff00000000000003ff0000000000001300000003380eff0000000000001300000001200aff00000000000013 [] ∷
    line (Result.device 0xff00000000000014) 0x13016ff00000000000003ff0000000000001400000003380eff0000000000001400000001200aff00000000000014 [] ∷
    line (Result.device 0xff00000000000015) 0x13016ff00000000000003ff0000000000001500000003380eff0000000000001500000001200aff00000000000015 [] ∷
    line (Result.device 0xff00000000000016) 0x13016ff00000000000003ff0000000000001600000003380eff0000000000001600000001200aff00000000000016 [] ∷
    line (refused 15) 0x1 [] ∷
    line (Result.given) 0x1 (Queued.untimed (Untimed.DeviceClosed 0xff00000000000007) ∷ []) ∷
    line (Result.none) 0x1 [] ∷ []

pub agrees1 : computed 0xff00000000000000 7 0xff00000000000001 ((some 1) ∷ (some 1) ∷ (some 1) ∷ (some 2) ∷ (some 3) ∷ (some 1) ∷ (some 1) ∷ (some 1) ∷ (some 1) ∷ (some 1) ∷ (some 2) ∷ (some 1) ∷ []) calls1 ≡ trail1
unfolding computed
agrees1 = refl
