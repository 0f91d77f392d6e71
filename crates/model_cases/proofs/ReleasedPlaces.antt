-- A released seat and its devices count no longer: 4 seats stand, 8 devices on one of them.
-- Made by tests/equations.py from a call script and its trail: the oracle's, and by hand from the first release of a session on. Assumes nothing.
use mathlib.Core.Path.{◌≡◌, refl}
use mathlib.Core.Bool.{true, false}
use mathlib.Core.List.{List, [], ◌∷◌}
use mathlib.Core.Option.{Option, none, some}
use lib.IntN.{pos, negsuc}
use lib.Ieee.{nan}
use Rattle.eiproto.specs.declared.eiproto_enum.ButtonState.{ButtonState}
use Rattle.eiproto.specs.declared.eiproto_enum.DeviceType.{DeviceType}
use Rattle.eiproto.specs.declared.eiproto_enum.DisconnectReason.{DisconnectReason}
use Rattle.eiproto.specs.declared.eiproto_enum.KeyState.{KeyState}
use Rattle.eiproto.specs.declared.event.DeviceCapability.{DeviceCapability}
use Rattle.model.specs.Call.{Kind, Input, Load, HandshakeRequest, handshake, interface_release, Plain, timed, plain, Turn}
use Rattle.model.specs.Session.{Untimed, Queued}
use Rattle.model.specs.Plan.{Result, accepted, refused, refused_version, value, truth}
use Rattle.model_cases.specs.Line.{Line, line, f32, an, turn, computed}

abbrev calls1 : List Turn
calls1 =
    turn (plain (Plain.add_seat none 4)) 0 4096 ∷
    turn (plain (Plain.add_seat none 0)) 0 4096 ∷
    turn (plain (Plain.add_seat none 0)) 0 4096 ∷
    turn (plain (Plain.add_seat none 4)) 0 4096 ∷
    turn (plain (Plain.add_device 0xff00000000000001 none DeviceType.Virtual 4)) 0 4096 ∷
    turn (plain (Plain.add_device 0xff00000000000001 none DeviceType.Virtual 4)) 0 4096 ∷
    turn (plain (Plain.add_device 0xff00000000000001 none DeviceType.Virtual 4)) 0 4096 ∷
    turn (plain (Plain.add_device 0xff00000000000001 none DeviceType.Virtual 4)) 0 4096 ∷
    turn (plain (Plain.add_device 0xff00000000000001 none DeviceType.Virtual 4)) 0 4096 ∷
    turn (plain (Plain.add_device 0xff00000000000001 none DeviceType.Virtual 4)) 0 4096 ∷
    turn (plain (Plain.add_device 0xff00000000000001 none DeviceType.Virtual 4)) 0 4096 ∷
    turn (plain (Plain.add_device 0xff00000000000001 none DeviceType.Virtual 4)) 0 4096 ∷
    turn (plain (Plain.add_seat none 0)) 0 4096 ∷
    turn (plain (Plain.add_device 0xff00000000000004 none DeviceType.Virtual 4)) 0 4096 ∷
    turn (plain (Plain.seat_release 0xff00000000000001)) 0 4096 ∷
    turn (plain (Plain.add_seat none 0)) 0 4096 ∷
    turn (plain (Plain.add_seat none 0)) 0 4096 ∷
    turn (plain (Plain.add_device 0xff00000000000004 none DeviceType.Virtual 4)) 0 4096 ∷
    turn (plain (Plain.add_device 0xff00000000000004 none DeviceType.Virtual 4)) 0 4096 ∷
    turn (plain (Plain.add_device 0xff00000000000004 none DeviceType.Virtual 4)) 0 4096 ∷
    turn (plain (Plain.add_device 0xff00000000000004 none DeviceType.Virtual 4)) 0 4096 ∷
    turn (plain (Plain.add_device 0xff00000000000004 none DeviceType.Virtual 4)) 0 4096 ∷
    turn (plain (Plain.add_device 0xff00000000000004 none DeviceType.Virtual 4)) 0 4096 ∷
    turn (plain (Plain.add_device 0xff00000000000004 none DeviceType.Virtual 4)) 0 4096 ∷
    turn (plain (Plain.add_device 0xff00000000000004 none DeviceType.Virtual 4)) 0 4096 ∷
    turn (plain (Plain.add_device 0xff00000000000004 none DeviceType.Virtual 4)) 0 4096 ∷
    turn (timed 0xff00000000000017 1 (Input.Key 30 KeyState.Press)) 0 4096 ∷
    turn (timed 0xff00000000000006 1 (Input.Key 31 KeyState.Press)) 0 4096 ∷
    turn (plain (Plain.device_frame 0xff00000000000016 24 1)) 0 4096 ∷
    turn (plain (Plain.next_request)) 0 254 ∷
    turn (plain (Plain.next_request)) 0 254 ∷
    turn (plain (Plain.next_request)) 0 254 ∷ []

abbrev trail1 : List Line
trail1 =
    line (Result.seat 0xff00000000000001) 0x10816ff00000000000000ff00000000000001000000021813ff0000000000000100000000000000040a200aff00000000000001 [] ∷
    line (Result.seat 0xff00000000000002) 0x10816ff00000000000000ff0000000000000200000002200aff00000000000002 [] ∷
    line (Result.seat 0xff00000000000003) 0x10816ff00000000000000ff0000000000000300000002200aff00000000000003 [] ∷
    line (Result.seat 0xff00000000000004) 0x10816ff00000000000000ff00000000000004000000021813ff0000000000000400000000000000040a200aff00000000000004 [] ∷
    line (Result.device 0xff00000000000005) 0x13016ff00000000000001ff0000000000000500000003380eff00000000000005000000014017ff00000000000005ff000000000000060a00000001200aff00000000000005 [] ∷
    line (Result.device 0xff00000000000007) 0x13016ff00000000000001ff0000000000000700000003380eff00000000000007000000014017ff00000000000007ff000000000000080a00000001200aff00000000000007 [] ∷
    line (Result.device 0xff00000000000009) 0x13016ff00000000000001ff0000000000000900000003380eff00000000000009000000014017ff00000000000009ff0000000000000a0a00000001200aff00000000000009 [] ∷
    line (Result.device 0xff0000000000000b) 0x13016ff00000000000001ff0000000000000b00000003380eff0000000000000b000000014017ff0000000000000bff0000000000000c0a00000001200aff0000000000000b [] ∷
    line (Result.device 0xff0000000000000d) 0x13016ff00000000000001ff0000000000000d00000003380eff0000000000000d000000014017ff0000000000000dff0000000000000e0a00000001200aff0000000000000d [] ∷
    line (Result.device 0xff0000000000000f) 0x13016ff00000000000001ff0000000000000f00000003380eff0000000000000f000000014017ff0000000000000fff000000000000100a00000001200aff0000000000000f [] ∷
    line (Result.device 0xff00000000000011) 0x13016ff00000000000001ff0000000000001100000003380eff00000000000011000000014017ff00000000000011ff000000000000120a00000001200aff00000000000011 [] ∷
    line (Result.device 0xff00000000000013) 0x13016ff00000000000001ff0000000000001300000003380eff00000000000013000000014017ff00000000000013ff000000000000140a00000001200aff00000000000013 [] ∷
    line (refused 14) 0x1 [] ∷
    line (refused 15) 0x1 [] ∷
    line (accepted) 0x1280eff0000000000000600000008280eff0000000000000500000009280eff000000000000080000000a280eff000000000000070000000b280eff0000000000000a0000000c280eff000000000000090000000d280eff0000000000000c0000000e280eff0000000000000b0000000f280eff0000000000000e00000010280eff0000000000000d00000011280eff0000000000001000000012280eff0000000000000f00000013280eff0000000000001200000014280eff0000000000001100000015280eff0000000000001400000016280eff0000000000001300000017280eff0000000000000100000018 [] ∷
    line (Result.seat 0xff00000000000015) 0x10816ff00000000000000ff0000000000001500000002200aff00000000000015 [] ∷
    line (refused 14) 0x1 [] ∷
    line (Result.device 0xff00000000000016) 0x13016ff00000000000004ff0000000000001600000003380eff00000000000016000000014017ff00000000000016ff000000000000170a00000001200aff00000000000016 [] ∷
    line (Result.device 0xff00000000000018) 0x13016ff00000000000004ff0000000000001800000003380eff00000000000018000000014017ff00000000000018ff000000000000190a00000001200aff00000000000018 [] ∷
    line (Result.device 0xff0000000000001a) 0x13016ff00000000000004ff0000000000001a00000003380eff0000000000001a000000014017ff0000000000001aff0000000000001b0a00000001200aff0000000000001a [] ∷
    line (Result.device 0xff0000000000001c) 0x13016ff00000000000004ff0000000000001c00000003380eff0000000000001c000000014017ff0000000000001cff0000000000001d0a00000001200aff0000000000001c [] ∷
    line (Result.device 0xff0000000000001e) 0x13016ff00000000000004ff0000000000001e00000003380eff0000000000001e000000014017ff0000000000001eff0000000000001f0a00000001200aff0000000000001e [] ∷
    line (Result.device 0xff00000000000020) 0x13016ff00000000000004ff0000000000002000000003380eff00000000000020000000014017ff00000000000020ff000000000000210a00000001200aff00000000000020 [] ∷
    line (Result.device 0xff00000000000022) 0x13016ff00000000000004ff0000000000002200000003380eff00000000000022000000014017ff00000000000022ff000000000000230a00000001200aff00000000000022 [] ∷
    line (Result.device 0xff00000000000024) 0x13016ff00000000000004ff0000000000002400000003380eff00000000000024000000014017ff00000000000024ff000000000000250a00000001200aff00000000000024 [] ∷
    line (refused 15) 0x1 [] ∷
    line (accepted) 0x1 [] ∷
    line (accepted) 0x1 [] ∷
    line (accepted) 0x1 [] ∷
    line (Result.given) 0x1 (Queued.timed 0xff00000000000016 1 (an Kind.KeyboardKey 0 0 (Load.KeyPress 30 KeyState.Press)) ∷ []) ∷
    line (Result.given) 0x1 (Queued.untimed (Untimed.Frame 0xff00000000000016 24 1) ∷ []) ∷
    line (Result.none) 0x1 [] ∷ []

pub agrees1 : computed 0xff00000000000000 7 0xff00000000000001 ((some 1) ∷ (some 1) ∷ (some 1) ∷ (some 2) ∷ (some 3) ∷ (some 1) ∷ (some 1) ∷ (some 1) ∷ (some 1) ∷ (some 1) ∷ (some 2) ∷ (some 1) ∷ []) calls1 ≡ trail1
unfolding computed
agrees1 = refl
