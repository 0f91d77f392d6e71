-- A device gets an interface for each capability that it was given, its seat has and was negotiated: ids and room are those of what it gets.
-- Made by tests/equations.py from a call script and its trail: the oracle's, and by hand from the first seat of a session on that is given what was not negotiated. Assumes nothing.
use mathlib.Core.Path.{◌≡◌, refl}
use mathlib.Core.Bool.{true, false}
use mathlib.Core.List.{List, [], ◌∷◌}
use mathlib.Core.Option.{Option, none, some}
use lib.IntN.{pos, negsuc}
use lib.Ieee.{nan}
use Rattle.eiproto.specs.declared.eiproto_enum.ButtonState.{ButtonState}
use Rattle.eiproto.specs.declared.eiproto_enum.DeviceType.{DeviceType}
use Rattle.eiproto.specs.declared.eiproto_enum.DisconnectReason.{DisconnectReason}
use Rattle.eiproto.specs.declared.eiproto_enum.KeyState.{KeyState}
use Rattle.eiproto.specs.declared.event.DeviceCapability.{DeviceCapability}
use Rattle.model.specs.Call.{Kind, Input, Load, HandshakeRequest, handshake, interface_release, Plain, timed, plain, Turn}
use Rattle.model.specs.Session.{Untimed, Queued}
use Rattle.model.specs.Plan.{Result, accepted, refused, refused_version, value, truth}
use Rattle.model_cases.specs.Line.{Line, line, f32, an, turn, computed}

abbrev calls1 : List Turn
calls1 =
    turn (plain (Plain.add_seat none 12)) 0 4096 ∷
    turn (plain (Plain.interface_version (0x65 ∷ 0x69 ∷ 0x5f ∷ 0x74 ∷ 0x6f ∷ 0x75 ∷ 0x63 ∷ 0x68 ∷ 0x73 ∷ 0x63 ∷ 0x72 ∷ 0x65 ∷ 0x65 ∷ 0x6e ∷ []))) 0 4096 ∷
    turn (plain (Plain.interface_version (0x65 ∷ 0x69 ∷ 0x5f ∷ 0x73 ∷ 0x65 ∷ 0x61 ∷ 0x74 ∷ []))) 0 4096 ∷
    turn (plain (Plain.has_interface (0x65 ∷ 0x69 ∷ 0x5f ∷ 0x73 ∷ 0x65 ∷ 0x61 ∷ 0x74 ∷ []))) 0 4096 ∷
    turn (plain (Plain.add_device 0xff00000000000001 none DeviceType.Virtual 127)) 0 68 ∷
    turn (plain (Plain.add_device 0xff00000000000001 none DeviceType.Virtual 127)) 0 69 ∷
    turn (plain (Plain.has_capability 0xff00000000000002 DeviceCapability.Touch)) 0 4096 ∷
    turn (plain (Plain.has_capability 0xff00000000000002 DeviceCapability.Keyboard)) 0 4096 ∷
    turn (plain (Plain.has_capability 0xff00000000000002 DeviceCapability.Pointer)) 0 4096 ∷
    turn (timed 0xff00000000000004 1 (Input.Down 1 (f32 0x3f800000) (f32 0x3f800000))) 0 4096 ∷
    turn (timed 0xff00000000000003 1 (Input.Key 30 KeyState.Press)) 0 4096 ∷
    turn (plain (Plain.device_frame 0xff00000000000002 7 500)) 0 4096 ∷
    turn (plain (Plain.next_request)) 0 254 ∷
    turn (plain (Plain.next_request)) 0 254 ∷
    turn (plain (Plain.next_request)) 0 254 ∷
    turn (plain (Plain.add_device 0xff00000000000001 (some (0x61 ∷ [])) DeviceType.Physical 8)) 0 4096 ∷
    turn (plain (Plain.has_capability 0xff00000000000004 DeviceCapability.Touch)) 0 4096 ∷
    turn (timed 0xff00000000000005 1 (Input.Down 1 (f32 0x3f800000) (f32 0x3f800000))) 0 4096 ∷
    turn (plain (Plain.device_frame 0xff00000000000004 7 501)) 0 4096 ∷
    turn (plain (Plain.next_request)) 0 254 ∷
    turn (plain (Plain.add_device 0xff00000000000001 none DeviceType.Virtual 76)) 0 4096 ∷
    turn (timed 0xff00000000000006 1 (Input.Key 31 KeyState.Released)) 900 4096 ∷
    turn (plain (Plain.device_ready 0xff00000000000005)) 900 4096 ∷
    turn (plain (Plain.next_request)) 900 254 ∷
    turn (plain (Plain.next_request)) 900 254 ∷
    turn (plain (Plain.next_request)) 900 254 ∷
    turn (plain (Plain.add_device 0xff00000000000001 none DeviceType.Virtual 255)) 900 4096 ∷
    turn (plain (Plain.remove_device 0xff00000000000002)) 900 27 ∷
    turn (plain (Plain.remove_device 0xff00000000000002)) 900 28 ∷
    turn (plain (Plain.remove_device 0xff00000000000004)) 900 13 ∷
    turn (plain (Plain.remove_device 0xff00000000000004)) 900 14 ∷
    turn (plain (Plain.remove_seat 0xff00000000000001)) 900 4096 ∷
    turn (plain (Plain.disconnected DisconnectReason.Disconnected none)) 900 4096 ∷ []

abbrev trail1 : List Line
trail1 =
    line (Result.seat 0xff00000000000001) 0x10816ff00000000000000ff00000000000001000000011813ff0000000000000100000000000000040a200aff00000000000001 [] ∷
    line (Result.none) 0x1 [] ∷
    line (Result.none) 0x1 [] ∷
    line (truth false) 0x1 [] ∷
    line (refused 19) 0x1 [] ∷
    line (Result.device 0xff00000000000002) 0x13016ff00000000000001ff0000000000000200000001380eff00000000000002000000014017ff00000000000002ff000000000000030a00000001200aff00000000000002 [] ∷
    line (truth false) 0x1 [] ∷
    line (truth true) 0x1 [] ∷
    line (truth false) 0x1 [] ∷
    line (accepted) 0x1 [] ∷
    line (accepted) 0x1 [] ∷
    line (accepted) 0x1 [] ∷
    line (Result.given) 0x1 (Queued.timed 0xff00000000000002 500 (an Kind.KeyboardKey 0 0 (Load.KeyPress 30 KeyState.Press)) ∷ []) ∷
    line (Result.given) 0x1 (Queued.untimed (Untimed.Frame 0xff00000000000002 7 500) ∷ []) ∷
    line (Result.none) 0x1 [] ∷
    line (Result.device 0xff00000000000004) 0x13016ff00000000000001ff0000000000000400000001100bff0000000000000461380eff0000000000000400000002200aff00000000000004 [] ∷
    line (truth false) 0x1 [] ∷
    line (accepted) 0x1 [] ∷
    line (accepted) 0x1 [] ∷
    line (Result.none) 0x1 [] ∷
    line (Result.device 0xff00000000000005) 0x13016ff00000000000001ff0000000000000500000001380eff00000000000005000000014017ff00000000000005ff000000000000060a00000001200aff00000000000005 [] ∷
    line (accepted) 0x1 [] ∷
    line (accepted) 0x1 [] ∷
    line (Result.given) 0x1 (Queued.timed 0xff00000000000005 900 (an Kind.KeyboardKey 0 0 (Load.KeyPress 31 KeyState.Released)) ∷ []) ∷
    line (Result.given) 0x1 (Queued.untimed (Untimed.Frame 0xff00000000000005 7 900) ∷ []) ∷
    line (Result.given) 0x1 (Queued.untimed (Untimed.Ready 0xff00000000000005) ∷ []) ∷
    line (refused 13) 0x1 [] ∷
    line (refused 19) 0x1 [] ∷
    line (accepted) 0x1280eff0000000000000300000008280eff0000000000000200000009 [] ∷
    line (refused 19) 0x1 [] ∷
    line (accepted) 0x1280eff000000000000040000000a [] ∷
    line (accepted) 0x1280eff000000000000060000000b280eff000000000000050000000c280eff000000000000010000000d [] ∷
    line (accepted) 0x17013ff000000000000000000000d0000000000 [] ∷ []

pub agrees1 : computed 0xff00000000000000 7 0xff00000000000001 ((some 1) ∷ (some 1) ∷ (some 1) ∷ none ∷ none ∷ none ∷ none ∷ none ∷ none ∷ (some 1) ∷ none ∷ none ∷ []) calls1 ≡ trail1
unfolding computed
agrees1 = refl
