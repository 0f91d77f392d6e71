-- Version 0 is negotiated: the capability is announced and bound, and record 8 says 0. A seat or a device of version 0 says 0, not 1.
-- Made by tests/equations.py from a call script and its trail: the oracle's, and by hand from the first seat of a session on that is given what was not negotiated. Assumes nothing.
use mathlib.Core.Path.{◌≡◌, refl}
use mathlib.Core.Bool.{true, false}
use mathlib.Core.List.{List, [], ◌∷◌}
use mathlib.Core.Option.{Option, none, some}
use lib.IntN.{pos, negsuc}
use lib.Ieee.{nan}
use Rattle.eiproto.specs.declared.eiproto_enum.ButtonState.{ButtonState}
use Rattle.eiproto.specs.declared.eiproto_enum.DeviceType.{DeviceType}
use Rattle.eiproto.specs.declared.eiproto_enum.DisconnectReason.{DisconnectReason}
use Rattle.eiproto.specs.declared.eiproto_enum.KeyState.{KeyState}
use Rattle.eiproto.specs.declared.event.DeviceCapability.{DeviceCapability}
use Rattle.model.specs.Call.{Kind, Input, Load, HandshakeRequest, handshake, interface_release, Plain, timed, plain, Turn}
use Rattle.model.specs.Session.{Untimed, Queued}
use Rattle.model.specs.Plan.{Result, accepted, refused, refused_version, value, truth}
use Rattle.model_cases.specs.Line.{Line, line, f32, an, turn, computed}

abbrev calls1 : List Turn
calls1 =
    turn (plain (Plain.add_seat none 12)) 0 4096 ∷
    turn (plain (Plain.bind 0xff00000000000001 12)) 0 4096 ∷
    turn (plain (Plain.add_device 0xff00000000000001 none DeviceType.Virtual 127)) 0 4096 ∷
    turn (plain (Plain.interface_version (0x65 ∷ 0x69 ∷ 0x5f ∷ 0x6b ∷ 0x65 ∷ 0x79 ∷ 0x62 ∷ 0x6f ∷ 0x61 ∷ 0x72 ∷ 0x64 ∷ []))) 0 4096 ∷
    turn (plain (Plain.has_interface (0x65 ∷ 0x69 ∷ 0x5f ∷ 0x6b ∷ 0x65 ∷ 0x79 ∷ 0x62 ∷ 0x6f ∷ 0x61 ∷ 0x72 ∷ 0x64 ∷ []))) 0 4096 ∷
    turn (plain (Plain.add_seat none 127)) 0 4096 ∷
    turn (plain (Plain.bind 0xff00000000000005 4)) 0 4096 ∷
    turn (plain (Plain.bind 0xff00000000000005 12)) 0 4096 ∷
    turn (plain (Plain.bind 0xff00000000000005 13)) 0 4096 ∷
    turn (plain (Plain.add_device 0xff00000000000005 none DeviceType.Virtual 127)) 0 4096 ∷
    turn (timed 0xff00000000000007 1 (Input.Key 30 KeyState.Press)) 0 4096 ∷
    turn (timed 0xff00000000000008 1 (Input.Down 5 (f32 0x3f800000) (f32 0x3f800000))) 0 4096 ∷
    turn (timed 0xff00000000000008 0 (Input.Cancel 5)) 0 4096 ∷
    turn (plain (Plain.has_capability 0xff00000000000006 DeviceCapability.Keyboard)) 0 4096 ∷ []

abbrev trail1 : List Line
trail1 =
    line (Result.seat 0xff00000000000001) 0x10816ff00000000000000ff00000000000001000000001813ff0000000000000100000000000000040a1813ff0000000000000100000000000000080b200aff00000000000001 [] ∷
    line (accepted) 0x1 [] ∷
    line (Result.device 0xff00000000000002) 0x13016ff00000000000001ff0000000000000200000000380eff00000000000002000000014017ff00000000000002ff000000000000030a000000004017ff00000000000002ff000000000000040b00000000200aff00000000000002 [] ∷
    line (value 0) 0x1 [] ∷
    line (truth true) 0x1 [] ∷
    line (Result.seat 0xff00000000000005) 0x10816ff00000000000000ff00000000000005000000001813ff0000000000000500000000000000040a1813ff0000000000000500000000000000080b200aff00000000000005 [] ∷
    line (accepted) 0x1 [] ∷
    line (accepted) 0x1 [] ∷
    line (refused 3) 0x1 [] ∷
    line (Result.device 0xff00000000000006) 0x13016ff00000000000005ff0000000000000600000000380eff00000000000006000000014017ff00000000000006ff000000000000070a000000004017ff00000000000006ff000000000000080b00000000200aff00000000000006 [] ∷
    line (accepted) 0x1 [] ∷
    line (accepted) 0x1 [] ∷
    line (refused_version 11 0) 0x1 [] ∷
    line (truth true) 0x1 [] ∷ []

pub agrees1 : computed 0xff00000000000000 7 0xff00000000000001 ((some 1) ∷ (some 1) ∷ (some 1) ∷ (some 0) ∷ (some 0) ∷ none ∷ none ∷ none ∷ none ∷ (some 0) ∷ (some 0) ∷ none ∷ []) calls1 ≡ trail1
unfolding computed
agrees1 = refl

abbrev calls2 : List Turn
calls2 =
    turn (plain (Plain.add_seat none 127)) 0 4096 ∷
    turn (plain (Plain.request_device 0xff00000000000001 12)) 0 4096 ∷
    turn (plain (Plain.add_device 0xff00000000000001 none DeviceType.Virtual 127)) 0 4096 ∷
    turn (plain (Plain.interface_version (0x65 ∷ 0x69 ∷ 0x5f ∷ 0x73 ∷ 0x65 ∷ 0x61 ∷ 0x74 ∷ []))) 0 4096 ∷
    turn (plain (Plain.interface_version (0x65 ∷ 0x69 ∷ 0x5f ∷ 0x64 ∷ 0x65 ∷ 0x76 ∷ 0x69 ∷ 0x63 ∷ 0x65 ∷ []))) 0 4096 ∷ []

abbrev trail2 : List Line
trail2 =
    line (Result.seat 0xff00000000000001) 0x10816ff00000000000000ff00000000000001000000011813ff0000000000000100000000000000040a1813ff0000000000000100000000000000080b200aff00000000000001 [] ∷
    line (accepted) 0x1 [] ∷
    line (Result.device 0xff00000000000002) 0x13016ff00000000000001ff0000000000000200000002380eff00000000000002000000014017ff00000000000002ff000000000000030a000000004017ff00000000000002ff000000000000040b00000002200aff00000000000002 [] ∷
    line (Result.none) 0x1 [] ∷
    line (value 2) 0x1 [] ∷ []

pub agrees2 : computed 0xff00000000000000 1 0xff00000000000001 ((some 1) ∷ (some 1) ∷ (some 1) ∷ none ∷ (some 2) ∷ none ∷ none ∷ none ∷ none ∷ (some 0) ∷ (some 2) ∷ none ∷ []) calls2 ≡ trail2
unfolding computed
agrees2 = refl
