-- A seat keeps the negotiated capabilities that it was given, which are those that it announces; a device gets no interface for another.
-- Made by tests/equations.py from a call script and its trail: the oracle's, and by hand from the first seat of a session on that is given what was not negotiated. Assumes nothing.
use mathlib.Core.Path.{◌≡◌, refl}
use mathlib.Core.Bool.{true, false}
use mathlib.Core.List.{List, [], ◌∷◌}
use mathlib.Core.Option.{Option, none, some}
use lib.IntN.{pos, negsuc}
use lib.Ieee.{nan}
use Rattle.eiproto.specs.declared.eiproto_enum.ButtonState.{ButtonState}
use Rattle.eiproto.specs.declared.eiproto_enum.DeviceType.{DeviceType}
use Rattle.eiproto.specs.declared.eiproto_enum.DisconnectReason.{DisconnectReason}
use Rattle.eiproto.specs.declared.eiproto_enum.KeyState.{KeyState}
use Rattle.eiproto.specs.declared.event.DeviceCapability.{DeviceCapability}
use Rattle.model.specs.Call.{Kind, Input, Load, HandshakeRequest, handshake, interface_release, Plain, timed, plain, Turn}
use Rattle.model.specs.Session.{Untimed, Queued}
use Rattle.model.specs.Plan.{Result, accepted, refused, refused_version, value, truth}
use Rattle.model_cases.specs.Line.{Line, line, f32, an, turn, computed}

abbrev calls1 : List Turn
calls1 =
    turn (plain (Plain.add_seat (some []) 12)) 0 4096 ∷
    turn (plain (Plain.bind 0xff00000000000001 8)) 0 4096 ∷
    turn (plain (Plain.bind 0xff00000000000001 1)) 0 4096 ∷
    turn (plain (Plain.add_device 0xff00000000000001 (some []) DeviceType.Physical 127)) 0 4096 ∷
    turn (timed 0xff00000000000004 1 (Input.Down 5 (f32 0x3f800000) (f32 0x3f800000))) 0 4096 ∷
    turn (timed 0xff00000000000004 1 (Input.Cancel 5)) 0 4096 ∷
    turn (timed 0xff00000000000004 1 (Input.Up 5)) 0 4096 ∷
    turn (plain (Plain.has_capability 0xff00000000000002 DeviceCapability.Touch)) 0 4096 ∷
    turn (plain (Plain.has_capability 0xff00000000000002 DeviceCapability.Pointer)) 0 4096 ∷
    turn (plain (Plain.device_frame 0xff00000000000002 7 1)) 0 4096 ∷
    turn (plain (Plain.next_request)) 0 254 ∷ []

abbrev trail1 : List Line
trail1 =
    line (Result.seat 0xff00000000000001) 0x10816ff00000000000000ff0000000000000100000001100aff000000000000011813ff0000000000000100000000000000040a200aff00000000000001 [] ∷
    line (refused 3) 0x1 [] ∷
    line (refused 3) 0x1 [] ∷
    line (Result.device 0xff00000000000002) 0x13016ff00000000000001ff0000000000000200000001100aff00000000000002380eff00000000000002000000024017ff00000000000002ff000000000000030a00000001200aff00000000000002 [] ∷
    line (accepted) 0x1 [] ∷
    line (accepted) 0x1 [] ∷
    line (accepted) 0x1 [] ∷
    line (truth false) 0x1 [] ∷
    line (truth false) 0x1 [] ∷
    line (accepted) 0x1 [] ∷
    line (Result.none) 0x1 [] ∷ []

pub agrees1 : computed 0xff00000000000000 7 0xff00000000000001 ((some 1) ∷ (some 1) ∷ (some 1) ∷ none ∷ none ∷ none ∷ none ∷ none ∷ none ∷ (some 1) ∷ none ∷ none ∷ []) calls1 ≡ trail1
unfolding computed
agrees1 = refl
