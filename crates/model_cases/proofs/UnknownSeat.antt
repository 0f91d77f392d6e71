-- Seat Release for an unknown seat sends nothing: an id never given, the connection, a device, an interface.
-- Made by tests/equations.py from a call script and its trail: the oracle's, and by hand from the first release of a session on. Assumes nothing.
use mathlib.Core.Path.{◌≡◌, refl}
use mathlib.Core.Bool.{true, false}
use mathlib.Core.List.{List, [], ◌∷◌}
use mathlib.Core.Option.{Option, none, some}
use lib.IntN.{pos, negsuc}
use lib.Ieee.{nan}
use Rattle.eiproto.specs.declared.eiproto_enum.ButtonState.{ButtonState}
use Rattle.eiproto.specs.declared.eiproto_enum.DeviceType.{DeviceType}
use Rattle.eiproto.specs.declared.eiproto_enum.DisconnectReason.{DisconnectReason}
use Rattle.eiproto.specs.declared.eiproto_enum.KeyState.{KeyState}
use Rattle.eiproto.specs.declared.event.DeviceCapability.{DeviceCapability}
use Rattle.model.specs.Call.{Kind, Input, Load, HandshakeRequest, handshake, interface_release, Plain, timed, plain, Turn}
use Rattle.model.specs.Session.{Untimed, Queued}
use Rattle.model.specs.Plan.{Result, accepted, refused, refused_version, value, truth}
use Rattle.model_cases.specs.Line.{Line, line, f32, an, turn, computed}

abbrev calls1 : List Turn
calls1 =
    turn (plain (Plain.add_seat none 127)) 0 4096 ∷
    turn (plain (Plain.add_device 0xff00000000000001 none DeviceType.Virtual 4)) 0 4096 ∷
    turn (plain (Plain.add_device 0xff00000000000001 none DeviceType.Virtual 4)) 0 4096 ∷
    turn (plain (Plain.seat_release 0x0000000000000005)) 0 4096 ∷
    turn (plain (Plain.seat_release 0x0000000000000000)) 0 4096 ∷
    turn (plain (Plain.seat_release 0xffffffffffffffff)) 0 4096 ∷
    turn (plain (Plain.seat_release 0xff00000000000000)) 0 4096 ∷
    turn (plain (Plain.seat_release 0xff00000000000002)) 0 4096 ∷
    turn (plain (Plain.seat_release 0xff00000000000003)) 0 4096 ∷
    turn (plain (Plain.seat_release 0xff00000000000006)) 0 0 ∷
    turn (plain (Plain.last_serial)) 0 4096 ∷
    turn (plain (Plain.next_request)) 0 254 ∷
    turn (plain (Plain.has_capability 0xff00000000000002 DeviceCapability.Keyboard)) 0 4096 ∷
    turn (plain (Plain.remove_seat 0xff00000000000001)) 0 4096 ∷ []

abbrev trail1 : List Line
trail1 =
    line (Result.seat 0xff00000000000001) 0x10816ff00000000000000ff00000000000001000000021813ff000000000000010000000000000001061813ff000000000000010000000000000002071813ff0000000000000100000000000000040a1813ff0000000000000100000000000000080b1813ff000000000000010000000000000010081813ff000000000000010000000000000020091813ff0000000000000100000000000000400c200aff00000000000001 [] ∷
    line (Result.device 0xff00000000000002) 0x13016ff00000000000001ff0000000000000200000003380eff00000000000002000000014017ff00000000000002ff000000000000030a00000001200aff00000000000002 [] ∷
    line (Result.device 0xff00000000000004) 0x13016ff00000000000001ff0000000000000400000003380eff00000000000004000000014017ff00000000000004ff000000000000050a00000001200aff00000000000004 [] ∷
    line (accepted) 0x1 [] ∷
    line (accepted) 0x1 [] ∷
    line (accepted) 0x1 [] ∷
    line (accepted) 0x1 [] ∷
    line (accepted) 0x1 [] ∷
    line (accepted) 0x1 [] ∷
    line (accepted) 0x1 [] ∷
    line (value 7) 0x1 [] ∷
    line (Result.none) 0x1 [] ∷
    line (truth true) 0x1 [] ∷
    line (accepted) 0x1280eff0000000000000300000008280eff0000000000000200000009280eff000000000000050000000a280eff000000000000040000000b280eff000000000000010000000c [] ∷ []

pub agrees1 : computed 0xff00000000000000 7 0xff00000000000001 ((some 1) ∷ (some 1) ∷ (some 1) ∷ (some 2) ∷ (some 3) ∷ (some 1) ∷ (some 1) ∷ (some 1) ∷ (some 1) ∷ (some 1) ∷ (some 2) ∷ (some 1) ∷ []) calls1 ≡ trail1
unfolding computed
agrees1 = refl
