-- False friend: raising the serial for disconnected.
-- Made by tests/equations.py from a call script and the oracle's trail of it. Assumes nothing.
use mathlib.Core.Path.{◌≡◌, refl}
use mathlib.Core.Bool.{true, false}
use mathlib.Core.List.{List, [], ◌∷◌}
use mathlib.Core.Option.{Option, none, some}
use lib.IntN.{pos, negsuc}
use lib.Ieee.{nan}
use Rattle.eiproto.specs.declared.eiproto_enum.ButtonState.{ButtonState}
use Rattle.eiproto.specs.declared.eiproto_enum.DeviceType.{DeviceType}
use Rattle.eiproto.specs.declared.eiproto_enum.DisconnectReason.{DisconnectReason}
use Rattle.eiproto.specs.declared.eiproto_enum.KeyState.{KeyState}
use Rattle.eiproto.specs.declared.event.DeviceCapability.{DeviceCapability}
use Rattle.model.specs.Call.{Kind, Input, Load, HandshakeRequest, handshake, interface_release, Plain, timed, plain, Turn}
use Rattle.model.specs.Session.{Untimed, Queued}
use Rattle.model.specs.Plan.{Result, accepted, refused, refused_version, value, truth}
use Rattle.model_cases.specs.Line.{Line, line, f32, an, turn, computed}

abbrev calls1 : List Turn
calls1 =
    turn (plain (Plain.disconnected DisconnectReason.Disconnected none)) 0 4096 ∷
    turn (plain (Plain.last_serial)) 0 4096 ∷
    turn (plain (Plain.disconnected DisconnectReason.Protocol (some []))) 0 4096 ∷
    turn (plain (Plain.disconnected DisconnectReason.Transport (some (0x68 ∷ 0x69 ∷ [])))) 0 4096 ∷
    turn (plain (Plain.add_seat none 0)) 0 4096 ∷
    turn (plain (Plain.disconnected DisconnectReason.Error none)) 0 4096 ∷
    turn (plain (Plain.last_serial)) 0 4096 ∷ []

abbrev trail1 : List Line
trail1 =
    line (accepted) 0x17013ff00000000000000000000070000000000 [] ∷
    line (value 7) 0x1 [] ∷
    line (accepted) 0x17013ff00000000000000000000070000000380 [] ∷
    line (accepted) 0x17015ff000000000000000000000700000005806869 [] ∷
    line (Result.seat 0xff00000000000001) 0x10816ff00000000000000ff0000000000000100000002200aff00000000000001 [] ∷
    line (accepted) 0x1280eff00000000000001000000087013ff00000000000000000000080000000100 [] ∷
    line (value 8) 0x1 [] ∷ []

pub agrees1 : computed 0xff00000000000000 7 0xff00000000000001 ((some 1) ∷ (some 1) ∷ (some 1) ∷ (some 2) ∷ (some 3) ∷ (some 1) ∷ (some 1) ∷ (some 1) ∷ (some 1) ∷ (some 1) ∷ (some 2) ∷ (some 1) ∷ []) calls1 ≡ trail1
unfolding computed
agrees1 = refl
