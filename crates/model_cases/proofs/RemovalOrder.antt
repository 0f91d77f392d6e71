-- Interfaces by capability bit, devices and seats by id, each ascending.
-- Made by tests/equations.py from a call script and the oracle's trail of it. Assumes nothing.
use mathlib.Core.Path.{◌≡◌, refl}
use mathlib.Core.Bool.{true, false}
use mathlib.Core.List.{List, [], ◌∷◌}
use mathlib.Core.Option.{Option, none, some}
use lib.IntN.{pos, negsuc}
use lib.Ieee.{nan}
use Rattle.eiproto.specs.declared.eiproto_enum.ButtonState.{ButtonState}
use Rattle.eiproto.specs.declared.eiproto_enum.DeviceType.{DeviceType}
use Rattle.eiproto.specs.declared.eiproto_enum.DisconnectReason.{DisconnectReason}
use Rattle.eiproto.specs.declared.eiproto_enum.KeyState.{KeyState}
use Rattle.eiproto.specs.declared.event.DeviceCapability.{DeviceCapability}
use Rattle.model.specs.Call.{Kind, Input, Load, HandshakeRequest, handshake, interface_release, Plain, timed, plain, Turn}
use Rattle.model.specs.Session.{Untimed, Queued}
use Rattle.model.specs.Plan.{Result, accepted, refused, refused_version, value, truth}
use Rattle.model_cases.specs.Line.{Line, line, f32, an, turn, computed}

abbrev calls1 : List Turn
calls1 =
    turn (plain (Plain.add_seat none 127)) 0 4096 ∷
    turn (plain (Plain.add_seat none 3)) 0 4096 ∷
    turn (plain (Plain.add_device 0xff00000000000002 none DeviceType.Virtual 1)) 0 4096 ∷
    turn (plain (Plain.add_device 0xff00000000000001 none DeviceType.Virtual 6)) 0 4096 ∷
    turn (plain (Plain.add_device 0xff00000000000002 none DeviceType.Virtual 0)) 0 4096 ∷
    turn (plain (Plain.add_device 0xff00000000000001 none DeviceType.Virtual 64)) 0 4096 ∷
    turn (plain (Plain.disconnected DisconnectReason.Disconnected none)) 0 4096 ∷ []

abbrev trail1 : List Line
trail1 =
    line (Result.seat 0xff00000000000001) 0x10816ff00000000000000ff00000000000001000000021813ff000000000000010000000000000001061813ff000000000000010000000000000002071813ff0000000000000100000000000000040a1813ff0000000000000100000000000000080b1813ff000000000000010000000000000010081813ff000000000000010000000000000020091813ff0000000000000100000000000000400c200aff00000000000001 [] ∷
    line (Result.seat 0xff00000000000002) 0x10816ff00000000000000ff00000000000002000000021813ff000000000000020000000000000001061813ff00000000000002000000000000000207200aff00000000000002 [] ∷
    line (Result.device 0xff00000000000003) 0x13016ff00000000000002ff0000000000000300000003380eff00000000000003000000014017ff00000000000003ff000000000000040600000001200aff00000000000003 [] ∷
    line (Result.device 0xff00000000000005) 0x13016ff00000000000001ff0000000000000500000003380eff00000000000005000000014017ff00000000000005ff0000000000000607000000014017ff00000000000005ff000000000000070a00000001200aff00000000000005 [] ∷
    line (Result.device 0xff00000000000008) 0x13016ff00000000000002ff0000000000000800000003380eff0000000000000800000001200aff00000000000008 [] ∷
    line (Result.device 0xff00000000000009) 0x13016ff00000000000001ff0000000000000900000003380eff00000000000009000000014017ff00000000000009ff0000000000000a0c00000001200aff00000000000009 [] ∷
    line (accepted) 0x1280eff0000000000000600000008280eff0000000000000700000009280eff000000000000050000000a280eff0000000000000a0000000b280eff000000000000090000000c280eff000000000000010000000d280eff000000000000040000000e280eff000000000000030000000f280eff0000000000000800000010280eff00000000000002000000117013ff00000000000000000000110000000000 [] ∷ []

pub agrees1 : computed 0xff00000000000000 7 0xff00000000000001 ((some 1) ∷ (some 1) ∷ (some 1) ∷ (some 2) ∷ (some 3) ∷ (some 1) ∷ (some 1) ∷ (some 1) ∷ (some 1) ∷ (some 1) ∷ (some 2) ∷ (some 1) ∷ []) calls1 ≡ trail1
unfolding computed
agrees1 = refl
