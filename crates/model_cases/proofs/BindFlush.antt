-- False friend: flushing pending requests at Bind.
-- Made by tests/equations.py from a call script and the oracle's trail of it. Assumes nothing.
use mathlib.Core.Path.{◌≡◌, refl}
use mathlib.Core.Bool.{true, false}
use mathlib.Core.List.{List, [], ◌∷◌}
use mathlib.Core.Option.{Option, none, some}
use lib.IntN.{pos, negsuc}
use lib.Ieee.{nan}
use Rattle.eiproto.specs.declared.eiproto_enum.ButtonState.{ButtonState}
use Rattle.eiproto.specs.declared.eiproto_enum.DeviceType.{DeviceType}
use Rattle.eiproto.specs.declared.eiproto_enum.DisconnectReason.{DisconnectReason}
use Rattle.eiproto.specs.declared.eiproto_enum.KeyState.{KeyState}
use Rattle.eiproto.specs.declared.event.DeviceCapability.{DeviceCapability}
use Rattle.model.specs.Call.{Kind, Input, Load, HandshakeRequest, handshake, interface_release, Plain, timed, plain, Turn}
use Rattle.model.specs.Session.{Untimed, Queued}
use Rattle.model.specs.Plan.{Result, accepted, refused, refused_version, value, truth}
use Rattle.model_cases.specs.Line.{Line, line, f32, an, turn, computed}

abbrev calls1 : List Turn
calls1 =
    turn (plain (Plain.add_seat none 127)) 0 4096 ∷
    turn (plain (Plain.add_device 0xff00000000000001 none DeviceType.Virtual 127)) 0 4096 ∷
    turn (timed 0xff00000000000005 1 (Input.Key 30 KeyState.Press)) 0 4096 ∷
    turn (plain (Plain.bind 0xff00000000000001 4)) 0 4096 ∷
    turn (plain (Plain.request_device 0xff00000000000001 4)) 0 4096 ∷
    turn (plain (Plain.next_request)) 0 254 ∷
    turn (plain (Plain.next_request)) 0 254 ∷
    turn (plain (Plain.next_request)) 0 254 ∷ []

abbrev trail1 : List Line
trail1 =
    line (Result.seat 0xff00000000000001) 0x10816ff00000000000000ff00000000000001000000021813ff000000000000010000000000000001061813ff000000000000010000000000000002071813ff0000000000000100000000000000040a1813ff0000000000000100000000000000080b1813ff000000000000010000000000000010081813ff000000000000010000000000000020091813ff0000000000000100000000000000400c200aff00000000000001 [] ∷
    line (Result.device 0xff00000000000002) 0x13016ff00000000000001ff0000000000000200000003380eff00000000000002000000014017ff00000000000002ff0000000000000306000000014017ff00000000000002ff0000000000000407000000014017ff00000000000002ff000000000000050a000000014017ff00000000000002ff000000000000060b000000024017ff00000000000002ff0000000000000708000000014017ff00000000000002ff0000000000000809000000014017ff00000000000002ff000000000000090c00000001200aff00000000000002 [] ∷
    line (accepted) 0x1 [] ∷
    line (accepted) 0x1 [] ∷
    line (accepted) 0x1 [] ∷
    line (Result.given) 0x1 (Queued.untimed (Untimed.Bind 0xff00000000000001 4) ∷ []) ∷
    line (Result.given) 0x1 (Queued.untimed (Untimed.RequestDevice 0xff00000000000001 4) ∷ []) ∷
    line (Result.none) 0x1 [] ∷ []

pub agrees1 : computed 0xff00000000000000 7 0xff00000000000001 ((some 1) ∷ (some 1) ∷ (some 1) ∷ (some 2) ∷ (some 3) ∷ (some 1) ∷ (some 1) ∷ (some 1) ∷ (some 1) ∷ (some 1) ∷ (some 2) ∷ (some 1) ∷ []) calls1 ≡ trail1
unfolding computed
agrees1 = refl
