-- Fields of the timed requests; ScrollStop and ScrollCancel; floats as they come.
-- Made by tests/equations.py from a call script and the oracle's trail of it. Assumes nothing.
use mathlib.Core.Path.{◌≡◌, refl}
use mathlib.Core.Bool.{true, false}
use mathlib.Core.List.{List, [], ◌∷◌}
use mathlib.Core.Option.{Option, none, some}
use lib.IntN.{pos, negsuc}
use lib.Ieee.{nan}
use Rattle.eiproto.specs.declared.eiproto_enum.ButtonState.{ButtonState}
use Rattle.eiproto.specs.declared.eiproto_enum.DeviceType.{DeviceType}
use Rattle.eiproto.specs.declared.eiproto_enum.DisconnectReason.{DisconnectReason}
use Rattle.eiproto.specs.declared.eiproto_enum.KeyState.{KeyState}
use Rattle.eiproto.specs.declared.event.DeviceCapability.{DeviceCapability}
use Rattle.model.specs.Call.{Kind, Input, Load, HandshakeRequest, handshake, interface_release, Plain, timed, plain, Turn}
use Rattle.model.specs.Session.{Untimed, Queued}
use Rattle.model.specs.Plan.{Result, accepted, refused, refused_version, value, truth}
use Rattle.model_cases.specs.Line.{Line, line, f32, an, turn, computed}

abbrev calls1 : List Turn
calls1 =
    turn (plain (Plain.add_seat none 127)) 0 4096 ∷
    turn (plain (Plain.add_device 0xff00000000000001 none DeviceType.Virtual 127)) 0 4096 ∷
    turn (timed 0xff00000000000003 1 (Input.MotionRelative (f32 0x80000000) nan)) 0 4096 ∷
    turn (timed 0xff00000000000004 1 (Input.MotionAbsolute (f32 0x7f800000) (f32 0xff800000))) 0 4096 ∷
    turn (timed 0xff00000000000007 1 (Input.Scroll (f32 0x00000001) nan)) 0 4096 ∷
    turn (timed 0xff00000000000007 1 (Input.ScrollDiscrete (negsuc 119) (pos 2147483647))) 0 4096 ∷
    turn (timed 0xff00000000000007 1 (Input.ScrollStop 0 2 0)) 0 4096 ∷
    turn (timed 0xff00000000000007 1 (Input.ScrollStop 4294967295 0 7)) 0 4096 ∷
    turn (timed 0xff00000000000008 1 (Input.Button 272 ButtonState.Press)) 0 4096 ∷
    turn (timed 0xff00000000000005 1 (Input.Key 4294967295 KeyState.Released)) 0 4096 ∷
    turn (timed 0xff00000000000006 1 (Input.Down 4294967295 (f32 0x3f800000) (f32 0x40000000))) 0 4096 ∷
    turn (timed 0xff00000000000006 1 (Input.Motion 4294967295 (f32 0x40000000) (f32 0x3f800000))) 0 4096 ∷
    turn (timed 0xff00000000000006 1 (Input.Motion 1 (f32 0x40000000) (f32 0x3f800000))) 0 4096 ∷
    turn (timed 0xff00000000000006 1 (Input.Up 4294967295)) 0 4096 ∷
    turn (timed 0xff00000000000006 1 (Input.Up 4294967295)) 0 4096 ∷
    turn (timed 0xff00000000000009 1 (Input.Keysym 65 KeyState.Press)) 0 4096 ∷
    turn (timed 0xff00000000000009 1 (Input.Utf8 (0x61 ∷ 0xc3 ∷ 0xa9 ∷ 0x00 ∷ []))) 0 4096 ∷
    turn (plain (Plain.device_frame 0xff00000000000002 4294967295 18446744073709551615)) 0 4096 ∷
    turn (plain (Plain.next_request)) 0 254 ∷
    turn (plain (Plain.next_request)) 0 254 ∷
    turn (plain (Plain.next_request)) 0 254 ∷
    turn (plain (Plain.next_request)) 0 254 ∷
    turn (plain (Plain.next_request)) 0 254 ∷
    turn (plain (Plain.next_request)) 0 254 ∷
    turn (plain (Plain.next_request)) 0 254 ∷
    turn (plain (Plain.next_request)) 0 254 ∷
    turn (plain (Plain.next_request)) 0 254 ∷
    turn (plain (Plain.next_request)) 0 254 ∷
    turn (plain (Plain.next_request)) 0 254 ∷
    turn (plain (Plain.next_request)) 0 254 ∷
    turn (plain (Plain.next_request)) 0 254 ∷
    turn (plain (Plain.next_request)) 0 254 ∷
    turn (plain (Plain.next_request)) 0 254 ∷ []

abbrev trail1 : List Line
trail1 =
    line (Result.seat 0xff00000000000001) 0x10816ff00000000000000ff00000000000001000000021813ff000000000000010000000000000001061813ff000000000000010000000000000002071813ff0000000000000100000000000000040a1813ff0000000000000100000000000000080b1813ff000000000000010000000000000010081813ff000000000000010000000000000020091813ff0000000000000100000000000000400c200aff00000000000001 [] ∷
    line (Result.device 0xff00000000000002) 0x13016ff00000000000001ff0000000000000200000003380eff00000000000002000000014017ff00000000000002ff0000000000000306000000014017ff00000000000002ff0000000000000407000000014017ff00000000000002ff000000000000050a000000014017ff00000000000002ff000000000000060b000000024017ff00000000000002ff0000000000000708000000014017ff00000000000002ff0000000000000809000000014017ff00000000000002ff000000000000090c00000001200aff00000000000002 [] ∷
    line (accepted) 0x1 [] ∷
    line (accepted) 0x1 [] ∷
    line (accepted) 0x1 [] ∷
    line (accepted) 0x1 [] ∷
    line (accepted) 0x1 [] ∷
    line (accepted) 0x1 [] ∷
    line (accepted) 0x1 [] ∷
    line (accepted) 0x1 [] ∷
    line (accepted) 0x1 [] ∷
    line (accepted) 0x1 [] ∷
    line (accepted) 0x1 [] ∷
    line (accepted) 0x1 [] ∷
    line (accepted) 0x1 [] ∷
    line (accepted) 0x1 [] ∷
    line (accepted) 0x1 [] ∷
    line (accepted) 0x1 [] ∷
    line (Result.given) 0x1 (Queued.timed 0xff00000000000002 18446744073709551615 (an Kind.PointerMotion 0 0 (Load.Point (f32 0x80000000) nan)) ∷ []) ∷
    line (Result.given) 0x1 (Queued.timed 0xff00000000000002 18446744073709551615 (an Kind.PointerMotionAbsolute 0 0 (Load.Point (f32 0x7f800000) (f32 0xff800000))) ∷ []) ∷
    line (Result.given) 0x1 (Queued.timed 0xff00000000000002 18446744073709551615 (an Kind.ScrollDelta 0 0 (Load.Point (f32 0x00000001) nan)) ∷ []) ∷
    line (Result.given) 0x1 (Queued.timed 0xff00000000000002 18446744073709551615 (an Kind.ScrollDiscrete 0 0 (Load.Discrete (negsuc 119) (pos 2147483647))) ∷ []) ∷
    line (Result.given) 0x1 (Queued.timed 0xff00000000000002 18446744073709551615 (an Kind.ScrollStop 0 0 (Load.Axes false true)) ∷ []) ∷
    line (Result.given) 0x1 (Queued.timed 0xff00000000000002 18446744073709551615 (an Kind.ScrollCancel 0 0 (Load.Axes true false)) ∷ []) ∷
    line (Result.given) 0x1 (Queued.timed 0xff00000000000002 18446744073709551615 (an Kind.Button 0 0 (Load.ButtonPress 272 ButtonState.Press)) ∷ []) ∷
    line (Result.given) 0x1 (Queued.timed 0xff00000000000002 18446744073709551615 (an Kind.KeyboardKey 0 0 (Load.KeyPress 4294967295 KeyState.Released)) ∷ []) ∷
    line (Result.given) 0x1 (Queued.timed 0xff00000000000002 18446744073709551615 (an Kind.TouchDown 4294967295 0 (Load.Point (f32 0x3f800000) (f32 0x40000000))) ∷ []) ∷
    line (Result.given) 0x1 (Queued.timed 0xff00000000000002 18446744073709551615 (an Kind.TouchMotion 4294967295 0 (Load.Point (f32 0x40000000) (f32 0x3f800000))) ∷ []) ∷
    line (Result.given) 0x1 (Queued.timed 0xff00000000000002 18446744073709551615 (an Kind.TouchUp 4294967295 0 (Load.None)) ∷ []) ∷
    line (Result.given) 0x1 (Queued.timed 0xff00000000000002 18446744073709551615 (an Kind.TextKeysym 0 0 (Load.KeyPress 65 KeyState.Press)) ∷ []) ∷
    line (Result.given) 0x1 (Queued.timed 0xff00000000000002 18446744073709551615 (an Kind.TextUtf8 0 4 (Load.Text (0x61 ∷ 0xc3 ∷ 0xa9 ∷ 0x00 ∷ []))) ∷ []) ∷
    line (Result.given) 0x1 (Queued.untimed (Untimed.Frame 0xff00000000000002 4294967295 18446744073709551615) ∷ []) ∷
    line (Result.none) 0x1 [] ∷ []

pub agrees1 : computed 0xff00000000000000 7 0xff00000000000001 ((some 1) ∷ (some 1) ∷ (some 1) ∷ (some 2) ∷ (some 3) ∷ (some 1) ∷ (some 1) ∷ (some 1) ∷ (some 1) ∷ (some 1) ∷ (some 2) ∷ (some 1) ∷ []) calls1 ≡ trail1
unfolding computed
agrees1 = refl
