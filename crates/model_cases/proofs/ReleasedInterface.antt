-- A released interface is destroyed once: its device lists it no longer and stands, and removals pass over it.
-- Made by tests/equations.py from a call script and its trail: the oracle's, and by hand from the first release of a session on. Assumes nothing.
use mathlib.Core.Path.{◌≡◌, refl}
use mathlib.Core.Bool.{true, false}
use mathlib.Core.List.{List, [], ◌∷◌}
use mathlib.Core.Option.{Option, none, some}
use lib.IntN.{pos, negsuc}
use lib.Ieee.{nan}
use Rattle.eiproto.specs.declared.eiproto_enum.ButtonState.{ButtonState}
use Rattle.eiproto.specs.declared.eiproto_enum.DeviceType.{DeviceType}
use Rattle.eiproto.specs.declared.eiproto_enum.DisconnectReason.{DisconnectReason}
use Rattle.eiproto.specs.declared.eiproto_enum.KeyState.{KeyState}
use Rattle.eiproto.specs.declared.event.DeviceCapability.{DeviceCapability}
use Rattle.model.specs.Call.{Kind, Input, Load, HandshakeRequest, handshake, interface_release, Plain, timed, plain, Turn}
use Rattle.model.specs.Session.{Untimed, Queued}
use Rattle.model.specs.Plan.{Result, accepted, refused, refused_version, value, truth}
use Rattle.model_cases.specs.Line.{Line, line, f32, an, turn, computed}

abbrev calls1 : List Turn
calls1 =
    turn (plain (Plain.add_seat none 127)) 0 4096 ∷
    turn (plain (Plain.add_device 0xff00000000000001 none DeviceType.Virtual 4)) 0 4096 ∷
    turn (plain (Plain.add_device 0xff00000000000001 none DeviceType.Virtual 4)) 0 4096 ∷
    turn (plain (interface_release DeviceCapability.Keyboard 0xff00000000000003)) 0 13 ∷
    turn (plain (Plain.has_capability 0xff00000000000002 DeviceCapability.Keyboard)) 0 13 ∷
    turn (plain (interface_release DeviceCapability.Keyboard 0xff00000000000003)) 0 14 ∷
    turn (plain (Plain.has_capability 0xff00000000000002 DeviceCapability.Keyboard)) 0 4096 ∷
    turn (plain (Plain.has_capability 0xff00000000000004 DeviceCapability.Keyboard)) 0 4096 ∷
    turn (plain (interface_release DeviceCapability.Keyboard 0xff00000000000003)) 0 4096 ∷
    turn (plain (Plain.last_serial)) 0 4096 ∷
    turn (timed 0xff00000000000003 1 (Input.Key 30 KeyState.Press)) 0 4096 ∷
    turn (plain (Plain.device_frame 0xff00000000000002 8 1)) 0 4096 ∷
    turn (plain (Plain.next_request)) 0 254 ∷
    turn (plain (Plain.remove_device 0xff00000000000002)) 0 13 ∷
    turn (plain (Plain.remove_device 0xff00000000000002)) 0 14 ∷
    turn (plain (Plain.remove_device 0xff00000000000002)) 0 14 ∷
    turn (plain (interface_release DeviceCapability.Keyboard 0xff00000000000003)) 0 14 ∷
    turn (plain (Plain.last_serial)) 0 14 ∷ []

abbrev trail1 : List Line
trail1 =
    line (Result.seat 0xff00000000000001) 0x10816ff00000000000000ff00000000000001000000021813ff000000000000010000000000000001061813ff000000000000010000000000000002071813ff0000000000000100000000000000040a1813ff0000000000000100000000000000080b1813ff000000000000010000000000000010081813ff000000000000010000000000000020091813ff0000000000000100000000000000400c200aff00000000000001 [] ∷
    line (Result.device 0xff00000000000002) 0x13016ff00000000000001ff0000000000000200000003380eff00000000000002000000014017ff00000000000002ff000000000000030a00000001200aff00000000000002 [] ∷
    line (Result.device 0xff00000000000004) 0x13016ff00000000000001ff0000000000000400000003380eff00000000000004000000014017ff00000000000004ff000000000000050a00000001200aff00000000000004 [] ∷
    line (refused 19) 0x1 [] ∷
    line (truth true) 0x1 [] ∷
    line (accepted) 0x1280eff0000000000000300000008 [] ∷
    line (truth false) 0x1 [] ∷
    line (truth true) 0x1 [] ∷
    line (accepted) 0x1 [] ∷
    line (value 8) 0x1 [] ∷
    line (accepted) 0x1 [] ∷
    line (accepted) 0x1 [] ∷
    line (Result.none) 0x1 [] ∷
    line (refused 19) 0x1 [] ∷
    line (accepted) 0x1280eff0000000000000200000009 [] ∷
    line (refused 12) 0x1 [] ∷
    line (accepted) 0x1 [] ∷
    line (value 9) 0x1 [] ∷ []

pub agrees1 : computed 0xff00000000000000 7 0xff00000000000001 ((some 1) ∷ (some 1) ∷ (some 1) ∷ (some 2) ∷ (some 3) ∷ (some 1) ∷ (some 1) ∷ (some 1) ∷ (some 1) ∷ (some 1) ∷ (some 2) ∷ (some 1) ∷ []) calls1 ≡ trail1
unfolding computed
agrees1 = refl

abbrev calls2 : List Turn
calls2 =
    turn (plain (Plain.add_seat none 127)) 0 4096 ∷
    turn (plain (Plain.add_device 0xff00000000000001 none DeviceType.Virtual 4)) 0 4096 ∷
    turn (plain (interface_release DeviceCapability.Keyboard 0xff00000000000003)) 0 4096 ∷
    turn (plain (Plain.has_capability 0xff00000000000002 DeviceCapability.Pointer)) 0 4096 ∷
    turn (plain (Plain.has_capability 0xff00000000000002 DeviceCapability.PointerAbsolute)) 0 4096 ∷
    turn (plain (Plain.has_capability 0xff00000000000002 DeviceCapability.Keyboard)) 0 4096 ∷
    turn (plain (Plain.has_capability 0xff00000000000002 DeviceCapability.Touch)) 0 4096 ∷
    turn (plain (Plain.has_capability 0xff00000000000002 DeviceCapability.Scroll)) 0 4096 ∷
    turn (plain (Plain.has_capability 0xff00000000000002 DeviceCapability.Button)) 0 4096 ∷
    turn (plain (Plain.has_capability 0xff00000000000002 DeviceCapability.Text)) 0 4096 ∷
    turn (plain (Plain.resumed 0xff00000000000002)) 0 4096 ∷
    turn (plain (Plain.device_ready 0xff00000000000002)) 0 4096 ∷
    turn (plain (Plain.device_frame 0xff00000000000002 9 1)) 0 4096 ∷
    turn (plain (Plain.next_request)) 0 254 ∷
    turn (plain (Plain.next_request)) 0 254 ∷
    turn (plain (Plain.remove_seat 0xff00000000000001)) 0 4096 ∷ []

abbrev trail2 : List Line
trail2 =
    line (Result.seat 0xff00000000000001) 0x10816ff00000000000000ff00000000000001000000021813ff000000000000010000000000000001061813ff000000000000010000000000000002071813ff0000000000000100000000000000040a1813ff0000000000000100000000000000080b1813ff000000000000010000000000000010081813ff000000000000010000000000000020091813ff0000000000000100000000000000400c200aff00000000000001 [] ∷
    line (Result.device 0xff00000000000002) 0x13016ff00000000000001ff0000000000000200000003380eff00000000000002000000014017ff00000000000002ff000000000000030a00000001200aff00000000000002 [] ∷
    line (accepted) 0x1280eff0000000000000300000008 [] ∷
    line (truth false) 0x1 [] ∷
    line (truth false) 0x1 [] ∷
    line (truth false) 0x1 [] ∷
    line (truth false) 0x1 [] ∷
    line (truth false) 0x1 [] ∷
    line (truth false) 0x1 [] ∷
    line (truth false) 0x1 [] ∷
    line (accepted) 0x1480eff0000000000000200000009 [] ∷
    line (accepted) 0x1 [] ∷
    line (accepted) 0x1 [] ∷
    line (Result.given) 0x1 (Queued.untimed (Untimed.Ready 0xff00000000000002) ∷ []) ∷
    line (Result.none) 0x1 [] ∷
    line (accepted) 0x1280eff000000000000020000000a280eff000000000000010000000b [] ∷ []

pub agrees2 : computed 0xff00000000000000 7 0xff00000000000001 ((some 1) ∷ (some 1) ∷ (some 1) ∷ (some 2) ∷ (some 3) ∷ (some 1) ∷ (some 1) ∷ (some 1) ∷ (some 1) ∷ (some 1) ∷ (some 2) ∷ (some 1) ∷ []) calls2 ≡ trail2
unfolding computed
agrees2 = refl

abbrev calls3 : List Turn
calls3 =
    turn (plain (Plain.add_seat none 127)) 0 4096 ∷
    turn (plain (Plain.add_device 0xff00000000000001 none DeviceType.Virtual 127)) 0 4096 ∷
    turn (plain (interface_release DeviceCapability.Pointer 0xff00000000000003)) 0 4096 ∷
    turn (timed 0xff00000000000003 1 (Input.MotionRelative (f32 0x3f800000) (f32 0x3f800000))) 0 4096 ∷
    turn (timed 0xff00000000000003 1 (Input.MotionAbsolute (f32 0x3f800000) (f32 0x3f800000))) 0 4096 ∷
    turn (timed 0xff00000000000004 1 (Input.Key 30 KeyState.Press)) 0 4096 ∷
    turn (timed 0xff00000000000005 1 (Input.Key 31 KeyState.Press)) 0 4096 ∷
    turn (timed 0xff00000000000009 1 (Input.Keysym 97 KeyState.Press)) 0 4096 ∷
    turn (plain (Plain.device_frame 0xff00000000000002 8 2)) 0 4096 ∷
    turn (plain (Plain.next_request)) 0 254 ∷
    turn (plain (Plain.next_request)) 0 254 ∷
    turn (plain (Plain.next_request)) 0 254 ∷
    turn (plain (Plain.next_request)) 0 254 ∷
    turn (plain (interface_release DeviceCapability.Scroll 0xff00000000000007)) 0 4096 ∷
    turn (plain (interface_release DeviceCapability.Text 0xff00000000000009)) 0 4096 ∷
    turn (plain (Plain.has_capability 0xff00000000000002 DeviceCapability.Pointer)) 0 4096 ∷
    turn (plain (Plain.has_capability 0xff00000000000002 DeviceCapability.PointerAbsolute)) 0 4096 ∷
    turn (plain (Plain.has_capability 0xff00000000000002 DeviceCapability.Keyboard)) 0 4096 ∷
    turn (plain (Plain.has_capability 0xff00000000000002 DeviceCapability.Touch)) 0 4096 ∷
    turn (plain (Plain.has_capability 0xff00000000000002 DeviceCapability.Scroll)) 0 4096 ∷
    turn (plain (Plain.has_capability 0xff00000000000002 DeviceCapability.Button)) 0 4096 ∷
    turn (plain (Plain.has_capability 0xff00000000000002 DeviceCapability.Text)) 0 4096 ∷
    turn (plain (Plain.remove_device 0xff00000000000002)) 0 69 ∷
    turn (plain (Plain.remove_device 0xff00000000000002)) 0 70 ∷ []

abbrev trail3 : List Line
trail3 =
    line (Result.seat 0xff00000000000001) 0x10816ff00000000000000ff00000000000001000000021813ff000000000000010000000000000001061813ff000000000000010000000000000002071813ff0000000000000100000000000000040a1813ff0000000000000100000000000000080b1813ff000000000000010000000000000010081813ff000000000000010000000000000020091813ff0000000000000100000000000000400c200aff00000000000001 [] ∷
    line (Result.device 0xff00000000000002) 0x13016ff00000000000001ff0000000000000200000003380eff00000000000002000000014017ff00000000000002ff0000000000000306000000014017ff00000000000002ff0000000000000407000000014017ff00000000000002ff000000000000050a000000014017ff00000000000002ff000000000000060b000000024017ff00000000000002ff0000000000000708000000014017ff00000000000002ff0000000000000809000000014017ff00000000000002ff000000000000090c00000001200aff00000000000002 [] ∷
    line (accepted) 0x1280eff0000000000000300000008 [] ∷
    line (accepted) 0x1 [] ∷
    line (accepted) 0x1 [] ∷
    line (accepted) 0x1 [] ∷
    line (accepted) 0x1 [] ∷
    line (accepted) 0x1 [] ∷
    line (accepted) 0x1 [] ∷
    line (Result.given) 0x1 (Queued.timed 0xff00000000000002 2 (an Kind.KeyboardKey 0 0 (Load.KeyPress 31 KeyState.Press)) ∷ []) ∷
    line (Result.given) 0x1 (Queued.timed 0xff00000000000002 2 (an Kind.TextKeysym 0 0 (Load.KeyPress 97 KeyState.Press)) ∷ []) ∷
    line (Result.given) 0x1 (Queued.untimed (Untimed.Frame 0xff00000000000002 8 2) ∷ []) ∷
    line (Result.none) 0x1 [] ∷
    line (accepted) 0x1280eff0000000000000700000009 [] ∷
    line (accepted) 0x1280eff000000000000090000000a [] ∷
    line (truth false) 0x1 [] ∷
    line (truth true) 0x1 [] ∷
    line (truth true) 0x1 [] ∷
    line (truth true) 0x1 [] ∷
    line (truth false) 0x1 [] ∷
    line (truth true) 0x1 [] ∷
    line (truth false) 0x1 [] ∷
    line (refused 19) 0x1 [] ∷
    line (accepted) 0x1280eff000000000000040000000b280eff000000000000050000000c280eff000000000000060000000d280eff000000000000080000000e280eff000000000000020000000f [] ∷ []

pub agrees3 : computed 0xff00000000000000 7 0xff00000000000001 ((some 1) ∷ (some 1) ∷ (some 1) ∷ (some 2) ∷ (some 3) ∷ (some 1) ∷ (some 1) ∷ (some 1) ∷ (some 1) ∷ (some 1) ∷ (some 2) ∷ (some 1) ∷ []) calls3 ≡ trail3
unfolding computed
agrees3 = refl

abbrev calls4 : List Turn
calls4 =
    turn (plain (Plain.add_seat none 127)) 0 4096 ∷
    turn (plain (Plain.add_device 0xff00000000000001 none DeviceType.Virtual 4)) 0 4096 ∷
    turn (plain (Plain.add_device 0xff00000000000001 none DeviceType.Virtual 4)) 0 4096 ∷
    turn (plain (interface_release DeviceCapability.Keyboard 0xff00000000000005)) 0 4096 ∷
    turn (plain (Plain.disconnected DisconnectReason.Disconnected none)) 0 74 ∷
    turn (plain (Plain.disconnected DisconnectReason.Disconnected none)) 0 75 ∷ []

abbrev trail4 : List Line
trail4 =
    line (Result.seat 0xff00000000000001) 0x10816ff00000000000000ff00000000000001000000021813ff000000000000010000000000000001061813ff000000000000010000000000000002071813ff0000000000000100000000000000040a1813ff0000000000000100000000000000080b1813ff000000000000010000000000000010081813ff000000000000010000000000000020091813ff0000000000000100000000000000400c200aff00000000000001 [] ∷
    line (Result.device 0xff00000000000002) 0x13016ff00000000000001ff0000000000000200000003380eff00000000000002000000014017ff00000000000002ff000000000000030a00000001200aff00000000000002 [] ∷
    line (Result.device 0xff00000000000004) 0x13016ff00000000000001ff0000000000000400000003380eff00000000000004000000014017ff00000000000004ff000000000000050a00000001200aff00000000000004 [] ∷
    line (accepted) 0x1280eff0000000000000500000008 [] ∷
    line (refused 19) 0x1 [] ∷
    line (accepted) 0x1280eff0000000000000300000009280eff000000000000020000000a280eff000000000000040000000b280eff000000000000010000000c7013ff000000000000000000000c0000000000 [] ∷ []

pub agrees4 : computed 0xff00000000000000 7 0xff00000000000001 ((some 1) ∷ (some 1) ∷ (some 1) ∷ (some 2) ∷ (some 3) ∷ (some 1) ∷ (some 1) ∷ (some 1) ∷ (some 1) ∷ (some 1) ∷ (some 2) ∷ (some 1) ∷ []) calls4 ≡ trail4
unfolding computed
agrees4 = refl
