-- A delivered request as a trail has it. Assumes nothing.
use Rattle.std.specs.Prelude.{Bool, cond}
use Rattle.eiproto.specs.Enum.{button_state_number, key_state_number}
use Rattle.requests.specs.declared.request.EisRequest.{EisRequest}
use Rattle.requests.specs.declared.request.EisRequest.TheVariants.{Disconnect, Bind, DeviceClosed, RequestDevice, Frame, Ready, DeviceStartEmulating, DeviceStopEmulating, PointerMotion, PointerMotionAbsolute, Button, ScrollDelta, ScrollStop, ScrollCancel, ScrollDiscrete, KeyboardKey, TouchDown, TouchUp, TouchMotion, TouchCancel, TextKeysym, TextUtf8}
use Rattle.script_pattern.specs.Words.{real_number, amount_number, truth_number}
use Rattle.script_pattern.specs.Pattern.{shown}
use Rattle.script_pattern.specs.declared.table.Shown.{Shown}

-- the pattern of the request's kind, and the fields in their order
abbrev pub delivered : (explained : Bool) → EisRequest → Shown
delivered x Disconnect = shown 0 0 0 0 0 0
delivered x (Bind seat capabilities) = shown 1 seat capabilities 0 0 0
delivered x (DeviceClosed device) = shown 2 device 0 0 0 0
delivered x (RequestDevice seat capabilities) = shown 3 seat capabilities 0 0 0
delivered x (Frame device serial time) = shown 4 device serial time 0 0
delivered x (Ready device) = shown 5 device 0 0 0 0
delivered x (DeviceStartEmulating device serial sequence) = shown 6 device serial sequence 0 0
delivered x (DeviceStopEmulating device serial) = shown 7 device serial 0 0 0
delivered x (PointerMotion device time dx dy) = shown 8 device time (real_number dx) (real_number dy) 0
delivered x (PointerMotionAbsolute device time dx dy) = shown 9 device time (real_number dx) (real_number dy) 0
delivered x (Button device time button state) = shown 10 device time button (button_state_number state) 0
delivered x (ScrollDelta device time dx dy) = shown 11 device time (real_number dx) (real_number dy) 0
delivered x (ScrollStop device time sx sy) = shown 12 device time (truth_number sx) (truth_number sy) 0
delivered x (ScrollCancel device time sx sy) = shown 13 device time (truth_number sx) (truth_number sy) 0
delivered x (ScrollDiscrete device time dx dy) = shown 14 device time (amount_number dx) (amount_number dy) 0
delivered x (KeyboardKey device time key state) = shown 15 device time key (key_state_number state) 0
delivered x (TouchDown device time touch tx ty) = shown 16 device time touch (real_number tx) (real_number ty)
delivered x (TouchUp device time touch) = shown 17 device time touch 0 0
delivered x (TouchMotion device time touch tx ty) = shown 18 device time touch (real_number tx) (real_number ty)
delivered x (TouchCancel device time touch) = shown 19 device time touch 0 0
delivered x (TextKeysym device time keysym state) = shown 20 device time keysym (key_state_number state) 0
delivered x (TextUtf8 device time length) = shown (cond x 22 21) device time 0 0 0
