-- What a line asks for, by its first word and the words behind it. Assumes nothing.
use Rattle.std.specs.Prelude.{ℕ, Option, Some, None, Result, Ok, Err}
use Rattle.eiproto.specs.declared.eiproto_enum.ButtonState.{ButtonState}
use Rattle.eiproto.specs.declared.eiproto_enum.DeviceType.{DeviceType}
use Rattle.eiproto.specs.declared.eiproto_enum.DisconnectReason.{DisconnectReason}
use Rattle.eiproto.specs.declared.eiproto_enum.KeyState.{KeyState}
use Rattle.eiproto.specs.declared.eiproto_enum.InvalidVariant.{InvalidVariant}
use Rattle.eiproto.specs.declared.event.DeviceCapability.{DeviceCapability}
use Rattle.eiproto.specs.Enum.{button_state_of, device_type_of, disconnect_reason_of, key_state_of}
use Rattle.eiproto.specs.Capability.{capability_mask, capability_by}
use Rattle.requests.specs.declared.eis.HandshakeRequest.{HandshakeRequest}
use Rattle.requests.specs.declared.eis.ConnectionRequest.{ConnectionRequest}
use Rattle.requests.specs.declared.eis.SeatRequest.{SeatRequest}
use Rattle.requests.specs.declared.eis.DeviceRequest.{DeviceRequest}
use Rattle.requests.specs.declared.eis.PointerRequest.{PointerRequest}
use Rattle.requests.specs.declared.eis.PointerAbsoluteRequest.{PointerAbsoluteRequest}
use Rattle.requests.specs.declared.eis.ScrollRequest.{ScrollRequest}
use Rattle.requests.specs.declared.eis.ButtonRequest.{ButtonRequest}
use Rattle.requests.specs.declared.eis.KeyboardRequest.{KeyboardRequest}
use Rattle.requests.specs.declared.eis.TouchscreenRequest.{TouchscreenRequest}
use Rattle.requests.specs.declared.eis.TextRequest.{TextRequest}
use Rattle.requests.specs.declared.eis.InterfaceRequest.{InterfaceRequest}
use Rattle.requests.specs.declared.eis.Request.{Request}
use Rattle.script.specs.declared.value.Value.{Value}
use Rattle.script.specs.declared.verb.Verb.{Verb}
use Rattle.script.specs.declared.line.Args.{Args}
use Rattle.script.specs.Told.{u64_of, u32_of, i32_of, f32_of}
use Rattle.script_asked.specs.declared.Add.{Add}
use Rattle.script_asked.specs.declared.Remove.{Remove}
use Rattle.script_asked.specs.declared.Tell.{Tell}
use Rattle.script_asked.specs.declared.Ask.{Ask}
use Rattle.script_asked.specs.declared.Event.{Event}
use Rattle.script_asked.specs.declared.Station.{Station}
use Rattle.script_asked.specs.declared.Words.{Words}
use Rattle.script_asked.specs.declared.Asked.{Asked}

-- ---- the words behind the first

-- a press state, a device's type, a reason and a capability by their numbers; a line that has another number there is no call (`read_as` of script)
abbrev pub key_case : Result KeyState InvalidVariant → KeyState
key_case (Ok s) = s
key_case (Err n) = KeyState.Released

abbrev pub key_state : Value → KeyState
key_state v = key_case (key_state_of (u32_of v))

abbrev pub button_case : Result ButtonState InvalidVariant → ButtonState
button_case (Ok s) = s
button_case (Err n) = ButtonState.Released

abbrev pub button_state : Value → ButtonState
button_state v = button_case (button_state_of (u32_of v))

abbrev pub type_case : Result DeviceType InvalidVariant → DeviceType
type_case (Ok t) = t
type_case (Err n) = DeviceType.Virtual

abbrev pub device_type : Value → DeviceType
device_type v = type_case (device_type_of (u32_of v))

abbrev pub reason_case : Result DisconnectReason InvalidVariant → DisconnectReason
reason_case (Ok r) = r
reason_case (Err n) = DisconnectReason.Disconnected

abbrev pub reason : Value → DisconnectReason
reason v = reason_case (disconnect_reason_of (u32_of v))

abbrev pub capability_case : Option DeviceCapability → DeviceCapability
capability_case (Some c) = c
capability_case None = DeviceCapability.Pointer

abbrev pub capability : Value → DeviceCapability
capability v = capability_case (capability_by capability_mask (u64_of v))

-- each word as what a call may want of it: a is the first behind the line's first word, b the second, and so on
unfoldable pub words_of : Args → Words
words_of w =
    record {
      a64 = u64_of w.a;
      a32 = u32_of w.a;
      b64 = u64_of w.b;
      b32 = u32_of w.b;
      c64 = u64_of w.c;
      c32 = u32_of w.c;
      d64 = u64_of w.d;
      d32 = u32_of w.d;
      bx = f32_of w.b;
      cx = f32_of w.c;
      dx = f32_of w.d;
      bi = i32_of w.b;
      ci = i32_of w.c;
      key = key_state w.c;
      button = button_state w.c;
      kind = device_type w.c;
      reason = reason w.a;
      capability = capability w.b;
    }

-- ---- the lines

-- a client's request, on the object that the first word names. No line but a touch Cancel says the version of its object. A request of the handshake or
-- the connection is on no object that its line names, and none is looked up for it
abbrev client : Words → Request → Asked
client w r = Asked.Client w.a64 1 r

abbrev pub told : Verb → Words → Asked
told Verb.Now w = Asked.Now w.a64
told Verb.Out w = Asked.Out w.a64
told Verb.Buffer w = Asked.Buffer w.a64
told Verb.Start w = Asked.Start w.a32
told Verb.HandshakeHandshakeVersion w = client w (Request.Handshake (HandshakeRequest.HandshakeVersion w.a32))
told Verb.HandshakeName w = client w (Request.Handshake HandshakeRequest.Name)
told Verb.HandshakeContextType w = client w (Request.Handshake (HandshakeRequest.ContextType w.a32))
told Verb.HandshakeInterfaceVersion w = client w (Request.Handshake (HandshakeRequest.InterfaceVersion w.b32))
told Verb.HandshakeFinish w = client w (Request.Handshake HandshakeRequest.Finish)
told Verb.ConnectionSync w = client w (Request.Connection (ConnectionRequest.Sync w.a64 w.b32))
told Verb.ConnectionDisconnect w = client w (Request.Connection ConnectionRequest.Disconnect)
told Verb.PingpongDone w = client w Request.PingpongDone
told Verb.SeatRelease w = client w (Request.Seat SeatRequest.Release)
told Verb.SeatBind w = client w (Request.Seat (SeatRequest.Bind w.b64))
told Verb.SeatRequestDevice w = client w (Request.Seat (SeatRequest.RequestDevice w.b64))
told Verb.DeviceRelease w = client w (Request.Device DeviceRequest.Release)
told Verb.DeviceStartEmulating w = client w (Request.Device (DeviceRequest.StartEmulating w.b32 w.c32))
told Verb.DeviceStopEmulating w = client w (Request.Device (DeviceRequest.StopEmulating w.b32))
told Verb.DeviceFrame w = client w (Request.Device (DeviceRequest.Frame w.b32 w.c64))
told Verb.DeviceReady w = client w (Request.Device DeviceRequest.Ready)
told Verb.PointerRelease w = client w (Request.Interface (InterfaceRequest.Pointer PointerRequest.Release))
told Verb.PointerMotionRelative w = client w (Request.Interface (InterfaceRequest.Pointer (PointerRequest.MotionRelative w.bx w.cx)))
told Verb.PointerAbsoluteRelease w = client w (Request.Interface (InterfaceRequest.PointerAbsolute PointerAbsoluteRequest.Release))
told Verb.PointerAbsoluteMotionAbsolute w = client w (Request.Interface (InterfaceRequest.PointerAbsolute (PointerAbsoluteRequest.MotionAbsolute w.bx w.cx)))
told Verb.ScrollRelease w = client w (Request.Interface (InterfaceRequest.Scroll ScrollRequest.Release))
told Verb.ScrollScroll w = client w (Request.Interface (InterfaceRequest.Scroll (ScrollRequest.Scroll w.bx w.cx)))
told Verb.ScrollScrollDiscrete w = client w (Request.Interface (InterfaceRequest.Scroll (ScrollRequest.ScrollDiscrete w.bi w.ci)))
told Verb.ScrollScrollStop w = client w (Request.Interface (InterfaceRequest.Scroll (ScrollRequest.ScrollStop w.b32 w.c32 w.d32)))
told Verb.ButtonRelease w = client w (Request.Interface (InterfaceRequest.Button ButtonRequest.Release))
told Verb.ButtonButton w = client w (Request.Interface (InterfaceRequest.Button (ButtonRequest.Button w.b32 w.button)))
told Verb.KeyboardRelease w = client w (Request.Interface (InterfaceRequest.Keyboard KeyboardRequest.Release))
told Verb.KeyboardKey w = client w (Request.Interface (InterfaceRequest.Keyboard (KeyboardRequest.Key w.b32 w.key)))
told Verb.TouchscreenRelease w = client w (Request.Interface (InterfaceRequest.Touchscreen TouchscreenRequest.Release))
told Verb.TouchscreenDown w = client w (Request.Interface (InterfaceRequest.Touchscreen (TouchscreenRequest.Down w.b32 w.cx w.dx)))
told Verb.TouchscreenMotion w = client w (Request.Interface (InterfaceRequest.Touchscreen (TouchscreenRequest.Motion w.b32 w.cx w.dx)))
told Verb.TouchscreenUp w = client w (Request.Interface (InterfaceRequest.Touchscreen (TouchscreenRequest.Up w.b32)))
told Verb.TouchscreenCancel w = Asked.Client w.a64 w.b32 (Request.Interface (InterfaceRequest.Touchscreen (TouchscreenRequest.Cancel w.c32)))
told Verb.TextRelease w = client w (Request.Interface (InterfaceRequest.Text TextRequest.Release))
told Verb.TextKeysym w = client w (Request.Interface (InterfaceRequest.Text (TextRequest.Keysym w.b32 w.key)))
told Verb.TextUtf8 w = client w (Request.Interface (InterfaceRequest.Text TextRequest.Utf8))
told Verb.NextRequest w = Asked.NextRequest
told Verb.AddSeat w = Asked.Station (Station.Add (Add.Seat w.b64))
told Verb.AddDevice w = Asked.Station (Station.Add (Add.Device w.a64 w.kind w.d64))
told Verb.RemoveSeat w = Asked.Station (Station.Remove (Remove.Seat w.a64))
told Verb.RemoveDevice w = Asked.Station (Station.Remove (Remove.Device w.a64))
told Verb.Resumed w = Asked.Station (Station.Tell (Tell.Resumed w.a64))
told Verb.Paused w = Asked.Station (Station.Tell (Tell.Paused w.a64))
told Verb.StartEmulating w = Asked.Station (Station.Tell (Tell.StartEmulating w.a64 w.b32))
told Verb.StopEmulating w = Asked.Station (Station.Tell (Tell.StopEmulating w.a64))
told Verb.Frame w = Asked.Station (Station.Tell (Tell.Frame w.a64 w.b64))
told Verb.Disconnected w = Asked.Station (Station.Remove (Remove.All w.reason))
told Verb.LastSerial w = Asked.Station (Station.Ask Ask.LastSerial)
told Verb.HasInterface w = Asked.Station (Station.Ask Ask.HasInterface)
told Verb.InterfaceVersion w = Asked.Station (Station.Ask Ask.InterfaceVersion)
told Verb.HasCapability w = Asked.Station (Station.Ask (Ask.HasCapability w.a64 w.capability))
told Verb.Read w = Asked.Read w.a32
told Verb.Message w = Asked.Message
told Verb.WriteMessage w = Asked.Event (Event.Write w.a32)
told Verb.ReadMessage w = Asked.Event (Event.Read w.a32)

-- WHAT A LINE ASKS FOR
unfoldable pub asked : Verb → Args → Asked
unfolding words_of
asked v w = told v (words_of w)
