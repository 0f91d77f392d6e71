-- The call of the model that a client's request is. Assumes nothing.
use Rattle.std.specs.Prelude.{ℕ, List}
use Rattle.eiproto.specs.declared.event.DeviceCapability.{DeviceCapability}
use Rattle.model.specs.Call as model
use Rattle.model.specs.Call.{Input, Plain, Call}
use Rattle.requests.specs.declared.eis.HandshakeRequest.{HandshakeRequest}
use Rattle.requests.specs.declared.eis.ConnectionRequest.{ConnectionRequest}
use Rattle.requests.specs.declared.eis.SeatRequest.{SeatRequest}
use Rattle.requests.specs.declared.eis.DeviceRequest.{DeviceRequest}
use Rattle.requests.specs.declared.eis.PointerRequest.{PointerRequest}
use Rattle.requests.specs.declared.eis.PointerAbsoluteRequest.{PointerAbsoluteRequest}
use Rattle.requests.specs.declared.eis.ScrollRequest.{ScrollRequest}
use Rattle.requests.specs.declared.eis.ButtonRequest.{ButtonRequest}
use Rattle.requests.specs.declared.eis.KeyboardRequest.{KeyboardRequest}
use Rattle.requests.specs.declared.eis.TouchscreenRequest.{TouchscreenRequest}
use Rattle.requests.specs.declared.eis.TextRequest.{TextRequest}
use Rattle.requests.specs.declared.eis.InterfaceRequest.{InterfaceRequest}
use Rattle.requests.specs.declared.eis.Request.{Request}

-- a Release of the interface for a capability
abbrev pub release : DeviceCapability → (interface : ℕ) → Call Input
release cap i = Call.plain (Plain.interface_release cap i)

abbrev pub handshake_call : HandshakeRequest → (text : List ℕ) → Call Input
handshake_call (HandshakeRequest.HandshakeVersion v) text = Call.plain (Plain.handshake (model.HandshakeRequest.HandshakeVersion v))
handshake_call HandshakeRequest.Finish text = Call.plain (Plain.handshake model.HandshakeRequest.Finish)
handshake_call (HandshakeRequest.ContextType n) text = Call.plain (Plain.handshake (model.HandshakeRequest.ContextType n))
handshake_call HandshakeRequest.Name text = Call.plain (Plain.handshake (model.HandshakeRequest.Name text))
handshake_call (HandshakeRequest.InterfaceVersion v) text = Call.plain (Plain.handshake (model.HandshakeRequest.InterfaceVersion text v))

abbrev pub connection_call : ConnectionRequest → Call Input
connection_call (ConnectionRequest.Sync callback version) = Call.plain (Plain.sync callback version)
connection_call ConnectionRequest.Disconnect = Call.plain Plain.disconnect

abbrev pub seat_call : SeatRequest → (seat : ℕ) → Call Input
seat_call SeatRequest.Release s = Call.plain (Plain.seat_release s)
seat_call (SeatRequest.Bind caps) s = Call.plain (Plain.bind s caps)
seat_call (SeatRequest.RequestDevice caps) s = Call.plain (Plain.request_device s caps)

abbrev pub device_call : DeviceRequest → (device : ℕ) → Call Input
device_call DeviceRequest.Release d = Call.plain (Plain.device_release d)
device_call (DeviceRequest.StartEmulating serial sequence) d = Call.plain (Plain.device_start_emulating d serial sequence)
device_call (DeviceRequest.StopEmulating serial) d = Call.plain (Plain.device_stop_emulating d serial)
device_call (DeviceRequest.Frame serial timestamp) d = Call.plain (Plain.device_frame d serial timestamp)
device_call DeviceRequest.Ready d = Call.plain (Plain.device_ready d)

abbrev pub pointer_call : PointerRequest → (interface version : ℕ) → Call Input
pointer_call PointerRequest.Release i v = release DeviceCapability.Pointer i
pointer_call (PointerRequest.MotionRelative x y) i v = Call.timed i v (Input.MotionRelative x y)

abbrev pub pointer_absolute_call : PointerAbsoluteRequest → (interface version : ℕ) → Call Input
pointer_absolute_call PointerAbsoluteRequest.Release i v = release DeviceCapability.PointerAbsolute i
pointer_absolute_call (PointerAbsoluteRequest.MotionAbsolute x y) i v = Call.timed i v (Input.MotionAbsolute x y)

abbrev pub scroll_call : ScrollRequest → (interface version : ℕ) → Call Input
scroll_call ScrollRequest.Release i v = release DeviceCapability.Scroll i
scroll_call (ScrollRequest.Scroll x y) i v = Call.timed i v (Input.Scroll x y)
scroll_call (ScrollRequest.ScrollDiscrete x y) i v = Call.timed i v (Input.ScrollDiscrete x y)
scroll_call (ScrollRequest.ScrollStop x y cancel) i v = Call.timed i v (Input.ScrollStop x y cancel)

abbrev pub button_call : ButtonRequest → (interface version : ℕ) → Call Input
button_call ButtonRequest.Release i v = release DeviceCapability.Button i
button_call (ButtonRequest.Button button state) i v = Call.timed i v (Input.Button button state)

abbrev pub keyboard_call : KeyboardRequest → (interface version : ℕ) → Call Input
keyboard_call KeyboardRequest.Release i v = release DeviceCapability.Keyboard i
keyboard_call (KeyboardRequest.Key key state) i v = Call.timed i v (Input.Key key state)

abbrev pub touchscreen_call : TouchscreenRequest → (interface version : ℕ) → Call Input
touchscreen_call TouchscreenRequest.Release i v = release DeviceCapability.Touch i
touchscreen_call (TouchscreenRequest.Down touch x y) i v = Call.timed i v (Input.Down touch x y)
touchscreen_call (TouchscreenRequest.Motion touch x y) i v = Call.timed i v (Input.Motion touch x y)
touchscreen_call (TouchscreenRequest.Up touch) i v = Call.timed i v (Input.Up touch)
touchscreen_call (TouchscreenRequest.Cancel touch) i v = Call.timed i v (Input.Cancel touch)

abbrev pub text_call : TextRequest → (interface version : ℕ) → (text : List ℕ) → Call Input
text_call TextRequest.Release i v text = release DeviceCapability.Text i
text_call (TextRequest.Keysym keysym state) i v text = Call.timed i v (Input.Keysym keysym state)
text_call TextRequest.Utf8 i v text = Call.timed i v (Input.Utf8 text)

-- a request on the interface of this id and version, with the text lent beside it
abbrev pub interface_call : InterfaceRequest → (interface version : ℕ) → (text : List ℕ) → Call Input
interface_call (InterfaceRequest.Pointer r) i v text = pointer_call r i v
interface_call (InterfaceRequest.PointerAbsolute r) i v text = pointer_absolute_call r i v
interface_call (InterfaceRequest.Scroll r) i v text = scroll_call r i v
interface_call (InterfaceRequest.Button r) i v text = button_call r i v
interface_call (InterfaceRequest.Keyboard r) i v text = keyboard_call r i v
interface_call (InterfaceRequest.Touchscreen r) i v text = touchscreen_call r i v
interface_call (InterfaceRequest.Text r) i v text = text_call r i v text

-- the same on any object
abbrev pub call_of : Request → (object version : ℕ) → (text : List ℕ) → Call Input
call_of (Request.Handshake r) o v text = handshake_call r text
call_of (Request.Connection r) o v text = connection_call r
call_of Request.PingpongDone o v text = Call.plain Plain.pingpong_done
call_of (Request.Seat r) o v text = seat_call r o
call_of (Request.Device r) o v text = device_call r o
call_of (Request.Interface r) o v text = interface_call r o v text
