-- The calls on a running session, and what of a call is payload. Assumes nothing.
use Rattle.std.specs.Prelude.{ℕ, Bool, true, not, cond, List, eqb, ℤ, Float, length}
use Rattle.std.proofs.Math.Option.{Option}
use Rattle.eiproto.specs.declared.eiproto_enum.ButtonState.{ButtonState}
use Rattle.eiproto.specs.declared.eiproto_enum.DeviceType.{DeviceType}
use Rattle.eiproto.specs.declared.eiproto_enum.DisconnectReason.{DisconnectReason}
use Rattle.eiproto.specs.declared.eiproto_enum.KeyState.{KeyState}
use Rattle.eiproto.specs.declared.event.DeviceCapability.{DeviceCapability}
use Rattle.utf8.specs.Rfc3629.{is_utf8}

-- "Fourteen kinds are timed: the variants for which `time_mut` answers." In the order and with the names of `EisRequest`
pub data Kind : Type 0 where
  PointerMotion PointerMotionAbsolute Button ScrollDelta ScrollStop ScrollCancel ScrollDiscrete KeyboardKey TouchDown TouchUp TouchMotion TouchCancel TextKeysym TextUtf8 : Kind

-- a timed request as the client sends it, with the names of src/eiproto_eis.rs
pub data Input : Type 0 where
  MotionRelative : (x y : Float) → Input
  MotionAbsolute : (x y : Float) → Input
  Button : (button : ℕ) (state : ButtonState) → Input
  Scroll : (x y : Float) → Input
  ScrollDiscrete : (x y : ℤ) → Input
  ScrollStop : (x y is_cancel : ℕ) → Input
  Key : (key : ℕ) (state : KeyState) → Input
  Down : (touchid : ℕ) (x y : Float) → Input
  Motion : (touchid : ℕ) (x y : Float) → Input
  Up : (touchid : ℕ) → Input
  Cancel : (touchid : ℕ) → Input
  Keysym : (keysym : ℕ) (state : KeyState) → Input
  Utf8 : (text : List ℕ) → Input

-- What of a timed request is not payload: "kinds, devices, times, order, touch ids, text lengths". The device and the time come later
pub record Sight : Type 0 where
  pub kind : Kind
  -- 0 for a kind that has none
  pub touch : ℕ
  -- of its text, in bytes; 0 for a kind that has none
  pub size : ℕ
  -- whether its text is UTF-8; true for a kind that has none
  pub valid : Bool

-- a kind with neither touch id nor text
abbrev pub bare : Kind → Sight
bare k = record { kind = k; touch = 0; size = 0; valid = true }

abbrev pub touching : Kind → ℕ → Sight
touching k t = record { kind = k; touch = t; size = 0; valid = true }

-- "ScrollStop with `is_cancel` not 0 becomes ScrollCancel"
unfoldable pub sight : Input → Sight
unfolding is_utf8
sight (Input.MotionRelative x y) = bare Kind.PointerMotion
sight (Input.MotionAbsolute x y) = bare Kind.PointerMotionAbsolute
sight (Input.Button button state) = bare Kind.Button
sight (Input.Scroll x y) = bare Kind.ScrollDelta
sight (Input.ScrollDiscrete x y) = bare Kind.ScrollDiscrete
sight (Input.ScrollStop x y is_cancel) = bare (cond (eqb is_cancel 0) Kind.ScrollStop Kind.ScrollCancel)
sight (Input.Key key state) = bare Kind.KeyboardKey
sight (Input.Down touchid x y) = touching Kind.TouchDown touchid
sight (Input.Motion touchid x y) = touching Kind.TouchMotion touchid
sight (Input.Up touchid) = touching Kind.TouchUp touchid
sight (Input.Cancel touchid) = touching Kind.TouchCancel touchid
sight (Input.Keysym keysym state) = bare Kind.TextKeysym
sight (Input.Utf8 text) = record { kind = Kind.TextUtf8; touch = 0; size = length text; valid = is_utf8 text }

-- What is payload, as it is delivered
pub data Load : Type 0 where
  None : Load
  Point : (x y : Float) → Load
  ButtonPress : (button : ℕ) (state : ButtonState) → Load
  KeyPress : (key : ℕ) (state : KeyState) → Load
  Discrete : (x y : ℤ) → Load
  Axes : (x y : Bool) → Load
  Text : List ℕ → Load

-- "`x` and `y` become true when not 0"; all else is delivered as it came
unfoldable pub load : Input → Load
load (Input.MotionRelative x y) = Load.Point x y
load (Input.MotionAbsolute x y) = Load.Point x y
load (Input.Button button state) = Load.ButtonPress button state
load (Input.Scroll x y) = Load.Point x y
load (Input.ScrollDiscrete x y) = Load.Discrete x y
load (Input.ScrollStop x y is_cancel) = Load.Axes (not (eqb x 0)) (not (eqb y 0))
load (Input.Key key state) = Load.KeyPress key state
load (Input.Down touchid x y) = Load.Point x y
load (Input.Motion touchid x y) = Load.Point x y
load (Input.Up touchid) = Load.None
load (Input.Cancel touchid) = Load.None
load (Input.Keysym keysym state) = Load.KeyPress keysym state
load (Input.Utf8 text) = Load.Text text

-- the handshake's requests, which a running session refuses
pub data HandshakeRequest : Type 0 where
  HandshakeVersion : (version : ℕ) → HandshakeRequest
  Finish : HandshakeRequest
  ContextType : (context_type : ℕ) → HandshakeRequest
  Name : (name : List ℕ) → HandshakeRequest
  InterfaceVersion : (name : List ℕ) (version : ℕ) → HandshakeRequest

-- The calls that carry no payload: the client's untimed requests, `next_request`, then the station's calls
pub data Plain : Type 0 where
  handshake : HandshakeRequest → Plain
  sync : (callback version : ℕ) → Plain
  -- the same from the protocol's bytes, whose reader makes the callback's object
  sync_message : (callback version : ℕ) → Plain
  disconnect : Plain
  pingpong_done : Plain
  seat_release : (seat : ℕ) → Plain
  bind : (seat capabilities : ℕ) → Plain
  request_device : (seat capabilities : ℕ) → Plain
  device_release : (device : ℕ) → Plain
  device_start_emulating : (device last_serial sequence : ℕ) → Plain
  device_stop_emulating : (device last_serial : ℕ) → Plain
  device_frame : (device last_serial timestamp : ℕ) → Plain
  device_ready : (device : ℕ) → Plain
  interface_release : (capability : DeviceCapability) (interface : ℕ) → Plain
  next_request : Plain
  add_seat : (name : Option (List ℕ)) (capabilities : ℕ) → Plain
  add_device : (seat : ℕ) (name : Option (List ℕ)) (type : DeviceType) (capabilities : ℕ) → Plain
  remove_seat : (seat : ℕ) → Plain
  remove_device : (device : ℕ) → Plain
  resumed : (device : ℕ) → Plain
  paused : (device : ℕ) → Plain
  start_emulating : (device sequence : ℕ) → Plain
  stop_emulating : (device : ℕ) → Plain
  frame : (device time : ℕ) → Plain
  disconnected : (reason : DisconnectReason) (explanation : Option (List ℕ)) → Plain
  last_serial : Plain
  has_interface : (name : List ℕ) → Plain
  interface_version : (name : List ℕ) → Plain
  has_capability : (device : ℕ) (capability : DeviceCapability) → Plain

-- A call on a running session. `A` is what a timed request carries: `Input` as it comes, `Sight` with the payload left out
pub data Call (A : Type 0) : Type 0 where
  timed : (interface version : ℕ) → A → Call A
  plain : Plain → Call A

unfoldable pub map_call : {A B : Type 0} → (A → B) → Call A → Call B
map_call f (Call.timed i v a) = Call.timed i v (f a)
map_call f (Call.plain c) = Call.plain c

-- the payload of a call; none but a timed request has any
unfoldable pub load_of : Call Input → Load
unfolding load
load_of (Call.timed i v a) = load a
load_of (Call.plain c) = Load.None

-- a call, the clock value that comes with it, and the length of the lent `out`, or of the lent text buffer for `next_request`
pub record Turn : Type 0 where
  pub call : Call Input
  pub now : ℕ
  pub room : ℕ

-- the same with the payload set apart from all that a decision may see
pub record Split (P : Type 0) : Type 0 where
  pub call : Call Sight
  pub load : P
  pub now : ℕ
  pub room : ℕ

unfoldable pub split : Turn → Split Load
unfolding map_call sight load_of
split t = record { call = map_call sight t.call; load = load_of t.call; now = t.now; room = t.room }
