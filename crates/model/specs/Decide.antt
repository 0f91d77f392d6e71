-- What the source does at each call, with no limits and no payload seen: `handle_request`, `next_request` and the methods of `Connection`,
-- `Seat` and `Device` of src/request.rs, under the names that they have there. Assumes nothing.
use Rattle.std.specs.Prelude.{ℕ, zero, suc, ◌+◌, ◌-◌, ◌^◌, Bool, true, false, ◌&&◌, ◌||◌, cond, List, [], ◌∷◌, ◌++◌, map, leb, ltb, eqb, length, get_or}
use Rattle.std.proofs.Math.Option.{Option, none, some}
use Rattle.eiproto.specs.Enum.{device_type_number, disconnect_reason_number}
use Rattle.eiproto.specs.Bits.{bits_of, mask_from, common, contains}
use Rattle.eiproto.specs.Capability.{capability_index, interface_of_bit, unknown_bits}
use Rattle.eiproto.specs.Interface.{ei_callback, ei_seat, ei_device, ei_touchscreen, lookup}
use Rattle.eiproto.specs.declared.event.DeviceCapability.{DeviceCapability}
use Rattle.utf8.specs.Rfc3629.{is_utf8}
use Rattle.wire.specs.declared.event.Event.{Event}
use Rattle.touches.specs.Touches.{member}
use Rattle.model.specs.Call.{Kind, Sight, HandshakeRequest, Plain, Call}
use Rattle.model.specs.Session.{Untimed, Queued, Interface, Seat, Device, Connection, View}
use Rattle.model.specs.Edit.{Amend, Edit, next_serial, raised, new_interfaces}
use Rattle.model.specs.Plan.{Sent, on, Result, Plan, answer, refuse, ignore, edit, send}

-- ---- texts, versions, tables

-- "10 BAD_UTF8: a lent text that is not UTF-8"
unfoldable pub check_utf8 : List ℕ → Plan → Plan
unfolding is_utf8 refuse
check_utf8 text plan = cond (is_utf8 text) plan (refuse 10)

-- "11 NAME_LONG: a client, seat or device name, or an explanation, above 254 bytes"
unfoldable pub check_name : List ℕ → Plan → Plan
unfolding check_utf8 refuse
check_name text plan = check_utf8 text (cond (ltb 254 (length text)) (refuse 11) plan)

unfoldable pub check_optional : Option (List ℕ) → Plan → Plan
unfolding check_name
check_optional none plan = plan
check_optional (some text) plan = check_name text plan

-- "13 BAD_CAPABILITIES: `add_seat` or `add_device` with a bit above bit 6"
unfoldable pub check_capabilities : ℕ → Plan → Plan
unfolding refuse
check_capabilities caps plan = cond (unknown_bits caps) (refuse 13) plan

-- the negotiated version of an interface, by its number from 1
unfoldable pub version : Connection → ℕ → Option ℕ
version c i = get_or c.versions (i - 1) none

unfoldable pub is_some : Option ℕ → Bool
is_some none = false
is_some (some v) = true

-- the mask of the negotiated capabilities: those whose interface has a version, which may be 0
unfoldable pub negotiated_capabilities : Connection → ℕ
unfolding mask_from is_some version interface_of_bit
negotiated_capabilities c = mask_from 7 0 (λ b. is_some (version c (interface_of_bit b)))

-- "Seats and devices without a negotiated version state 1 themselves."
unfoldable pub stated : Option ℕ → ℕ
stated none = 1
stated (some v) = v

unfoldable pub seat_version : Connection → ℕ
unfolding stated version
seat_version c = stated (version c ei_seat)

unfoldable pub device_version : Connection → ℕ
unfolding stated version
device_version c = stated (version c ei_device)

-- `negotiated_interfaces.get(name)`
unfoldable pub negotiated : Connection → Option ℕ → Option ℕ
unfolding version
negotiated c none = none
negotiated c (some i) = version c i

pub record Found : Type 0 where
  pub slot : ℕ
  pub device : Device (Unit {0})

unfoldable pub later : Option Found → Option Found
later none = none
later (some f) = some (record { slot = suc f.slot; device = f.device })

-- the first device of which a test holds
unfoldable pub find : (Device (Unit {0}) → Bool) → List (Device (Unit {0})) → Option Found
unfolding later
find test [] = none
find test (d ∷ ds) = cond (test d) (some (record { slot = zero; device = d })) (later (find test ds))

unfoldable pub device_of : ℕ → View → Option Found
unfolding find
device_of id v = find (λ d. eqb d.id id) v.devices

-- the device lists an interface with this id for this capability: "an id of another kind is unknown"
unfoldable pub lists_as : (capability id : ℕ) → List Interface → Bool
lists_as cap id [] = false
lists_as cap id (i ∷ is) = (eqb i.capability cap && eqb i.id id) || lists_as cap id is

-- `device_for_interface`
unfoldable pub device_for_interface : (capability id : ℕ) → View → Option Found
unfolding find lists_as
device_for_interface cap id v = find (λ d. lists_as cap id d.interfaces) v.devices

unfoldable pub seat_in : ℕ → List Seat → Option Seat
seat_in id [] = none
seat_in id (s ∷ ss) = cond (eqb s.id id) (some s) (seat_in id ss)

unfoldable pub seat_of : ℕ → View → Option Seat
unfolding seat_in
seat_of id v = seat_in id v.connection.seats

-- what is found, or a given plan where nothing is
unfoldable pub on_found : {A : Type 0} → Option A → Plan → (A → Plan) → Plan
on_found none else then = else
on_found (some x) else then = then x

-- one event that takes the next serial
unfoldable pub send_next : View → ℕ → (ℕ → Event) → List Edit → Plan
unfolding send next_serial
send_next v object event edits = send (on object (event (next_serial v.connection.last_serial)) ∷ []) (Edit.raise 1 ∷ edits)

-- ---- the converter's requests

-- the capability of the interface that a kind comes in by, and what its handler asks besides a known interface
pub data Rule : Type 0 where
  -- `queue_request` and nothing else
  queued : Rule
  down : Rule
  motion : Rule
  up : Rule
  cancel : Rule
  utf8 : Rule

pub record Handler : Type 0 where
  pub capability : DeviceCapability
  pub rule : Rule

abbrev pub handled_by : DeviceCapability → Rule → Handler
handled_by c r = record { capability = c; rule = r }

unfoldable pub handler : Kind → Handler
handler Kind.PointerMotion = handled_by DeviceCapability.Pointer Rule.queued
handler Kind.PointerMotionAbsolute = handled_by DeviceCapability.PointerAbsolute Rule.queued
handler Kind.Button = handled_by DeviceCapability.Button Rule.queued
handler Kind.ScrollDelta = handled_by DeviceCapability.Scroll Rule.queued
handler Kind.ScrollStop = handled_by DeviceCapability.Scroll Rule.queued
handler Kind.ScrollCancel = handled_by DeviceCapability.Scroll Rule.queued
handler Kind.ScrollDiscrete = handled_by DeviceCapability.Scroll Rule.queued
handler Kind.KeyboardKey = handled_by DeviceCapability.Keyboard Rule.queued
handler Kind.TouchDown = handled_by DeviceCapability.Touch Rule.down
handler Kind.TouchUp = handled_by DeviceCapability.Touch Rule.up
handler Kind.TouchMotion = handled_by DeviceCapability.Touch Rule.motion
handler Kind.TouchCancel = handled_by DeviceCapability.Touch Rule.cancel
handler Kind.TextKeysym = handled_by DeviceCapability.Text Rule.queued
handler Kind.TextUtf8 = handled_by DeviceCapability.Text Rule.utf8

-- "They wait in their device's pending list." Before it a change of the held touches, for some
unfoldable pub pend_after : List Amend → Found → Sight → Plan
unfolding edit
pend_after amends f s = edit (map (λ a. Edit.amend f.slot a) amends ++ (Edit.pend f.slot s ∷ []))

-- "Touch Motion, Up and Cancel for an id not held: accepted, nothing."
unfoldable pub if_held : Found → Sight → List Amend → Plan
unfolding member pend_after ignore
if_held f s amends = cond (member s.touch f.device.down_touch_ids) (pend_after amends f s) ignore

-- a timed request on a known interface, as handle_keyboard_request and its like have it
unfoldable pub handle : Rule → (version : ℕ) → Found → Sight → Plan
unfolding pend_after if_held refuse answer member
handle Rule.queued v f s = pend_after [] f s
-- "4 TOO_MANY_TOUCHES: Down while 16 ids are held, even for a held id. 5 DUPLICATED_TOUCH_DOWN: Down for a held id, fewer than 16 held."
handle Rule.down v f s =
    cond (leb 16 (length f.device.down_touch_ids)) (refuse 4)
    (cond (member s.touch f.device.down_touch_ids) (refuse 5) (pend_after (Amend.touch_down s.touch ∷ []) f s))
handle Rule.motion v f s = if_held f s []
handle Rule.up v f s = if_held f s (Amend.touch_up s.touch ∷ [])
-- "touch Cancel on a known touchscreen, the request's version below 2, even for an id not held"
handle Rule.cancel v f s = cond (ltb v 2) (answer (Result.refused_version ei_touchscreen v)) (if_held f s (Amend.touch_up s.touch ∷ []))
-- "6 INVALID_TEXT_LENGTH: Utf8 on a known text interface, 0 bytes or above 254"
handle Rule.utf8 v f s = cond (eqb s.size 0) (refuse 6) (cond (ltb 254 s.size) (refuse 6) (pend_after [] f s))

-- "A request on an unknown .. interface .. is accepted and does nothing."
unfoldable pub handle_timed : View → (interface version : ℕ) → Sight → Plan
unfolding refuse ignore on_found device_for_interface handler handle
handle_timed v i ver s =
    cond s.valid
    (on_found (device_for_interface (capability_index (handler s.kind).capability) i v) ignore (λ f. handle (handler s.kind).rule ver f s))
    (refuse 10)

-- "1 UNEXPECTED_HANDSHAKE: a handshake request in a running session", after what its text may meet
unfoldable pub handle_handshake : HandshakeRequest → Plan
unfolding check_utf8 check_name refuse
handle_handshake (HandshakeRequest.HandshakeVersion v) = refuse 1
handle_handshake HandshakeRequest.Finish = refuse 1
handle_handshake (HandshakeRequest.ContextType t) = refuse 1
handle_handshake (HandshakeRequest.Name t) = check_name t (refuse 1)
handle_handshake (HandshakeRequest.InterfaceVersion t v) = check_utf8 t (refuse 1)

-- "Sync whose callback version is not 1" is 2; "Sync sends callback done with 0."
unfoldable pub handle_sync : (callback version : ℕ) → Plan
unfolding send answer
handle_sync callback ver = cond (eqb ver 1) (send (on callback (Event.CallbackDone 0) ∷ []) []) (answer (Result.refused_version ei_callback ver))

-- "25 INVALID_ID, exactly when `new_peer_object` refuses": an id that is not above the last that the client gave, or one of the server's
unfoldable pub is_peer_id : View → ℕ → Bool
is_peer_id v id = ltb v.connection.last_peer_id id && ltb id 0xff00_0000_0000_0000

-- Sync as a message: its object is made where the id is the client's to give, and "A callback whose version was refused is not kept."
unfoldable pub handle_sync_message : View → (callback version : ℕ) → Plan
unfolding is_peer_id refuse send answer
handle_sync_message v callback ver =
    cond (is_peer_id v callback)
    (cond (eqb ver 1) (send (on callback (Event.CallbackDone 0) ∷ []) (Edit.peer_object callback ∷ [])) (answer (Result.refused_version ei_callback ver)))
    (refuse 25)

-- Bind and RequestDevice: "3 INVALID_CAPABILITIES: .. on a known seat with a bit above bit 6, or a bit not in the seat's set"
unfoldable pub handle_seat : View → (seat capabilities : ℕ) → Untimed → Plan
unfolding on_found seat_of contains edit refuse ignore
handle_seat v id caps request =
    on_found (seat_of id v) ignore λ s.
    cond (unknown_bits caps) (refuse 3) (cond (contains s.capabilities caps) (edit (Edit.queue request ∷ [])) (refuse 3))

-- "Ready, StartEmulating, StopEmulating and device Release: if the device has pending requests, a Frame with time `now` and the session's
-- last serial goes first, as above; then the request."
unfoldable pub handle_device : View → (now : ℕ) → (device : ℕ) → Untimed → Plan
unfolding on_found device_of edit ignore
handle_device v now id request =
    on_found (device_of id v) ignore λ f.
    edit (Edit.frame f.slot v.connection.last_serial now ∷ Edit.queue request ∷ [])

-- a client's Frame
unfoldable pub handle_frame : View → (device last_serial timestamp : ℕ) → Plan
unfolding on_found device_of edit ignore
handle_frame v id serial time = on_found (device_of id v) ignore λ f. edit (Edit.frame f.slot serial time ∷ [])

-- "A released interface now leaves its device's list, so `has_capability` turns false, and removing the device passes over it."
unfoldable pub handle_release : View → (capability interface : ℕ) → Plan
unfolding on_found device_for_interface send_next ignore
handle_release v cap id =
    on_found (device_for_interface cap id v) ignore λ f.
    send_next v id (λ s. Event.Destroyed s) (Edit.amend f.slot (Amend.unlist cap) ∷ [])

-- "`next_request` gives the oldest queued request, or NONE when none is queued"
unfoldable pub next_of : List (Queued (Unit {0})) → Plan
unfolding answer
next_of [] = answer Result.none
next_of (r ∷ rs) = record { outcome = Result.given; events = []; edits = Edit.deliver ∷ [] }

-- ---- the station's calls

unfoldable pub name_events : ℕ → Option (List ℕ) → List Sent
name_events object none = []
name_events object (some text) = record { object = object; event = Event.Name; text = text } ∷ []

unfoldable pub capability_events : (seat : ℕ) → List ℕ → List Sent
unfolding interface_of_bit
capability_events seat [] = []
capability_events seat (b ∷ bs) = on seat (Event.Capability (2 ^ b) (interface_of_bit b)) ∷ capability_events seat bs

-- a new seat: itself on the connection, then on it its name, its capabilities, done
abbrev pub seat_events : Connection → (id version : ℕ) → Option (List ℕ) → (capabilities : ℕ) → List Sent
seat_events c id version name caps =
    on c.id (Event.Seat id version) ∷ name_events id name ++ (capability_events id (bits_of caps) ++ (on id Event.Done ∷ []))

abbrev pub seat_plan : (id capabilities : ℕ) → List Sent → Plan
seat_plan id caps events = record { outcome = Result.seat id; events = events; edits = Edit.add_seat caps ∷ [] }

-- "A seat's set is cut down to the negotiated capabilities"
abbrev pub seat_added : View → Option (List ℕ) → (capabilities : ℕ) → Plan
seat_added v name caps =
    let c = v.connection in
    let set = common caps (negotiated_capabilities c) in
    seat_plan c.next_id set (seat_events c c.next_id (seat_version c) name set)

unfoldable pub add_seat : View → Option (List ℕ) → (capabilities : ℕ) → Plan
unfolding check_optional check_capabilities name_events capability_events bits_of common negotiated_capabilities seat_version
add_seat v name caps = check_optional name (check_capabilities caps (seat_added v name caps))

-- an interface with the version that was negotiated for it; none without one
unfoldable pub interface_event : (device : ℕ) → Interface → (version : Option ℕ) → List Sent
unfolding interface_of_bit
interface_event device i none = []
interface_event device i (some v) = on device (Event.Interface i.id (interface_of_bit i.capability) v) ∷ []

unfoldable pub interface_events : Connection → (device : ℕ) → List Interface → List Sent
unfolding interface_event version interface_of_bit
interface_events c device [] = []
interface_events c device (i ∷ is) = interface_event device i (version c (interface_of_bit i.capability)) ++ interface_events c device is

-- a new device: itself on its seat, then on it its name, its type, its interfaces, done
abbrev pub device_events : Connection → (seat id version : ℕ) → Option (List ℕ) → (type capabilities : ℕ) → List Sent
device_events c seat id version name type caps =
    on seat (Event.Device id version)
    ∷ name_events id name
    ++ (on id (Event.DeviceType type) ∷ interface_events c id (new_interfaces id caps) ++ (on id Event.Done ∷ []))

abbrev pub device_plan : (id seat capabilities : ℕ) → List Sent → Plan
device_plan id seat caps events = record { outcome = Result.device id; events = events; edits = Edit.add_device seat caps ∷ [] }

-- "and a device gets no interface for one not negotiated", whatever its seat's set says
abbrev pub device_added : View → (seat : ℕ) → Option (List ℕ) → (type capabilities : ℕ) → Plan
device_added v seat name type caps =
    let c = v.connection in
    let made = common caps (negotiated_capabilities c) in
    device_plan c.next_id seat made (device_events c seat c.next_id (device_version c) name type made)

-- "Capabilities that were not advertised on the seat will be ignored." (`Seat::add_device`)
unfoldable pub add_device : View → (seat : ℕ) → Option (List ℕ) → (type capabilities : ℕ) → Plan
unfolding check_optional check_capabilities on_found seat_of refuse common negotiated_capabilities name_events interface_events new_interfaces device_version
add_device v seat name type caps =
    check_optional name
    (check_capabilities caps (on_found (seat_of seat v) (refuse 12) λ s. device_added v seat name type (common caps s.capabilities)))

-- destroyed for each object in turn, with the serials that follow the last one
unfoldable pub destroyed : (last_serial : ℕ) → List ℕ → List Sent
unfolding next_serial
destroyed s [] = []
destroyed s (o ∷ os) = on o (Event.Destroyed (next_serial s)) ∷ destroyed (next_serial s) os

-- the objects that go with a device: its interfaces by capability bit, then itself
unfoldable pub objects_of : Device (Unit {0}) → List ℕ
objects_of d = map (λ i. i.id) d.interfaces ++ (d.id ∷ [])

-- those that go with a seat: its devices in the order of the table, then itself
unfoldable pub devices_objects : (seat : ℕ) → List (Device (Unit {0})) → List ℕ
unfolding objects_of
devices_objects seat [] = []
devices_objects seat (d ∷ ds) = cond (eqb d.seat seat) (objects_of d) [] ++ devices_objects seat ds

unfoldable pub seat_objects : (seat : ℕ) → List (Device (Unit {0})) → List ℕ
unfolding devices_objects
seat_objects seat ds = devices_objects seat ds ++ (seat ∷ [])

unfoldable pub seats_objects : List Seat → List (Device (Unit {0})) → List ℕ
unfolding seat_objects
seats_objects [] ds = []
seats_objects (s ∷ ss) ds = seat_objects s.id ds ++ seats_objects ss ds

unfoldable pub send_destroyed : View → List ℕ → List Edit → Plan
unfolding send destroyed
send_destroyed v os edits = send (destroyed v.connection.last_serial os) (Edit.raise (length os) ∷ edits)

-- "`Device::remove` drops pending requests; queued ones stay."
unfoldable pub remove_device : View → ℕ → Plan
unfolding on_found device_of refuse send_destroyed objects_of
remove_device v id = on_found (device_of id v) (refuse 12) λ f. send_destroyed v (objects_of f.device) (Edit.remove_device f.slot ∷ [])

-- a seat goes, and its devices before it
abbrev pub retire_seat : View → (seat : ℕ) → Plan
retire_seat v id = send_destroyed v (seat_objects id v.devices) (Edit.remove_devices_of id ∷ Edit.remove_seat id ∷ [])

unfoldable pub remove_seat : View → ℕ → Plan
unfolding on_found seat_of refuse send_destroyed seat_objects
remove_seat v id = on_found (seat_of id v) (refuse 12) λ s. retire_seat v id

-- "A released seat takes its devices with it in ascending id, each destroyed as by `Device::remove`, then sends its own event and leaves the
-- table. Seat Release for an unknown seat sends nothing."
unfoldable pub handle_seat_release : View → (seat : ℕ) → Plan
unfolding on_found seat_of ignore send_destroyed seat_objects
handle_seat_release v id = on_found (seat_of id v) ignore λ s. retire_seat v id

unfoldable pub remove_seats : List Seat → List Edit
remove_seats [] = []
remove_seats (s ∷ ss) = Edit.remove_devices_of s.id ∷ Edit.remove_seat s.id ∷ remove_seats ss

unfoldable pub explanation_text : Option (List ℕ) → List ℕ
explanation_text none = []
explanation_text (some text) = text

unfoldable pub explained : Option (List ℕ) → Bool
explained none = false
explained (some text) = true

-- every seat goes, then disconnected: "`disconnected` uses the last serial unraised"
abbrev pub farewell : View → (reason : ℕ) → Option (List ℕ) → List Sent
farewell v reason explanation =
    let c = v.connection in
    let gone = seats_objects c.seats v.devices in
    let last = raised (length gone) c.last_serial in
    destroyed c.last_serial gone
    ++ (record { object = c.id; event = Event.Disconnected last reason (explained explanation); text = explanation_text explanation } ∷ [])

unfoldable pub disconnected : View → (reason : ℕ) → Option (List ℕ) → Plan
unfolding check_optional send destroyed seats_objects raised explained explanation_text remove_seats
disconnected v reason explanation =
    let c = v.connection in
    check_optional explanation
    (send (farewell v reason explanation) (Edit.raise (length (seats_objects c.seats v.devices)) ∷ Edit.end_connection ∷ remove_seats c.seats))

-- one event on a known device, with the next serial
unfoldable pub notify : View → (device : ℕ) → (ℕ → Event) → (ℕ → List Edit) → Plan
unfolding on_found device_of refuse send_next
notify v id event edits = on_found (device_of id v) (refuse 12) λ f. send_next v id event (edits f.slot)

unfoldable pub version_answer : Option ℕ → Result
version_answer none = Result.none
version_answer (some v) = Result.value v

unfoldable pub lists : ℕ → List Interface → Bool
lists cap [] = false
lists cap (i ∷ is) = eqb i.capability cap || lists cap is

-- ---- every call

unfoldable pub decide_plain : View → (now : ℕ) → Plain → Plan
unfolding handle_handshake handle_sync handle_sync_message handle_seat handle_device handle_frame handle_release next_of add_seat add_device remove_device remove_seat handle_seat_release disconnected notify edit ignore refuse answer check_utf8 is_some negotiated lookup version_answer lists on_found device_of
decide_plain v now (Plain.handshake r) = handle_handshake r
decide_plain v now (Plain.sync callback ver) = handle_sync callback ver
decide_plain v now (Plain.sync_message callback ver) = handle_sync_message v callback ver
decide_plain v now Plain.disconnect = edit (Edit.queue Untimed.Disconnect ∷ [])
-- "Pingpong Done does nothing."
decide_plain v now Plain.pingpong_done = ignore
decide_plain v now (Plain.seat_release seat) = handle_seat_release v seat
decide_plain v now (Plain.bind seat caps) = handle_seat v seat caps (Untimed.Bind seat caps)
decide_plain v now (Plain.request_device seat caps) = handle_seat v seat caps (Untimed.RequestDevice seat caps)
decide_plain v now (Plain.device_release d) = handle_device v now d (Untimed.DeviceClosed d)
decide_plain v now (Plain.device_start_emulating d s q) = handle_device v now d (Untimed.DeviceStartEmulating d s q)
decide_plain v now (Plain.device_stop_emulating d s) = handle_device v now d (Untimed.DeviceStopEmulating d s)
decide_plain v now (Plain.device_frame d s t) = handle_frame v d s t
decide_plain v now (Plain.device_ready d) = handle_device v now d (Untimed.Ready d)
decide_plain v now (Plain.interface_release cap i) = handle_release v (capability_index cap) i
decide_plain v now Plain.next_request = next_of v.requests
decide_plain v now (Plain.add_seat name caps) = add_seat v name caps
decide_plain v now (Plain.add_device seat name type caps) = add_device v seat name (device_type_number type) caps
decide_plain v now (Plain.remove_seat seat) = remove_seat v seat
decide_plain v now (Plain.remove_device d) = remove_device v d
decide_plain v now (Plain.resumed d) = notify v d (λ s. Event.Resumed s) (λ k. [])
-- "`paused` empties the held touches, not the pending list."
decide_plain v now (Plain.paused d) = notify v d (λ s. Event.Paused s) (λ k. Edit.amend k Amend.clear_touches ∷ [])
decide_plain v now (Plain.start_emulating d q) = notify v d (λ s. Event.StartEmulating s q) (λ k. [])
decide_plain v now (Plain.stop_emulating d) = notify v d (λ s. Event.StopEmulating s) (λ k. [])
decide_plain v now (Plain.frame d t) = notify v d (λ s. Event.Frame s t) (λ k. [])
decide_plain v now (Plain.disconnected reason explanation) = disconnected v (disconnect_reason_number reason) explanation
decide_plain v now Plain.last_serial = answer (Result.value v.connection.last_serial)
decide_plain v now (Plain.has_interface name) = check_utf8 name (answer (Result.truth (is_some (negotiated v.connection (lookup name)))))
decide_plain v now (Plain.interface_version name) = check_utf8 name (answer (version_answer (negotiated v.connection (lookup name))))
decide_plain v now (Plain.has_capability d cap) =
    on_found (device_of d v) (refuse 12) λ f. answer (Result.truth (lists (capability_index cap) f.device.interfaces))

unfoldable pub decide : View → (now : ℕ) → Call Sight → Plan
unfolding handle_timed decide_plain
decide v now (Call.timed i ver s) = handle_timed v i ver s
decide v now (Call.plain c) = decide_plain v now c
