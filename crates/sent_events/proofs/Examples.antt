-- Worked examples: on which interface an event is, the message that stands for it, a text that cannot be sent, and a damaged session. Assumes nothing.
use Prim.Native.Nat.{ℕ, zero, suc}
use mathlib.Core.Path.{◌≡◌, refl, sym}
use mathlib.Core.Bool.{Bool, true, false, ◌&&◌, ◌||◌, cond, false≢true}
use mathlib.Core.List.{List, [], ◌∷◌, map}
use mathlib.Core.Option.{Option, none, some}
use native.Mathlib.Omega.{arith}
use lib.Dec.{eqb}
use borrow.Author.Tests.{eqb-true}
use Rattle.eiproto.specs.Capability.{interface_of_bit}
use Rattle.eiproto.specs.declared.eiproto_enum.DeviceType.{DeviceType}
use Rattle.eiproto.specs.declared.event.DeviceCapability.{DeviceCapability}
use Rattle.wire.specs.Record.{layout, event_record}
use Rattle.wire.specs.declared.event.Event.{Event}
use Rattle.event_messages.specs.Table.{kind_of}
use Rattle.event_messages.specs.Message.{arguments, message}
use Rattle.event_messages.specs.Stands.{sendable, Stands}
use Rattle.model.specs.Call.{Load, Sight, Plain, Call, Turn, split}
use Rattle.model.specs.Session.{Device, View, fresh, view}
use Rattle.model.specs.Plan.{on}
use Rattle.model.specs.Decide.{Found, device_of, seat_of, device_for_interface, decide}
use Rattle.model.specs.Reachable.{session_after}
use Rattle.model.specs.Live.{is_found}
use Rattle.sent_events.specs.Sendable.{Maker, HasMessage, known}

-- ---- a seat and a device with a keyboard

abbrev seat_id : ℕ
seat_id = 0xff00_0000_0000_0001

abbrev device_id : ℕ
device_id = 0xff00_0000_0000_0002

abbrev keyboard_id : ℕ
keyboard_id = 0xff00_0000_0000_0003

abbrev plainly : Plain → Turn
plainly c = record { call = Call.plain c; now = 0; room = 4096 }

-- the keyboard alone is negotiated: number 10
abbrev versions : List (Option ℕ)
versions = none ∷ none ∷ none ∷ none ∷ none ∷ none ∷ none ∷ none ∷ none ∷ some 1 ∷ []

abbrev after : List Plain → View
after cs = view (session_after (map split (map plainly cs)) (fresh {P = Load} 0xff00_0000_0000_0000 7 seat_id versions))

-- before the seat, before the device, and with both
abbrev bare : View
bare = after []

abbrev seated : View
seated = after (Plain.add_seat none 4 ∷ [])

abbrev keyed : View
keyed = after (Plain.add_seat none 4 ∷ Plain.add_device seat_id none DeviceType.Virtual 4 ∷ [])

abbrev add_seat : Option (List ℕ) → Call Sight
add_seat name = Call.plain (Plain.add_seat name 4)

abbrev add_device : Call Sight
add_device = Call.plain (Plain.add_device seat_id none DeviceType.Virtual 4)

abbrev release : Call Sight
release = Call.plain (Plain.interface_release DeviceCapability.Keyboard keyboard_id)

-- a keyboard's `destroyed` is on 10
pub released : (decide keyed 0 release).events ≡ on keyboard_id (Event.Destroyed 8) ∷ []
unfolding decide view session_after split fresh
released = refl

pub keyboard : Maker keyed release 10 keyboard_id
unfolding is_found device_for_interface view session_after split fresh interface_of_bit
keyboard = Maker.interface 2 refl

pub keyboard-message :
    Stands 10 (0x28 ∷ 0x0e ∷ 0xff ∷ 0 ∷ 0 ∷ 0 ∷ 0 ∷ 0 ∷ 0 ∷ 3 ∷ 0 ∷ 0 ∷ 0 ∷ 8 ∷ [])
    (3 ∷ 0 ∷ 0 ∷ 0 ∷ 0 ∷ 0 ∷ 0 ∷ 0xff ∷ 20 ∷ 0 ∷ 0 ∷ 0 ∷ 0 ∷ 0 ∷ 0 ∷ 0 ∷ 8 ∷ 0 ∷ 0 ∷ 0 ∷ [])
unfolding kind_of sendable event_record message arguments
keyboard-message =
    record { object = keyboard_id; opcode = 0; event = Event.Destroyed 8; text = []; has = refl; fits = refl; laid = refl; told = refl }

-- a seat's `done` is on 4
pub seat_added_lem :
    (decide bare 0 (add_seat none)).events
    ≡ on 0xff00_0000_0000_0000 (Event.Seat seat_id 1) ∷ on seat_id (Event.Capability 4 10) ∷ on seat_id Event.Done ∷ []
unfolding decide view session_after split fresh
seat_added_lem = refl

pub seat : Maker bare (add_seat none) 4 seat_id
unfolding view session_after split fresh
seat = Maker.new_seat

pub seat-done :
    Stands 4 (0x20 ∷ 0x0a ∷ 0xff ∷ 0 ∷ 0 ∷ 0 ∷ 0 ∷ 0 ∷ 0 ∷ 1 ∷ []) (1 ∷ 0 ∷ 0 ∷ 0 ∷ 0 ∷ 0 ∷ 0 ∷ 0xff ∷ 16 ∷ 0 ∷ 0 ∷ 0 ∷ 3 ∷ 0 ∷ 0 ∷ 0 ∷ [])
unfolding kind_of sendable event_record message arguments
seat-done = record { object = seat_id; opcode = 3; event = Event.Done; text = []; has = refl; fits = refl; laid = refl; told = refl }

-- a device's is on 5
pub device_added_lem :
    (decide seated 0 add_device).events
    ≡ on seat_id (Event.Device device_id 1) ∷ on device_id (Event.DeviceType 1) ∷ on device_id (Event.Interface keyboard_id 10 1) ∷ on device_id Event.Done ∷ []
unfolding decide view session_after split fresh
device_added_lem = refl

pub device : Maker seated add_device 5 device_id
unfolding view session_after split fresh
device = Maker.new_device

pub device-done :
    Stands 5 (0x20 ∷ 0x0a ∷ 0xff ∷ 0 ∷ 0 ∷ 0 ∷ 0 ∷ 0 ∷ 0 ∷ 2 ∷ []) (2 ∷ 0 ∷ 0 ∷ 0 ∷ 0 ∷ 0 ∷ 0 ∷ 0xff ∷ 16 ∷ 0 ∷ 0 ∷ 0 ∷ 6 ∷ 0 ∷ 0 ∷ 0 ∷ [])
unfolding kind_of sendable event_record message arguments
device-done = record { object = device_id; opcode = 6; event = Event.Done; text = []; has = refl; fits = refl; laid = refl; told = refl }

-- ---- a name with a zero byte: the seat is made, and its name is unsendable

abbrev zeroed : List ℕ
zeroed = 0x61 ∷ 0 ∷ 0x62 ∷ []

pub named :
    (decide bare 0 (add_seat (some zeroed))).events
    ≡ on 0xff00_0000_0000_0000 (Event.Seat seat_id 1) ∷ record { object = seat_id; event = Event.Name; text = zeroed } ∷ on seat_id (Event.Capability 4 10)
    ∷ on seat_id Event.Done ∷ []
unfolding decide view session_after split fresh
named = refl

pub unsendable : sendable Event.Name zeroed ≡ false
unfolding sendable
unsendable = refl

-- ---- a damaged session: a device lists an interface for bit 7, which is no capability's, so its `destroyed` is on no interface that has it

abbrev worn : Device (Unit {0})
worn = record { id = 1; seat = 0; interfaces = record { capability = 7; id = 2 } ∷ []; down_touch_ids = []; pending = [] }

abbrev damaged : View
damaged = record { connection = (fresh {P = Unit {0}} 0 0 3 []).connection; devices = worn ∷ []; requests = [] }

abbrev remove : Call Sight
remove = Call.plain (Plain.remove_device 1)

pub unknown : known damaged ≡ false
unfolding known
unknown = refl

pub removed : (decide damaged 0 remove).events ≡ on 2 (Event.Destroyed 1) ∷ on 1 (Event.Destroyed 2) ∷ []
unfolding decide fresh
removed = refl

first : (a b : Bool) → is_found {A = Found} (cond ((a && b) || false) (some (record { slot = zero; device = worn })) none) ≡ true → a ≡ true
unfolding is_found
first true b h = refl
first false b h = h

on_none : {interface id : ℕ} → Maker damaged remove interface id → id ≡ 2 → interface ≡ 0
unfolding fresh is_found seat_of device_of device_for_interface interface_of_bit
on_none Maker.connection e = absurd (omega arith)
on_none (Maker.seat h) e = absurd (false≢true h)
on_none (Maker.device h) e = absurd (false≢true (rw e at h))
on_none (Maker.interface {id = id} cap h) e = rw (sym (eqb-true 7 cap (first (eqb 7 cap) (eqb 2 id) h)))

none-destroyed : (opcode : ℕ) → kind_of 0 opcode ≡ 5 → ⊥
unfolding kind_of
none-destroyed zero e = omega arith
none-destroyed (suc zero) e = omega arith
none-destroyed (suc (suc zero)) e = omega arith
none-destroyed (suc (suc (suc opcode))) e = omega arith

pub no_message : HasMessage damaged remove (on 2 (Event.Destroyed 1)) → ⊥
unfolding layout
no_message x = none-destroyed x.opcode (rw (on_none x.maker refl) at x.has)
