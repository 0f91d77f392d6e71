-- The scope's trial lines in one table, the starred ones first, then what it warns of: the calls, and what they are to answer.
-- (proofs/Trials.antt has the one proof.) Assumes nothing.
use Rattle.std.specs.Prelude.{ℕ, zero, suc, ◌+◌, ◌-◌, true, false, List, [], ◌∷◌, ◌++◌, map, length, drop, replicate}
use Rattle.std.proofs.Math.Option.{Option, none, some}
use Rattle.eiproto.specs.declared.eiproto_enum.DeviceType.{DeviceType}
use Rattle.eiproto.specs.declared.eiproto_enum.DisconnectReason.{DisconnectReason}
use Rattle.eiproto.specs.declared.eiproto_enum.KeyState.{KeyState}
use Rattle.eiproto.specs.declared.event.DeviceCapability.{DeviceCapability}
use Rattle.std.specs.Float.{nan}
use Rattle.model.specs.Call.{Kind, Input, Load, Plain, Call, Turn}
use Rattle.model.specs.Session.{Untimed, Queued}
use Rattle.model.specs.Plan.{Result, records}
use Rattle.model.specs.Step.{Step}
use Rattle.model.specs.Demand3.{trail}

-- what a call answered, the event bytes that it wrote, the request that it gave
pub record Expected : Type 0 where
  pub outcome : Result
  pub bytes : List ℕ
  pub given : List (Queued Load)

-- a trial: the session's first serial and next id, calls that lead up to it, the calls in question and what they are to answer
pub record Trial : Type 0 where
  pub serial : ℕ
  pub next_id : ℕ
  pub before : List Turn
  pub calls : List Turn
  pub answers : List Expected

-- ---- the words of the table

-- the clock stands at 70, the lent buffers have room enough
abbrev pub now70 : Call Input → Turn
now70 c = record { call = c; now = 70; room = 4096 }

abbrev pub a : Plain → Turn
a c = now70 (Call.plain c)

-- the ids that follow a seat with all capabilities and a device with all seven interfaces
abbrev pub seat : ℕ
seat = 0xff00_0000_0000_0001

abbrev pub device : ℕ
device = 0xff00_0000_0000_0002

abbrev pub keyboard : ℕ
keyboard = 0xff00_0000_0000_0005

abbrev pub touchscreen : ℕ
touchscreen = 0xff00_0000_0000_0006

abbrev pub text : ℕ
text = 0xff00_0000_0000_0009

abbrev pub opening : List Turn
opening = a (Plain.add_seat none 127) ∷ a (Plain.add_device seat none DeviceType.Virtual 127) ∷ []

abbrev pub key : Turn
key = now70 (Call.timed keyboard 1 (Input.Key 30 KeyState.Press))

abbrev pub down : ℕ → Turn
down t = now70 (Call.timed touchscreen 2 (Input.Down t nan nan))

abbrev pub utf8 : ℕ → Turn
utf8 n = now70 (Call.timed text 1 (Input.Utf8 (replicate n 97)))

abbrev pub frame : ℕ → Turn
frame time = a (Plain.device_frame device 3 time)

abbrev pub next : Turn
next = a Plain.next_request

-- touch ids 1 to n down
abbrev pub downs : ℕ → List Turn
downs zero = []
downs (suc n) = downs n ++ (down (suc n) ∷ [])

abbrev pub says : Result → Expected
says o = record { outcome = o; bytes = []; given = [] }

abbrev pub gives : Queued Load → Expected
gives r = record { outcome = Result.given; bytes = []; given = r ∷ [] }

abbrev pub key_at : ℕ → Queued Load
key_at time = Queued.timed device time (record { kind = Kind.KeyboardKey; touch = 0; size = 0; load = Load.KeyPress 30 KeyState.Press })

abbrev pub frame_at : (last_serial time : ℕ) → Queued Load
frame_at s t = Queued.untimed (Untimed.Frame device s t)

abbrev pub trial : List Turn → List Turn → List Expected → Trial
trial before calls answers = record { serial = 7; next_id = seat; before = opening ++ before; calls = calls; answers = answers }

-- n keys wait in the queue, with the frames that sent them there
abbrev pub queued : (keys : ℕ) → List Turn
queued keys = replicate keys key ++ (frame 1 ∷ [])

-- ---- the table

abbrev pub starred : List Trial
starred =
    -- ★ Frame, nothing pending: queue unchanged. The queue is empty, then it holds a Disconnect.
    trial [] (frame 500 ∷ next ∷ []) (says Result.accepted ∷ says Result.none ∷ [])
    ∷ trial (a Plain.disconnect ∷ []) (frame 500 ∷ next ∷ next ∷ [])
    (says Result.accepted ∷ gives (Queued.untimed Untimed.Disconnect) ∷ says Result.none ∷ [])
    -- ★ Key, Frame at 500: KeyboardKey at 500, Frame at 500.
    ∷ trial [] (key ∷ frame 500 ∷ next ∷ next ∷ next ∷ []) (says Result.accepted ∷ says Result.accepted ∷ gives (key_at 500) ∷ gives (frame_at 3 500) ∷ says Result.none ∷ [])
    -- ★ Key, Ready, `now` 70: Key 70, Frame 70, Ready.
    ∷ trial (key ∷ []) (a (Plain.device_ready device) ∷ next ∷ next ∷ next ∷ next ∷ [])
    (says Result.accepted ∷ gives (key_at 70) ∷ gives (frame_at 7 70) ∷ gives (Queued.untimed (Untimed.Ready device)) ∷ says Result.none ∷ [])
    -- ★ Key, Disconnect: Disconnect only; Key still pending.
    ∷ trial (key ∷ []) (a Plain.disconnect ∷ next ∷ next ∷ frame 9 ∷ next ∷ [])
    (says Result.accepted ∷ gives (Queued.untimed Untimed.Disconnect) ∷ says Result.none ∷ says Result.accepted ∷ gives (key_at 9) ∷ [])
    -- ★ 16 held, Down of a held id: 4. ★ 15 held, same: 5.
    ∷ trial (downs 16) (down 1 ∷ []) (says (Result.refused 4) ∷ [])
    ∷ trial (downs 15) (down 1 ∷ []) (says (Result.refused 5) ∷ [])
    -- ★ Text of 254 bytes taken; ★ 255: 6; ★ 0: 6.
    ∷ trial [] (utf8 254 ∷ frame 5 ∷ next ∷ [])
    (says Result.accepted ∷ says Result.accepted
    ∷ gives (Queued.timed device 5 (record { kind = Kind.TextUtf8; touch = 0; size = 254; load = Load.Text (replicate 254 97) })) ∷ [])
    ∷ trial [] (utf8 255 ∷ []) (says (Result.refused 6) ∷ [])
    ∷ trial [] (utf8 0 ∷ []) (says (Result.refused 6) ∷ [])
    -- ★ Last serial 4294967295, `resumed`: serial 0.
    ∷ record {
      serial = 4294967295;
      next_id = seat;
      before = opening;
      calls = a (Plain.resumed device) ∷ a Plain.last_serial ∷ [];
      answers = record { outcome = Result.accepted; bytes = 0x48 ∷ 0x0e ∷ 0xff ∷ 0 ∷ 0 ∷ 0 ∷ 0 ∷ 0 ∷ 0 ∷ 2 ∷ 0 ∷ 0 ∷ 0 ∷ 0 ∷ []; given = [] } ∷ says (Result.value 0) ∷ [];
    }
    -- ★ Destroyed, object ff00000000000001 hex, serial 8: `28 0e ff 00 00 00 00 00 00 01 00 00 00 08`. The seat has no device.
    ∷ record {
      serial = 7;
      next_id = seat;
      before = a (Plain.add_seat none 127) ∷ [];
      calls = a (Plain.seat_release seat) ∷ [];
      answers = record { outcome = Result.accepted; bytes = 0x28 ∷ 0x0e ∷ 0xff ∷ 0 ∷ 0 ∷ 0 ∷ 0 ∷ 0 ∷ 0 ∷ 1 ∷ 0 ∷ 0 ∷ 0 ∷ 8 ∷ []; given = [] } ∷ [];
    }
    -- ★ Bind 0: taken; ★ Bind 128: 3.
    ∷ trial [] (a (Plain.bind seat 0) ∷ next ∷ []) (says Result.accepted ∷ gives (Queued.untimed (Untimed.Bind seat 0)) ∷ [])
    ∷ trial [] (a (Plain.bind seat 128) ∷ []) (says (Result.refused 3) ∷ [])
    ∷ []

abbrev pub unstarred : List Trial
unstarred =
    -- 64 pending and a key: 16.
    trial (replicate 64 key) (key ∷ []) (says (Result.refused 16) ∷ [])
    -- Queue 192 long, 64 pending, Frame: 17 (257 needed). Queue 191: taken.
    ∷ trial (queued 63 ++ (queued 63 ++ (queued 63 ++ replicate 64 key))) (frame 2 ∷ []) (says (Result.refused 17) ∷ [])
    ∷ trial (queued 63 ++ (queued 63 ++ (queued 62 ++ replicate 64 key))) (frame 2 ∷ []) (says Result.accepted ∷ [])
    ∷ []

-- what a wrong session would answer otherwise: "False friends: .."
abbrev pub false_friends : List Trial
false_friends =
    -- "inserting the touch before finding the pending list full": the id that was refused is not held
    trial (replicate 64 key) (down 1 ∷ frame 5 ∷ down 1 ∷ []) (says (Result.refused 16) ∷ says Result.accepted ∷ says Result.accepted ∷ [])
    -- "flushing pending requests at Bind": the key still waits
    ∷ trial (key ∷ []) (a (Plain.bind seat 0) ∷ next ∷ next ∷ frame 9 ∷ next ∷ [])
    (says Result.accepted ∷ gives (Queued.untimed (Untimed.Bind seat 0)) ∷ says Result.none ∷ says Result.accepted ∷ gives (key_at 9) ∷ [])
    -- "raising the serial for `disconnected`"
    ∷ record {
      serial = 7;
      next_id = seat;
      before = [];
      calls = a (Plain.disconnected DisconnectReason.Disconnected none) ∷ a Plain.last_serial ∷ [];
      answers =
          record { outcome = Result.accepted; bytes = 0x70 ∷ 0x13 ∷ 0xff ∷ 0 ∷ 0 ∷ 0 ∷ 0 ∷ 0 ∷ 0 ∷ 0 ∷ 0 ∷ 0 ∷ 0 ∷ 7 ∷ 0 ∷ 0 ∷ 0 ∷ 0 ∷ 0 ∷ []; given = [] }
          ∷ says (Result.value 7)
          ∷ [];
    }
    -- "giving a text slot back when its frame closes": it is given back with its text
    ∷ trial (replicate 32 (utf8 1) ++ (frame 5 ∷ [])) (utf8 1 ∷ next ∷ utf8 1 ∷ [])
    (says (Result.refused 18)
    ∷ gives (Queued.timed device 5 (record { kind = Kind.TextUtf8; touch = 0; size = 1; load = Load.Text (97 ∷ []) }))
    ∷ says Result.accepted
    ∷ [])
    ∷ []

-- the last ids, with no room in `out`: "20 IDS_SPENT: the next object id after the call would exceed 2^64 − 1", and 20 comes before 19
abbrev pub spent_by : (next_id : ℕ) (before : List Turn) → Plain → (number : ℕ) → Trial
spent_by n before call number =
    record {
      serial = 7;
      next_id = n;
      before = before;
      calls = record { call = Call.plain call; now = 70; room = 0 } ∷ [];
      answers = says (Result.refused number) ∷ [];
    }

abbrev pub a_seat : Plain
a_seat = Plain.add_seat none 127

-- on the seat that took the id before n
abbrev pub a_device_at : (n capabilities : ℕ) → Plain
a_device_at n caps = Plain.add_device (n - 1) none DeviceType.Virtual caps

abbrev pub ids_spent : List Trial
ids_spent =
    -- 2^64 − 2 can still be given, so that the want of room is told; 2^64 − 1 cannot
    spent_by 0xffff_ffff_ffff_fffe [] a_seat 19
    ∷ spent_by 0xffff_ffff_ffff_ffff [] a_seat 20
    -- a device without interfaces takes one id, one with a keyboard two
    ∷ spent_by 0xffff_ffff_ffff_fffd (a a_seat ∷ []) (a_device_at 0xffff_ffff_ffff_fffe 0) 19
    ∷ spent_by 0xffff_ffff_ffff_fffd (a a_seat ∷ []) (a_device_at 0xffff_ffff_ffff_fffe 4) 20
    ∷ spent_by 0xffff_ffff_ffff_fffe (a a_seat ∷ []) (a_device_at 0xffff_ffff_ffff_ffff 0) 20
    ∷ []

-- ---- "Released is released." Worked out by hand

-- a seat with two devices, ..02 with the keyboard ..03, ..04 with the keyboard ..05
abbrev pub object : ℕ → ℕ
object n = 0xff00_0000_0000_0000 + n

abbrev pub two_keyboards : List Turn
two_keyboards =
    a (Plain.add_seat none 127)
    ∷ a (Plain.add_device seat none DeviceType.Virtual 4)
    ∷ a (Plain.add_device seat none DeviceType.Virtual 4)
    ∷ []

abbrev pub key_on : ℕ → Turn
key_on interface = now70 (Call.timed interface 1 (Input.Key 30 KeyState.Press))

abbrev pub release_seat : (room : ℕ) → Turn
release_seat room = record { call = Call.plain (Plain.seat_release seat); now = 70; room = room }

abbrev pub release_keyboard : ℕ → Turn
release_keyboard interface = a (Plain.interface_release DeviceCapability.Keyboard interface)

-- destroyed on object ..n with a serial below 256
abbrev pub gone : (n serial : ℕ) → List ℕ
gone n serial = 0x28 ∷ 0x0e ∷ 0xff ∷ 0 ∷ 0 ∷ 0 ∷ 0 ∷ 0 ∷ 0 ∷ n ∷ 0 ∷ 0 ∷ 0 ∷ serial ∷ []

abbrev pub sends : List ℕ → Expected
sends bytes = record { outcome = Result.accepted; bytes = bytes; given = [] }

abbrev pub releasing : List Turn → List Expected → Trial
releasing calls answers = record { serial = 7; next_id = seat; before = two_keyboards; calls = calls; answers = answers }

abbrev pub released : List Trial
released =
    -- a released interface is told once, is listed no more, and the device goes without it
    releasing
    (release_keyboard (object 3)
    ∷ a (Plain.has_capability (object 2) DeviceCapability.Keyboard)
    ∷ a (Plain.has_capability (object 4) DeviceCapability.Keyboard)
    ∷ release_keyboard (object 3)
    ∷ a Plain.last_serial
    ∷ a (Plain.remove_device (object 2))
    ∷ [])
    (sends (gone 3 8) ∷ says (Result.truth false) ∷ says (Result.truth true) ∷ says Result.accepted ∷ says (Result.value 8) ∷ sends (gone 2 9) ∷ [])
    -- a released seat takes its devices with it, in ascending id, and is unknown then
    ∷ releasing
    (release_seat 4096 ∷ a (Plain.remove_seat seat) ∷ a (Plain.resumed (object 2)) ∷ release_seat 4096 ∷ a (Plain.bind seat 128) ∷ next ∷ a Plain.last_serial ∷ [])
    (sends (gone 3 8 ++ (gone 2 9 ++ (gone 5 10 ++ (gone 4 11 ++ gone 1 12))))
    ∷ says (Result.refused 12)
    ∷ says (Result.refused 12)
    ∷ says Result.accepted
    ∷ says Result.accepted
    ∷ says Result.none
    ∷ says (Result.value 12)
    ∷ [])
    -- and passes over an interface that was released before
    ∷ releasing (release_keyboard (object 5) ∷ release_seat 4096 ∷ [])
    (sends (gone 5 8) ∷ sends (gone 3 9 ++ (gone 2 10 ++ (gone 4 11 ++ gone 1 12))) ∷ [])
    -- "Seat Release for an unknown seat sends nothing": not for a device's id, nor for an interface's
    ∷ releasing
    (a (Plain.seat_release 5) ∷ a (Plain.seat_release (object 2)) ∷ a (Plain.seat_release (object 3)) ∷ a Plain.last_serial ∷ [])
    (says Result.accepted ∷ says Result.accepted ∷ says Result.accepted ∷ says (Result.value 7) ∷ [])
    -- five objects are 70 bytes; 19 leaves the key pending, a release loses it, and what is queued stays
    ∷ releasing
    (key_on (object 3)
    ∷ a (Plain.device_frame (object 2) 7 9)
    ∷ key_on (object 3)
    ∷ release_seat 69
    ∷ release_seat 70
    ∷ a (Plain.device_frame (object 2) 7 9)
    ∷ next
    ∷ next
    ∷ next
    ∷ [])
    (says Result.accepted
    ∷ says Result.accepted
    ∷ says Result.accepted
    ∷ says (Result.refused 19)
    ∷ sends (gone 3 8 ++ (gone 2 9 ++ (gone 5 10 ++ (gone 4 11 ++ gone 1 12))))
    ∷ says Result.accepted
    ∷ gives (key_at 9)
    ∷ gives (frame_at 7 9)
    ∷ says Result.none
    ∷ [])
    ∷ []

-- ---- what the definitions compute

unfoldable pub answer_of : Step Load → Expected
unfolding records
answer_of r = record { outcome = r.outcome; bytes = records r.events; given = r.gave }

-- every interface negotiated at the server's version
unfoldable pub versions : List (Option ℕ)
versions = map some (1 ∷ 1 ∷ 1 ∷ 2 ∷ 3 ∷ 1 ∷ 1 ∷ 1 ∷ 1 ∷ 1 ∷ 2 ∷ 1 ∷ [])

unfoldable pub computed : Trial → List Expected
unfolding trail answer_of versions
computed t =
    map answer_of (drop (length t.before) (trail 0xff00_0000_0000_0000 t.serial t.next_id versions (t.before ++ t.calls)))

unfoldable pub expected : Trial → List Expected
expected t = t.answers
