-- Each press in one frame: lists of calls with where requests are after them, worked out by hand; and histories that are no list of blocks. (proofs/Framed.antt has the
-- proofs.) Assumes nothing.
use Rattle.std.specs.Prelude.{ℕ, ◌≡◌, refl, Bool, true, false, ◌&&◌, not, List, [], ◌∷◌, ◌++◌, map, eqb, length, replicate}
use Rattle.std.proofs.Math.Option.{Option, none, some}
use Rattle.std.specs.Float.{nan}
use Rattle.eiproto.specs.declared.eiproto_enum.DeviceType.{DeviceType}
use Rattle.eiproto.specs.declared.eiproto_enum.DisconnectReason.{DisconnectReason}
use Rattle.eiproto.specs.declared.eiproto_enum.KeyState.{KeyState}
use Rattle.model.specs.Call.{Kind, Input, Load, Plain, Call, Turn, split}
use Rattle.model.specs.Session.{Item, Untimed, Queued, fresh}
use Rattle.model.specs.Framed.{Places, places_after, timed_in, pending_in, numbered, is_frame, Block, in_all_blocks}
use Rattle.model.specs.Trials.{now70, a, versions, seat, device, touchscreen, opening, key, downs, utf8, frame, next, key_at, frame_at, queued}

-- calls behind an opening, and then: how many requests were delivered; the blocks of those and the queued ones; what is pending on each device that stands, and what was
-- lost with each that was removed
pub record Trial : Type 0 where
  pub calls : List Turn
  pub delivered : ℕ
  pub blocks : List (Block Load)
  pub pending : List (List (Item Load))
  pub lost : List (List (Item Load))

-- ---- the words of the table

abbrev K : Item Load
K = record { kind = Kind.KeyboardKey; touch = 0; size = 0; load = Load.KeyPress 30 KeyState.Press }

abbrev touched : ℕ → Item Load
touched t = record { kind = Kind.TouchDown; touch = t; size = 0; load = Load.Point nan nan }

-- a touch lifted or cancelled
abbrev ended : Kind → ℕ → Item Load
ended k t = record { kind = k; touch = t; size = 0; load = Load.None }

abbrev ends : Input → Turn
ends i = now70 (Call.timed touchscreen 2 i)

-- a client's Frame has serial 3; a flush has the session's last serial, 7, and the clock's time, 70
abbrev keys : (serial time : ℕ) → List (Item Load) → Block Load
keys s t more = Block.frame device s t K more

unfoldable ready : Block Load
unfolding is_frame
ready = Block.lone (Untimed.Ready device) refl

-- a second device of the same seat, its keyboard, and its frame
abbrev device2 : ℕ
device2 = 0xff00_0000_0000_000a

abbrev add2 : Turn
add2 = a (Plain.add_device seat none DeviceType.Virtual 127)

abbrev key2 : Turn
key2 = now70 (Call.timed 0xff00_0000_0000_000d 1 (Input.Key 30 KeyState.Press))

abbrev frame2 : ℕ → Turn
frame2 time = a (Plain.device_frame device2 3 time)

abbrev trial : List Turn → ℕ → List (Block Load) → (pending lost : List (List (Item Load))) → Trial
trial calls n blocks pending lost = record { calls = calls; delivered = n; blocks = blocks; pending = pending; lost = lost }

-- one device, and nothing pending on it
abbrev nothing : List (List (Item Load))
nothing = [] ∷ []

unfoldable pub trials : List Trial
unfolding is_frame ready
trials =
    -- a run is partly delivered
    trial (key ∷ key ∷ frame 500 ∷ next ∷ []) 1 (keys 3 500 (K ∷ []) ∷ []) nothing []
    -- a flush, then a Frame with nothing pending, which stands nowhere
    ∷ trial (key ∷ a (Plain.device_ready device) ∷ frame 9 ∷ []) 0 (keys 7 70 [] ∷ ready ∷ []) nothing []
    -- two devices with one time are two runs
    ∷ trial (add2 ∷ key ∷ key2 ∷ frame 5 ∷ frame2 5 ∷ []) 0 (keys 3 5 [] ∷ Block.frame device2 3 5 K [] ∷ []) ([] ∷ [] ∷ []) []
    -- so are two frames of one device with one time
    ∷ trial (key ∷ frame 5 ∷ key ∷ frame 5 ∷ []) 0 (keys 3 5 [] ∷ keys 3 5 [] ∷ []) nothing []
    -- lost at a removal; what was queued stays
    ∷ trial (key ∷ a (Plain.remove_device device) ∷ []) 0 [] [] ((K ∷ []) ∷ [])
    ∷ trial (key ∷ frame 5 ∷ key ∷ a (Plain.remove_device device) ∷ next ∷ []) 1 (keys 3 5 [] ∷ []) [] ((K ∷ []) ∷ [])
    -- a Disconnect closes no frame, a Bind breaks none
    ∷ trial (key ∷ a Plain.disconnect ∷ next ∷ []) 1 (Block.lone Untimed.Disconnect refl ∷ []) ((K ∷ []) ∷ []) []
    ∷ trial (key ∷ a (Plain.bind seat 4) ∷ frame 5 ∷ []) 0 (Block.lone (Untimed.Bind seat 4) refl ∷ keys 3 5 [] ∷ []) nothing []
    -- 64 keys with their frame do not fit behind 192 requests (17), and nothing moves; behind 191 they do
    ∷ trial (queued 63 ++ queued 63 ++ queued 63 ++ replicate 64 key ++ (frame 5 ∷ [])) 0 (replicate 3 (keys 3 1 (replicate 62 K))) (replicate 64 K ∷ []) []
    ∷ trial (queued 63 ++ queued 63 ++ queued 63 ++ replicate 64 key ++ (next ∷ frame 5 ∷ [])) 1 (replicate 3 (keys 3 1 (replicate 62 K)) ++ (keys 3 5 (replicate 63 K) ∷ [])) nothing []
    -- a seat removed or released, and all seats gone, with pending requests on two devices
    ∷ trial (add2 ∷ key ∷ key2 ∷ key2 ∷ a (Plain.remove_seat seat) ∷ []) 0 [] [] ((K ∷ []) ∷ (K ∷ K ∷ []) ∷ [])
    ∷ trial (add2 ∷ key ∷ key2 ∷ key2 ∷ a (Plain.seat_release seat) ∷ []) 0 [] [] ((K ∷ []) ∷ (K ∷ K ∷ []) ∷ [])
    ∷ trial (add2 ∷ key ∷ key2 ∷ key2 ∷ a (Plain.disconnected DisconnectReason.Disconnected none) ∷ []) 0 [] [] ((K ∷ []) ∷ (K ∷ K ∷ []) ∷ [])
    -- touches by kind and id, in order; an Up of one that is not held is ignored. The seventeenth touch is refused (4). Neither is in any of the places
    ∷ trial (downs 2 ++ (ends (Input.Up 1) ∷ ends (Input.Up 1) ∷ ends (Input.Cancel 2) ∷ frame 5 ∷ [])) 0
    (Block.frame device 3 5 (touched 1) (touched 2 ∷ ended Kind.TouchUp 1 ∷ ended Kind.TouchCancel 2 ∷ []) ∷ []) nothing []
    ∷ trial (downs 17 ++ (a (Plain.remove_device device) ∷ [])) 0 [] [] (map touched (1 ∷ 2 ∷ 3 ∷ 4 ∷ 5 ∷ 6 ∷ 7 ∷ 8 ∷ 9 ∷ 10 ∷ 11 ∷ 12 ∷ 13 ∷ 14 ∷ 15 ∷ 16 ∷ []) ∷ [])
    -- nor are a text that is too long (6) and a key on an interface that nobody lists
    ∷ trial (utf8 255 ∷ now70 (Call.timed 99 1 (Input.Key 30 KeyState.Press)) ∷ []) 0 [] nothing []
    ∷ []

-- ---- what the definitions compute

pub record Shown : Type 0 where
  pub delivered : ℕ
  pub history : List (Queued Load)
  pub pending : List (List (Item Load))
  pub lost : List (List (Item Load))

unfoldable pub shown : Places Load → Shown
shown x =
    record {
      delivered = length x.delivered;
      history = x.delivered ++ x.queued;
      pending = map (λ y. y.pending) x.devices;
      lost = map (λ y. y.pending) x.removed;
    }

unfoldable pub computed : Trial → Shown
unfolding shown places_after split fresh versions
computed t = shown (places_after (map split (opening ++ t.calls)) (fresh 0xff00_0000_0000_0000 7 seat versions))

unfoldable pub expected : Trial → Shown
unfolding in_all_blocks
expected t = record { delivered = t.delivered; history = in_all_blocks t.blocks; pending = t.pending; lost = t.lost }

-- the numbers of the calls that the requests in each place came from, where the calls of the opening have 0 and 1
pub record Numbers : Type 0 where
  pub delivered : List ℕ
  pub queued : List ℕ
  pub pending : List ℕ
  pub lost : List ℕ

unfoldable pub numbers_in : List Turn → Numbers
unfolding places_after numbered timed_in pending_in fresh versions
numbers_in ts =
    let x = places_after (numbered 0 (opening ++ ts)) (fresh 0xff00_0000_0000_0000 7 seat versions) in
    record {
      delivered = map (λ i. i.load) (timed_in x.delivered);
      queued = map (λ i. i.load) (timed_in x.queued);
      pending = map (λ i. i.load) (pending_in x.devices);
      lost = map (λ i. i.load) (pending_in x.removed);
    }

-- four equal presses in four places
abbrev pub four : List Turn
four = key ∷ key ∷ frame 5 ∷ next ∷ add2 ∷ key2 ∷ key ∷ a (Plain.remove_device device2) ∷ []

abbrev pub four_numbers : Numbers
four_numbers = record { delivered = 2 ∷ []; queued = 3 ∷ []; pending = 8 ∷ []; lost = 7 ∷ [] }

-- ---- histories that are no list of blocks: what the statement shuts out

-- whether a request closes a run of a device with a time
unfoldable pub closes_run : (device time : ℕ) → Untimed → Bool
closes_run d t Untimed.Disconnect = false
closes_run d t (Untimed.Bind s caps) = false
closes_run d t (Untimed.DeviceClosed e) = false
closes_run d t (Untimed.RequestDevice s caps) = false
closes_run d t (Untimed.Frame e s u) = eqb e d && eqb u t
closes_run d t (Untimed.Ready e) = false
closes_run d t (Untimed.DeviceStartEmulating e s q) = false
closes_run d t (Untimed.DeviceStopEmulating e s) = false

-- a run that is open: its device and its time
pub record Run : Type 0 where
  pub device : ℕ
  pub time : ℕ

-- a test that every list of blocks passes
unfoldable pub passes : Option Run → List (Queued Load) → Bool
unfolding closes_run is_frame
passes none [] = true
passes (some r) [] = false
passes none (Queued.timed d t i ∷ rs) = passes (some (record { device = d; time = t })) rs
passes (some r) (Queued.timed d t i ∷ rs) = eqb d r.device && (eqb t r.time && passes (some r) rs)
passes none (Queued.untimed u ∷ rs) = not (is_frame u) && passes none rs
passes (some r) (Queued.untimed u ∷ rs) = closes_run r.device r.time u && passes none rs

abbrev F : (time : ℕ) → Queued Load
F t = frame_at 3 t

-- of the second device
abbrev key_at2 : (time : ℕ) → Queued Load
key_at2 t = Queued.timed device2 t K

abbrev F2 : (time : ℕ) → Queued Load
F2 t = Queued.untimed (Untimed.Frame device2 3 t)

abbrev pub wrong : List (List (Queued Load))
wrong =
    -- a Frame alone; before its requests; a run that none closes
    (F 5 ∷ [])
    ∷ (F 5 ∷ key_at 5 ∷ [])
    ∷ (key_at 5 ∷ [])
    -- a run broken by a Ready, and by another device's request, though the times agree
    ∷ (key_at 5 ∷ Queued.untimed (Untimed.Ready device) ∷ F 5 ∷ [])
    ∷ (key_at 5 ∷ key_at2 5 ∷ F 5 ∷ F2 5 ∷ [])
    -- two times in one run, a Frame with another time, a Frame of another device
    ∷ (key_at 4 ∷ key_at 5 ∷ F 5 ∷ [])
    ∷ (key_at 5 ∷ F 4 ∷ [])
    ∷ (key_at 5 ∷ F2 5 ∷ [])
    -- two Frames that close one run
    ∷ (key_at 5 ∷ F 5 ∷ F 5 ∷ [])
    ∷ []

-- what fails the test is no list of blocks
abbrev pub AlwaysShutOut : Type 0
AlwaysShutOut = (rs : List (Queued Load)) → passes none rs ≡ false → (bs : List (Block Load)) → rs ≡ in_all_blocks bs → ⊥
