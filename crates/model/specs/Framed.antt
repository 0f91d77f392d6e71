-- EACH PRESS IN ONE FRAME: where the timed requests are that were taken, after any list of calls from a fresh session. "The tariff desk wants this stated of whole
-- sessions, from a fresh start, after every call." proofs/Framed.antt proves the statements. Assumes nothing.
use Rattle.std.specs.Prelude.{ℕ, zero, suc, ◌≤◌, ◌≡◌, Bool, true, false}
use Rattle.std.proofs.Math.Bool.{cond}
use mathlib.Core.List.{List, [], ◌∷◌, ◌++◌, map}
use Rattle.std.proofs.Math.Option.{Option}
use Rattle.std.proofs.Math.Dec.{ltb}
use Rattle.eiproto.specs.declared.eiproto_enum.DisconnectReason.{DisconnectReason}
use Rattle.model.specs.Call.{Load, Plain, Call, Turn, Split, sight, map_call, load_of, split}
use Rattle.model.specs.Session.{Item, Untimed, Queued, Device, Session, map_queued, map_device, fresh}
use Rattle.model.specs.Step.{refuses, step, run}
use Rattle.model.specs.Demand3.{delivered, items_of, taken}
use Rattle.model.specs.Reachable.{count_of, device_ids_in, held_within, session_after}
use Rattle.model.specs.Kept.{pending_of}

-- ---- where requests are

-- What `next_request` gave, the queue, the devices that stand, with what is pending on each, and the devices that were removed, each as it was before the call that
-- removed it: with what was "lost at its removal"
pub record Places (P : Type 0) : Type 0 where
  pub delivered : List (Queued P)
  pub queued : List (Queued P)
  pub devices : List (Device P)
  pub removed : List (Device P)

module _ {P : Type 0} where
  -- whether some device has the id
  unfoldable pub stands : (device : ℕ) → List (Device P) → Bool
  unfolding count_of
  stands d ds = ltb 0 (count_of d (device_ids_in ds))

  -- the devices that stood before a call and stand no more
  unfoldable pub gone_from : (after before : List (Device P)) → List (Device P)
  unfolding stands
  gone_from after [] = []
  gone_from after (x ∷ xs) = cond (stands x.id after) [] (x ∷ []) ++ gone_from after xs

  -- those of each call in turn, as they were before it
  unfoldable pub removed_by : List (Split P) → Session P → List (Device P)
  unfolding gone_from step
  removed_by [] s = []
  removed_by (t ∷ ts) s = let after = (step t s).session in gone_from after.devices s.devices ++ removed_by ts after

  -- after a list of calls
  unfoldable pub places_after : List (Split P) → Session P → Places P
  unfolding delivered run session_after removed_by
  places_after ts s =
      record { delivered = delivered (run ts s); queued = (session_after ts s).requests; devices = (session_after ts s).devices; removed = removed_by ts s }

  -- the timed requests in these places, of all devices
  unfoldable pub timed_in : List (Queued P) → List (Item P)
  timed_in [] = []
  timed_in (Queued.timed d t i ∷ rs) = i ∷ timed_in rs
  timed_in (Queued.untimed u ∷ rs) = timed_in rs

  unfoldable pub pending_in : List (Device P) → List (Item P)
  pending_in [] = []
  pending_in (x ∷ xs) = x.pending ++ pending_in xs

  unfoldable pub items_in : Places P → List (Item P)
  unfolding timed_in pending_in
  items_in x = timed_in x.delivered ++ (timed_in x.queued ++ (pending_in x.devices ++ pending_in x.removed))

-- ---- numbers for presses

-- the calls with the number of each in the place of its payload
unfoldable pub numbered : (first : ℕ) → List Turn → List (Split ℕ)
unfolding map_call sight
numbered n [] = []
numbered n (t ∷ ts) = record { call = map_call sight t.call; load = n; now = t.now; room = t.room } ∷ numbered (suc n) ts

-- the payload of the call with a number
unfoldable pub load_at : List Turn → ℕ → Load
unfolding load_of
load_at [] n = Load.None
load_at (t ∷ ts) zero = load_of t.call
load_at (t ∷ ts) (suc n) = load_at ts n

unfoldable pub map_places : {P Q : Type 0} → (P → Q) → Places P → Places Q
unfolding map_queued map_device
map_places f x =
    record {
      delivered = map (map_queued f) x.delivered;
      queued = map (map_queued f) x.queued;
      devices = map (map_device f) x.devices;
      removed = map (map_device f) x.removed;
    }

-- ---- blocks

unfoldable pub is_frame : Untimed → Bool
is_frame Untimed.Disconnect = false
is_frame (Untimed.Bind seat caps) = false
is_frame (Untimed.DeviceClosed d) = false
is_frame (Untimed.RequestDevice seat caps) = false
is_frame (Untimed.Frame d s t) = true
is_frame (Untimed.Ready d) = false
is_frame (Untimed.DeviceStartEmulating d s q) = false
is_frame (Untimed.DeviceStopEmulating d s) = false

-- An untimed request that is no Frame, or "an unbroken run of its device's requests with one time, closed by that device's Frame with that time", with one request or
-- more: "each Frame closes a run that isn't empty"
pub data Block (P : Type 0) : Type 0 where
  lone : (u : Untimed) → is_frame u ≡ false → Block P
  frame : (device last_serial time : ℕ) (first : Item P) (others : List (Item P)) → Block P

module _ {P : Type 0} where
  -- the requests of a block, and of blocks one behind the other
  unfoldable pub in_block : Block P → List (Queued P)
  in_block (Block.lone u h) = Queued.untimed u ∷ []
  in_block (Block.frame d s t i is) = Queued.timed d t i ∷ map (λ x. Queued.timed d t x) is ++ (Queued.untimed (Untimed.Frame d s t) ∷ [])

  unfoldable pub in_all_blocks : List (Block P) → List (Queued P)
  unfolding in_block
  in_all_blocks [] = []
  in_all_blocks (b ∷ bs) = in_block b ++ in_all_blocks bs

  -- the frame of what waited on a device; no block where nothing did
  unfoldable pub run_of : (device last_serial time : ℕ) → List (Item P) → List (Block P)
  run_of d s t [] = []
  run_of d s t (i ∷ is) = Block.frame d s t i is ∷ []

-- ---- the statements

-- `taken` has the timed requests that were taken on a device, in the order of the calls; `x` is where requests are; `numbers` is where they are by the definitions run
-- with the number of each call in the place of its payload, and `loads` is the payload of a number
pub record EachPress (taken : (device : ℕ) → List (Item Load)) (loads : ℕ → Load) (numbers : Places ℕ) (x : Places Load) : Type 0 where
  -- "For each device, the timed requests that were taken, in order, are those delivered, then those queued, then those pending or, once the device is removed, those
  -- lost at its removal."
  pub account : (d : ℕ) → taken d ≡ items_of d x.delivered ++ (items_of d x.queued ++ (pending_of d x.devices ++ pending_of d x.removed))
  -- no id is twice among the devices that stand and those that were removed: so while a device stands nothing of it is lost
  pub device : (d : ℕ) → count_of d (device_ids_in (x.devices ++ x.removed)) ≤ 1
  -- "None is in two of these.": each has a number, that of the call that it came from, whose payload it carries, and no number is there twice
  pub same_run : map_places loads numbers ≡ x
  pub once : (number : ℕ) → count_of number (map (λ i. i.load) (items_in numbers)) ≤ 1
  -- "Each delivered or queued one lies in an unbroken run .., closed by that device's Frame with that time; each Frame closes a run that isn't empty. Runs may be partly
  -- delivered."
  pub blocks : List (Block Load)
  pub in_blocks : x.delivered ++ x.queued ≡ in_all_blocks blocks
  -- "Held touches never exceed 16."
  pub held : held_within 16 x.devices ≡ true

unfoldable pub AlwaysEachPress : Type 0
unfolding taken load_at numbered places_after split fresh
AlwaysEachPress =
    (c s n : ℕ) (vs : List (Option ℕ)) (ts : List Turn) →
    EachPress (λ d. taken c s n vs d ts) (load_at ts) (places_after (numbered 0 ts) (fresh c s n vs)) (places_after (map split ts) (fresh c s n vs))

-- Some requests, then others: cut between two blocks, or within one, whose back part heads the others (either part of it may be empty)
pub data Cut {P : Type 0} (earlier later : List (Queued P)) : Type 0 where
  between : (done coming : List (Block P)) → earlier ≡ in_all_blocks done → later ≡ in_all_blocks coming → Cut earlier later
  within : (done : List (Block P)) (block : Block P) (front back : List (Queued P)) (coming : List (Block P)) → in_block block ≡ front ++ back →
      earlier ≡ in_all_blocks done ++ front → later ≡ back ++ in_all_blocks coming → Cut earlier later

-- "Runs may be partly delivered.": one at most, the last, and the rest of it heads the queue
abbrev pub LastRunCut : Type 0
LastRunCut =
    (taken : (device : ℕ) → List (Item Load)) (loads : ℕ → Load) (numbers : Places ℕ) (x : Places Load) → EachPress taken loads numbers x → Cut x.delivered x.queued

-- The calls that remove devices
pub data Removes : Plain → Type 0 where
  remove_device : (device : ℕ) → Removes (Plain.remove_device device)
  remove_seat : (seat : ℕ) → Removes (Plain.remove_seat seat)
  seat_release : (seat : ℕ) → Removes (Plain.seat_release seat)
  disconnected : (reason : DisconnectReason) (explanation : Option (List ℕ)) → Removes (Plain.disconnected reason explanation)

-- "lost at its removal": no other call takes a device out, of any session
unfoldable pub RemovedByRemovals : Type 1
unfolding stands step
RemovedByRemovals =
    (P : Type 0) (t : Split P) (s : Session P) (device : ℕ) → stands device s.devices ≡ true → stands device (step t s).session.devices ≡ false →
    (request : Plain) × ((t.call ≡ Call.plain request) × Removes request)

-- The requests that close a device's frame, on a session with this last serial, at this clock value: the serial and the time of the Frame, and what is queued behind it
pub data Closes (device last_serial now : ℕ) : Plain → (serial time : ℕ) → List Untimed → Type 0 where
  frame : (serial time : ℕ) → Closes device last_serial now (Plain.device_frame device serial time) serial time []
  ready : Closes device last_serial now (Plain.device_ready device) last_serial now (Untimed.Ready device ∷ [])
  start_emulating : (serial sequence : ℕ) →
      Closes device last_serial now (Plain.device_start_emulating device serial sequence) last_serial now (Untimed.DeviceStartEmulating device serial sequence ∷ [])
  stop_emulating : (serial : ℕ) → Closes device last_serial now (Plain.device_stop_emulating device serial) last_serial now (Untimed.DeviceStopEmulating device serial ∷ [])
  release : Closes device last_serial now (Plain.device_release device) last_serial now (Untimed.DeviceClosed device ∷ [])

-- All that was pending on the device is queued in one run, with what comes behind it, and nothing is pending on the device
pub record Closed {P : Type 0} (device serial time : ℕ) (behind : List Untimed) (before after : Session P) : Type 0 where
  pub queued : after.requests ≡ before.requests ++ (in_all_blocks (run_of device serial time (pending_of device before.devices)) ++ map (λ u. Queued.untimed u) behind)
  pub empty : pending_of device after.devices ≡ []

-- after any list of calls, of a device that stands, by a call that is not refused
unfoldable pub FrameTakesAll : Type 0
unfolding session_after split fresh stands step refuses
FrameTakesAll =
    (c s n : ℕ) (vs : List (Option ℕ)) (ts : List Turn) (request : Plain) (now room device serial time : ℕ) (behind : List Untimed) →
    let before = session_after (map split ts) (fresh {P = Load} c s n vs) in
    let after = step (split (record { call = Call.plain request; now = now; room = room })) before in
    Closes device before.connection.last_serial now request serial time behind → stands device before.devices ≡ true → refuses after.outcome ≡ false →
    Closed device serial time behind before after.session

-- no other call closes a frame: what it adds to all that was delivered and queued is untimed, of any session
unfoldable pub FramedByClosers : Type 1
unfolding step
FramedByClosers =
    (P : Type 0) (t : Split P) (s : Session P) →
    ((request : Plain) (device serial time : ℕ) (behind : List Untimed) → t.call ≡ Call.plain request →
    Closes device s.connection.last_serial t.now request serial time behind → ⊥) →
    (us : List Untimed) × ((step t s).gave ++ (step t s).session.requests ≡ s.requests ++ map (λ u. Queued.untimed u) us)
