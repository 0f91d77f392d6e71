-- What holds of every session that calls lead to from a fresh one. Assumes nothing.
use Rattle.std.specs.Prelude.{ℕ, ◌+◌, ◌≤◌, ◌≡◌, Bool, true, ◌&&◌, cond, List, [], ◌∷◌, ◌++◌, map, leb, ltb, eqb, length}
use Rattle.std.proofs.Math.Option.{Option}
use Rattle.model.specs.Call.{Load, Turn, Split, split}
use Rattle.model.specs.Session.{Device, Session, fresh}
use Rattle.model.specs.Plan.{Result, Sent}
use Rattle.model.specs.Step.{Step, step}
use Rattle.model.specs.Demand3.{made, trail}

-- numbers that ascend, from a bound on
unfoldable pub ascends_from : ℕ → List ℕ → Bool
ascends_from low [] = true
ascends_from low (x ∷ xs) = leb low x && ascends_from (x + 1) xs

unfoldable pub all_below : ℕ → List ℕ → Bool
all_below high [] = true
all_below high (x ∷ xs) = ltb x high && all_below high xs

-- how often a number is in a list
unfoldable pub count_of : ℕ → List ℕ → ℕ
count_of x [] = 0
count_of x (y ∷ ys) = cond (eqb y x) 1 0 + count_of x ys

module _ {P : Type 0} where
  unfoldable pub seat_ids : Session P → List ℕ
  seat_ids s = map (λ x. x.id) s.connection.seats

  abbrev pub device_ids_in : List (Device P) → List ℕ
  device_ids_in ds = map (λ d. d.id) ds

  unfoldable pub device_ids : Session P → List ℕ
  device_ids s = device_ids_in s.devices

  -- of all devices
  unfoldable pub interface_ids_in : List (Device P) → List ℕ
  interface_ids_in [] = []
  interface_ids_in (d ∷ ds) = map (λ i. i.id) d.interfaces ++ interface_ids_in ds

  -- each device's interfaces, by ascending capability bit
  unfoldable pub bits_ascend : List (Device P) → Bool
  bits_ascend [] = true
  bits_ascend (d ∷ ds) = ascends_from 0 (map (λ i. i.capability) d.interfaces) && bits_ascend ds

  unfoldable pub held_within : ℕ → List (Device P) → Bool
  held_within most [] = true
  held_within most (d ∷ ds) = leb (length d.down_touch_ids) most && held_within most ds

-- "interfaces by capability bit, devices and seats by id, each ascending"; "Held touches never exceed 16"
pub record Orderly {P : Type 0} (s : Session P) : Type 0 where
  pub seats : ascends_from 0 (seat_ids s) ≡ true
  pub devices : ascends_from 0 (device_ids s) ≡ true
  pub seat_once : (id : ℕ) → count_of id (seat_ids s) ≤ 1
  pub device_once : (id : ℕ) → count_of id (device_ids s) ≤ 1
  pub interfaces : bits_ascend s.devices ≡ true
  pub interface_once : (id : ℕ) → count_of id (interface_ids_in s.devices) ≤ 1
  pub seats_given : all_below s.connection.next_id (seat_ids s) ≡ true
  pub devices_given : all_below s.connection.next_id (device_ids s) ≡ true
  pub interfaces_given : all_below s.connection.next_id (interface_ids_in s.devices) ≡ true
  pub held : held_within 16 s.devices ≡ true

-- the session after a list of calls
unfoldable pub session_after : {P : Type 0} → List (Split P) → Session P → Session P
unfolding step
session_after [] s = s
session_after (t ∷ ts) s = session_after ts (step t s).session

unfoldable pub ReachableOrderly : Type 0
unfolding session_after split fresh
ReachableOrderly =
    (c s n : ℕ) (vs : List (Option ℕ)) (ts : List Turn) → Orderly (session_after (map split ts) (fresh {P = Load} c s n vs))

-- the ids that a call gave, told from its answer: a seat's; a device's and those of its interfaces
unfoldable pub new_ids : Result → List Sent → List ℕ
unfolding made
new_ids Result.accepted es = []
new_ids (Result.refused n) es = []
new_ids (Result.refused_version i v) es = []
new_ids (Result.seat id) es = id ∷ []
new_ids (Result.device id) es = id ∷ map (λ m. m.interface) (made (Result.device id) es)
new_ids (Result.value n) es = []
new_ids (Result.truth b) es = []
new_ids Result.none es = []
new_ids Result.given es = []

unfoldable pub ids_in : {P : Type 0} → List (Step P) → List ℕ
unfolding new_ids
ids_in [] = []
ids_in (r ∷ rs) = new_ids r.outcome r.events ++ ids_in rs

-- "never given twice by one .. session": in the order in which they are given, they ascend from the session's next id on
unfoldable pub IdsAscend : Type 0
unfolding ids_in trail
IdsAscend = (c s n : ℕ) (vs : List (Option ℕ)) (ts : List Turn) → ascends_from n (ids_in (trail c s n vs ts)) ≡ true
