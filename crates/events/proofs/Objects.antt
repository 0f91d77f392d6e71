-- The objects that go with devices and seats, slot by slot and bit by bit. Assumes nothing.
use Rattle.std.proofs.Common.{◌≡◌, ℕ, zero, suc, ◌+◌, ◌/◌, ◌%◌, ◌<◌, ◌≤◌, Bool, true, false, cond, eqb, List, [], ◌∷◌, ◌++◌, map, length, sym, refl, ap, ◌∙◌, append_assoc, append-nil, add-one, arith, length-append, eq-eqb, ne_eqb, leb-false, ltb, lt-ltb, ltb-true}
use lib.Count.{ones-le}
use lib.ListN.{length-map}
use Rattle.eiproto.specs.Bits.{bits_from, bits_of, every}
use Rattle.eiproto.specs.Capability.{unknown_bits}
use Rattle.eiproto.proofs.Bits.{bits-length, every_at}
use Rattle.model.specs.Session.{Seat, Device}
use Rattle.model.specs.Decide.{objects_of, devices_objects, seat_objects, seats_objects}
use Rattle.control.specs.Table.{tab}
use Rattle.control.specs.Control.{seat_count, device_count, seat_at, connection_of, capabilities_at, listed_at, interface_id, core_at}
use Rattle.control.proofs.Tables.{case_eq}
use Rattle.control.proofs.Models.{seats_are}
use Rattle.control.proofs.Interfaces.{core-ids}
use Rattle.events.specs.Events.{bare, bare_devices}

-- ---- lists of the places below n, one behind the other

unfoldable pub up_to : ℕ → (ℕ → List ℕ) → List ℕ
up_to zero g = []
up_to (suc n) g = up_to n g ++ g n

module _ (g : ℕ → List ℕ) where
  pub up_none : up_to 0 g ≡ []
  unfolding up_to
  up_none = refl

  pub up_more : (n : ℕ) → up_to (n + 1) g ≡ up_to n g ++ g n
  unfolding up_to
  up_more n = rw add-one

  pub more-length : (n : ℕ) → length (up_to (n + 1) g) ≡ length (up_to n g) + length (g n)
  more-length n = ap length (up_more n) ∙ length-append (up_to n g) (g n)

  up_le : (n m : ℕ) → n ≤ m → length (up_to n g) ≤ length (up_to m g)
  unfolding up_to
  up_le n zero h = let z : n ≡ 0 = omega arith in rw z (omega arith)
  up_le n (suc m) h =
      case_eq n (suc m) (λ e. rw e (omega arith)) (λ e. omega (arith, up_le n m (omega arith), length-append (up_to m g) (g m)))

  -- what is behind place n has its room
  pub up_room : (n m : ℕ) → n < m → length (up_to n g) + length (g n) ≤ length (up_to m g)
  up_room n m h = omega (arith, more-length n, up_le (n + 1) m (omega arith))

up_front : (n : ℕ) (g : ℕ → List ℕ) → g 0 ++ up_to n (λ k. g (suc k)) ≡ up_to (suc n) g
unfolding up_to
up_front zero g = append-nil (g 0)
up_front (suc n) g = sym (append_assoc (g 0) (up_to n (λ k. g (suc k))) (g (suc n))) ∙ ap (λ (l : List ℕ). l ++ g (suc n)) (up_front n g)

-- ---- a device

-- the interfaces of a mask's bits, on a device that was made with the capabilities, then the device
abbrev pub ids_of : (device made m : ℕ) → List ℕ
ids_of device made m = map (interface_id device made) (bits_of m) ++ (device ∷ [])

-- of the id and the capabilities that were read
pub objects_are : (c : List ℕ) (k : ℕ) {id made listed : ℕ} → id ≡ (core_at c k).id → made ≡ capabilities_at c k → listed ≡ listed_at c k
    → objects_of (bare (core_at c k)) ≡ ids_of id made listed
unfolding objects_of bare
objects_are c k i m l = ap (λ (is : List ℕ). is ++ ((core_at c k).id ∷ [])) (core-ids c k) ∙ rw (i, m, l)

pub objects-length : (c : List ℕ) (k : ℕ) {listed : ℕ} → listed ≡ listed_at c k → length (objects_of (bare (core_at c k))) ≡ length (bits_of listed) + 1
objects-length c k l = ap length (objects_are c k refl refl l) ∙ simp (length-append, length-map)

-- a mask of capabilities has at most seven
pub bits_most : (m : ℕ) → m < 128 → length (bits_of m) ≤ 7
bits_most m h = omega (arith, bits-length m (omega arith), ones-le 7 m h)

-- any mask 64
most_from : (k p m : ℕ) → length (bits_from k p m) ≤ k
unfolding bits_from
most_from zero p m = omega arith
most_from (suc k) p m = go (eqb (m % 2) 1) (most_from k (p + 1) (m / 2))
  where
    go : (t : Bool) → length (bits_from k (p + 1) (m / 2)) ≤ k → length (cond t (p ∷ []) [] ++ bits_from k (p + 1) (m / 2)) ≤ suc k
    go true h = omega arith
    go false h = omega arith

pub bits_few : (m : ℕ) → length (bits_of m) ≤ 64
unfolding bits_of
bits_few m = most_from 64 0 m

-- a mask with no unknown bit is one of capabilities
pub bits-known : (m : ℕ) {b : Bool} → b ≡ unknown_bits m → b ≡ false → m < 128
bits-known m e z = leb-false 128 m (sym e ∙ z)

-- ---- the devices of a seat

unfoldable pub of_seat : List ℕ → (seat k : ℕ) → List ℕ
of_seat c seat k = cond (eqb (core_at c k).seat seat) (objects_of (bare (core_at c k))) []

pub seat_hit : (c : List ℕ) (seat k : ℕ) → (core_at c k).seat ≡ seat → of_seat c seat k ≡ objects_of (bare (core_at c k))
unfolding of_seat
seat_hit c seat k e = rw (eq-eqb (core_at c k).seat seat e)

pub seat_miss : (c : List ℕ) (seat k : ℕ) → ((core_at c k).seat ≡ seat → ⊥) → of_seat c seat k ≡ []
unfolding of_seat
seat_miss c seat k e = rw (ne_eqb (core_at c k).seat seat e)

pub miss_more : (c : List ℕ) (seat k : ℕ) → ((core_at c k).seat ≡ seat → ⊥) → up_to (k + 1) (of_seat c seat) ≡ up_to k (of_seat c seat)
miss_more c seat k e =
    up_more (of_seat c seat) k ∙ ap (λ (l : List ℕ). up_to k (of_seat c seat) ++ l) (seat_miss c seat k e) ∙ append-nil (up_to k (of_seat c seat))

devices_up : (seat n : ℕ) (f : ℕ → Device (Unit {0}))
    → devices_objects seat (tab n f) ≡ up_to n (λ k. cond (eqb (f k).seat seat) (objects_of (f k)) [])
unfolding devices_objects tab
devices_up seat zero f = sym (up_none (λ k. cond (eqb (f k).seat seat) (objects_of (f k)) []))
devices_up seat (suc n) f =
    ap (λ (l : List ℕ). cond (eqb (f 0).seat seat) (objects_of (f 0)) [] ++ l) (devices_up seat n (λ k. f (suc k)))
    ∙ up_front n (λ k. cond (eqb (f k).seat seat) (objects_of (f k)) [])

pub devices_are : (c : List ℕ) (seat : ℕ) → devices_objects seat (bare_devices c) ≡ up_to (device_count c) (of_seat c seat)
unfolding bare_devices bare of_seat
devices_are c seat = devices_up seat (device_count c) (λ k. bare (core_at c k))

pub seat_is : (seat : ℕ) (ds : List (Device (Unit {0}))) → seat_objects seat ds ≡ devices_objects seat ds ++ (seat ∷ [])
unfolding seat_objects
seat_is seat ds = refl

pub seat-more : (seat : ℕ) (ds : List (Device (Unit {0}))) → length (seat_objects seat ds) ≡ length (devices_objects seat ds) + 1
seat-more seat ds = ap length (seat_is seat ds) ∙ length-append (devices_objects seat ds) (seat ∷ [])

pub seat-length : (c : List ℕ) (seat : ℕ) → length (seat_objects seat (bare_devices c)) ≡ length (up_to (device_count c) (of_seat c seat)) + 1
seat-length c seat = seat-more seat (bare_devices c) ∙ ap (λ (l : List ℕ). length l + 1) (devices_are c seat)

-- ---- the seats

unfoldable pub of_place : List ℕ → ℕ → List ℕ
of_place c k = seat_objects (seat_at c k).id (bare_devices c)

seats_up : (n : ℕ) (f : ℕ → Seat) (ds : List (Device (Unit {0}))) → seats_objects (tab n f) ds ≡ up_to n (λ k. seat_objects (f k).id ds)
unfolding seats_objects tab
seats_up zero f ds = sym (up_none (λ k. seat_objects (f k).id ds))
seats_up (suc n) f ds =
    ap (λ (l : List ℕ). seat_objects (f 0).id ds ++ l) (seats_up n (λ k. f (suc k)) ds) ∙ up_front n (λ k. seat_objects (f k).id ds)

pub seats_are_up : (c : List ℕ) → seats_objects (connection_of c).seats (bare_devices c) ≡ up_to (seat_count c) (of_place c)
unfolding of_place
seats_are_up c = ap (λ (ss : List Seat). seats_objects ss (bare_devices c)) (seats_are c) ∙ seats_up (seat_count c) (seat_at c) (bare_devices c)

pub place_is : (c : List ℕ) (k seat : ℕ) → seat ≡ (seat_at c k).id → seat_objects seat (bare_devices c) ≡ of_place c k
unfolding of_place
place_is c k seat e = ap (λ (n : ℕ). seat_objects n (bare_devices c)) e

-- ---- bits in turn

below_from : (k p n m : ℕ) → p + k ≤ n → every (λ b. ltb b n) (bits_from k p m) ≡ true
unfolding bits_from every
below_from zero p n m h = refl
below_from (suc k) p n m h = go (eqb (m % 2) 1) (below_from k (p + 1) n (m / 2) (omega arith))
  where
    go : (t : Bool) → every (λ b. ltb b n) (bits_from k (p + 1) (m / 2)) ≡ true → every (λ b. ltb b n) (cond t (p ∷ []) [] ++ bits_from k (p + 1) (m / 2)) ≡ true
    go true e = rw (lt-ltb p n (omega arith)) e
    go false e = e

-- the first of a mask's bits, then those that are left
module _ (m b later : ℕ) (e : bits_of m ≡ b ∷ bits_of later) where
  pub bits-fewer : length (bits_of m) ≡ length (bits_of later) + 1
  bits-fewer = ap length e ∙ omega arith

  pub bit_fits : b < 64
  unfolding bits_of
  bit_fits = ltb-true b 64 (rw e at (every_at (λ x. ltb x 64) (bits_of m) 0 0 (below_from 64 0 64 m (omega arith)) (omega (arith, bits-fewer))))

  pub ids_more : (device made : ℕ) {object : ℕ} → object ≡ interface_id device made b → ids_of device made m ≡ object ∷ ids_of device made later
  ids_more device made o = ap (λ (bs : List ℕ). map (interface_id device made) bs ++ (device ∷ [])) e ∙ rw o

pub ids-last : (device made m : ℕ) → bits_of m ≡ [] → ids_of device made m ≡ device ∷ []
ids-last device made m z = rw z
