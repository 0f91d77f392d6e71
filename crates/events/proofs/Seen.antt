-- The objects of the session's view are those of the control words alone. Assumes nothing.
use Rattle.std.proofs.Common.{◌≡◌, ℕ, zero, suc, cond, eqb, List, [], ◌∷◌, ◌++◌, refl, ap, ◌∙◌, ap₂}
use Rattle.model.specs.Session.{Seat, Device, map_device, view}
use Rattle.model.specs.Decide.{objects_of, devices_objects, seat_objects, seats_objects}
use Rattle.control.specs.Table.{tab}
use Rattle.control.specs.Control.{device_count, core_at}
use Rattle.session.specs.View.{Store, device_in, session}
use Rattle.session.proofs.Views.{device_seen, seen-devices, device-seat}
use Rattle.events.specs.Events.{bare, bare_devices}

-- devices in the same order, on the same seats and with the same objects
devices_same : (seat n : ℕ) (f g : ℕ → Device (Unit {0})) → ((k : ℕ) → (f k).seat ≡ (g k).seat) → ((k : ℕ) → objects_of (f k) ≡ objects_of (g k))
    → devices_objects seat (tab n f) ≡ devices_objects seat (tab n g)
unfolding devices_objects tab
devices_same seat zero f g s o = refl
devices_same seat (suc n) f g s o =
    ap₂ (λ (xs ys : List ℕ). xs ++ ys) (ap₂ (λ (x : ℕ) (xs : List ℕ). cond (eqb x seat) xs []) (s 0) (o 0))
    (devices_same seat n (λ k. f (suc k)) (λ k. g (suc k)) (λ k. s (suc k)) (λ k. o (suc k)))

module _ (s : Store) where
  pub objects-seen : (k : ℕ) → objects_of (device_seen s k) ≡ objects_of (bare (core_at s.control k))
  unfolding objects_of bare map_device device_in
  objects-seen k = refl

  pub devices_objects-seen : (seat : ℕ) → devices_objects seat (view (session s)).devices ≡ devices_objects seat (bare_devices s.control)
  unfolding bare_devices bare
  devices_objects-seen seat =
      ap (devices_objects seat) (seen-devices s)
      ∙ devices_same seat (device_count s.control) (device_seen s) (λ k. bare (core_at s.control k)) (device-seat s) objects-seen

  pub seat_objects-seen : (seat : ℕ) → seat_objects seat (view (session s)).devices ≡ seat_objects seat (bare_devices s.control)
  unfolding seat_objects
  seat_objects-seen seat = ap (λ (l : List ℕ). l ++ (seat ∷ [])) (devices_objects-seen seat)

  pub seats_objects-seen : (ss : List Seat) → seats_objects ss (view (session s)).devices ≡ seats_objects ss (bare_devices s.control)
  unfolding seats_objects
  seats_objects-seen [] = refl
  seats_objects-seen (t ∷ ss) = ap₂ (λ (xs ys : List ℕ). xs ++ ys) (seat_objects-seen t.id) (seats_objects-seen ss)
