-- The devices of a seat taken out slot by slot, and the seats one by one. Assumes nothing.
use Prim.Native.Nat.{ℕ, zero, suc, ◌+◌, ◌-◌, ◌≤◌, ◌<◌}
use mathlib.Core.Path.{◌≡◌, refl, sym, ap, ap₂, ◌∙◌}
use mathlib.Core.List.{List, [], ◌∷◌}
use native.Mathlib.Omega.{arith}
use native.Mathlib.Numerals.{add-one}
use borrow.Author.Tests.{eq-eqb, ne_eqb}
use lib.ListN.{length, get_or}
use Rattle.model.specs.Call.{Load}
use Rattle.model.specs.Session.{Seat, Device, Connection, Session}
use Rattle.model.specs.Edit.{Edit, seats_without, connection_with, without_slot, without_seat, with_connection, with_devices, enact, enact_all}
use Rattle.model.specs.Decide.{remove_seats}
use Rattle.control.specs.Table.{tab}
use Rattle.control.specs.Control.{seat_count, device_count, seat_at, connection_of, core_at}
use Rattle.control.specs.Sound.{Sound}
use Rattle.control.proofs.Tables.{tab_at, tab-length}
use Rattle.control.proofs.Models.{seats_are, seats-length}
use Rattle.session.specs.View.{Store, device_in, session}
use Rattle.session.specs.Enact.{Enacted}
use Rattle.session.proofs.Views.{connection_is, device_at, devices_are, devices-length, enacted_join}

-- ---- the devices of a seat

module _ (seat : ℕ) where
  -- taken out from slot i on
  unfoldable pub part : ℕ → List (Device Load) → List (Device Load)
  unfolding without_seat
  part zero ds = without_seat seat ds
  part (suc i) [] = []
  part (suc i) (d ∷ ds) = d ∷ part i ds

  -- d stands for a device at places past the list
  module _ (d : Device Load) where
    part_hit : (i : ℕ) (ds : List (Device Load)) → i < length ds → (get_or ds i d).seat ≡ seat → part i (without_slot i ds) ≡ part i ds
    unfolding part without_seat without_slot
    part_hit i [] l e = absurd (omega arith)
    part_hit zero (x ∷ xs) l e = rw (eq-eqb x.seat seat e)
    part_hit (suc i) (x ∷ xs) l e = ap (λ (ds : List (Device Load)). x ∷ ds) (part_hit i xs (omega arith) e)

    part_miss : (i : ℕ) (ds : List (Device Load)) → i < length ds → ((get_or ds i d).seat ≡ seat → ⊥) → part (suc i) ds ≡ part i ds
    unfolding part without_seat
    part_miss i [] l e = absurd (omega arith)
    part_miss zero (x ∷ xs) l e = rw (ne_eqb x.seat seat e)
    part_miss (suc i) (x ∷ xs) l e = ap (λ (ds : List (Device Load)). x ∷ ds) (part_miss i xs (omega arith) e)

  part_end : (i : ℕ) (ds : List (Device Load)) → length ds ≤ i → part i ds ≡ ds
  unfolding part without_seat
  part_end zero [] l = refl
  part_end zero (x ∷ xs) l = absurd (omega arith)
  part_end (suc i) [] l = refl
  part_end (suc i) (x ∷ xs) l = ap (λ (ds : List (Device Load)). x ∷ ds) (part_end i xs (omega arith))

without-length : (k : ℕ) (ds : List (Device Load)) → k < length ds → length (without_slot k ds) + 1 ≡ length ds
unfolding without_slot
without-length k [] l = absurd (omega arith)
without-length zero (d ∷ ds) l = omega arith
without-length (suc k) (d ∷ ds) l = omega (arith, without-length k ds (omega arith))

-- what is left to do from slot i on makes of the session e what the whole makes of s
pub record Dropping (s e : Store) (seat i : ℕ) : Type 0 where
  pub sound : Sound e.control
  pub view : with_devices (part seat i (session e).devices) (session e) ≡ with_devices (without_seat seat (session s).devices) (session s)

module _ (e : Store) (i : ℕ) (l : i < device_count e.control) where
  within : i < length (session e).devices
  within = omega (arith, devices-length e)

  seat_at_lem : (get_or (session e).devices i (device_at e 0)).seat ≡ (core_at e.control i).seat
  unfolding device_in
  seat_at_lem =
      ap (λ (ds : List (Device Load)). (get_or ds i (device_at e 0)).seat) (devices_are e)
      ∙ ap (λ (d : Device Load). d.seat) (tab_at (device_count e.control) (device_at e) i (device_at e 0) l)

  -- one device fewer
  pub device-fewer : {f : Store} {load : Load} → Enacted e f (Edit.remove_device i ∷ []) load → device_count f.control + 1 ≡ device_count e.control
  unfolding enact_all enact with_devices
  device-fewer {f} o =
      let n = ap (λ (x : Session Load). length x.devices) o.view in
      omega (arith, n, without-length i (session e).devices within, devices-length e, devices-length f)

  module _ (s : Store) (seat : ℕ) where
    pub dropping_hit : {f : Store} {load : Load} → (core_at e.control i).seat ≡ seat → Enacted e f (Edit.remove_device i ∷ []) load → Dropping s e seat i
        → Dropping s f seat i
    unfolding enact_all enact with_devices
    dropping_hit h o d =
        let ds : List (Device Load) = (session e).devices in
        record {
          sound = o.sound;
          view =
              ap (λ (x : Session Load). with_devices (part seat i x.devices) x) o.view
              ∙ ap (λ (xs : List (Device Load)). with_devices xs (session e)) (part_hit seat (device_at e 0) i ds within (seat_at_lem ∙ h)) ∙ d.view;
        }

    pub dropping_miss : ((core_at e.control i).seat ≡ seat → ⊥) → Dropping s e seat i → Dropping s e seat (i + 1)
    dropping_miss h d =
        let ds : List (Device Load) = (session e).devices in
        record {
          sound = d.sound;
          view =
              ap (λ (xs : List (Device Load)). with_devices xs (session e))
              (ap (λ (j : ℕ). part seat j ds) (add-one i) ∙ part_miss seat (device_at e 0) i ds within (λ z. h (sym seat_at_lem ∙ z)))
              ∙ d.view;
        }

module _ (s : Store) (seat : ℕ) where
  pub dropping_none : Sound s.control → Dropping s s seat 0
  unfolding part
  dropping_none ok = record { sound = ok; view = refl }

  pub dropping_end : (e : Store) (i : ℕ) (load : Load) → device_count e.control ≤ i → Dropping s e seat i
      → Enacted s e (Edit.remove_devices_of seat ∷ []) load
  unfolding enact_all enact with_devices
  dropping_end e i load l d =
      record {
        sound = d.sound;
        view =
            ap (λ (ds : List (Device Load)). with_devices ds (session e))
            (sym (part_end seat i (session e).devices (omega (arith, devices-length e)))) ∙ d.view;
      }

-- ---- the seats

-- what is left to do makes of the session e what the whole makes of s
pub record Emptying (s e : Store) (load : Load) : Type 0 where
  pub sound : Sound e.control
  pub view :
      enact_all (remove_seats (connection_of e.control).seats) load (session e) ≡ enact_all (remove_seats (connection_of s.control).seats) load (session s)

first-seat : (id : ℕ) (t : Seat) (ss : List Seat) → id ≡ t.id → seats_without id (t ∷ ss) ≡ ss
unfolding seats_without
first-seat id t ss e = rw (eq-eqb t.id id (sym e))

-- a seat and its devices gone from e: f
module _ {e m f : Store} {load : Load} {seat id : ℕ} (l : 0 < seat_count e.control) (a : Enacted e m (Edit.remove_devices_of seat ∷ []) load)
    (b : Enacted m f (Edit.remove_seat id ∷ []) load) (same : seat ≡ id) (first : id ≡ (seat_at e.control 0).id) where
  abbrev others : List Seat
  others = tab (seat_count e.control - 1) (λ j. seat_at e.control (suc j))

  seats-split : (connection_of e.control).seats ≡ seat_at e.control 0 ∷ others
  unfolding tab
  seats-split =
      let z : seat_count e.control ≡ suc (seat_count e.control - 1) = omega arith in
      seats_are e.control ∙ ap (λ (n : ℕ). tab n (seat_at e.control)) z

  both : Enacted e f (Edit.remove_devices_of seat ∷ Edit.remove_seat id ∷ []) load
  both = enacted_join a b

  seats-left : (connection_of f.control).seats ≡ others
  unfolding enact_all enact with_connection connection_with with_devices
  seats-left =
      ap (λ (n : Connection). n.seats) (sym (connection_is f)) ∙ ap (λ (x : Session Load). x.connection.seats) both.view
      ∙ ap (λ (n : Connection). seats_without id n.seats) (connection_is e) ∙ ap (seats_without id) seats-split ∙ first-seat id (seat_at e.control 0) others first

  -- one seat fewer
  pub seat-fewer : seat_count f.control + 1 ≡ seat_count e.control
  seat-fewer =
      let n = ap length seats-left in
      omega (arith, n, seats-length f.control, tab-length (seat_count e.control - 1) (λ j. seat_at e.control (suc j)))

  pub emptying_step : {s : Store} → Emptying s e load → Emptying s f load
  unfolding enact_all remove_seats
  emptying_step d =
      record {
        sound = b.sound;
        view =
            ap₂ (λ (ss : List Seat) (x : Session Load). enact_all (remove_seats ss) load x) seats-left both.view
            ∙ ap₂ (λ (i j : ℕ). enact_all (Edit.remove_devices_of i ∷ Edit.remove_seat j ∷ remove_seats others) load (session e)) (same ∙ first) first
            ∙ ap (λ (ss : List Seat). enact_all (remove_seats ss) load (session e)) (sym seats-split) ∙ d.view;
      }

module _ (s : Store) (load : Load) where
  pub emptying_none : Sound s.control → Emptying s s load
  emptying_none ok = record { sound = ok; view = refl }

  pub emptying_end : (e : Store) → seat_count e.control ≡ 0 → Emptying s e load → Enacted s e (remove_seats (connection_of s.control).seats) load
  unfolding enact_all remove_seats tab
  emptying_end e z d =
      let none : (connection_of e.control).seats ≡ [] = seats_are e.control ∙ ap (λ (n : ℕ). tab n (seat_at e.control)) z in
      record { sound = d.sound; view = sym (ap (λ (ss : List Seat). enact_all (remove_seats ss) load (session e)) none) ∙ d.view }
