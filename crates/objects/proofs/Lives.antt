-- The object of an id, by what the finds say. Assumes nothing.
use Rattle.std.proofs.Common.{◌≡◌, ℕ, Bool, true, false, not, ◌&&◌, eqb, sym, refl, ap, eq-eqb, ne_eqb}
use Rattle.std.specs.Prelude.{Option, Some, None}
use Rattle.std.specs.Option.{is_some as has_value}
use Rattle.std.proofs.Math.Option as math
use mathlib.Core.Option.{some}
use Rattle.eiproto.specs.Interface.{ei_connection, ei_seat, ei_device}
use Rattle.eiproto.specs.Told.{told}
use Rattle.model.specs.Session.{Connection, View, view}
use Rattle.model.specs.Decide.{seat_version, device_version, device_of, seat_of}
use Rattle.model.specs.Live.{is_found, listed_in, interface_object, live}
use Rattle.control.specs.Table.{first}
use Rattle.control.specs.Control.{connection_of, cores_of}
use Rattle.session.specs.View.{Store, session}
use Rattle.session.proofs.Views.{found-seat, no_seat, found-device, no_device}

-- the id is not the connection's, or the connection is gone
abbrev pub Passed : Connection → ℕ → Type 0
Passed n id = eqb n.id id && not n.gone ≡ false

module _ (n : Connection) (id : ℕ) where
  pub gone-passed : n.gone ≡ true → Passed n id
  gone-passed g = rw g (go (eqb n.id id))
    where
      go : (t : Bool) → t && false ≡ false
      go true = refl
      go false = refl

  pub other-passed : (n.id ≡ id → ⊥) → Passed n id
  other-passed h = rw (ne_eqb n.id id h)

module _ (v : View) (id : ℕ) (n : Connection) (e : v.connection ≡ n) where
  pub live-connection : n.id ≡ id → n.gone ≡ false → live v id ≡ some (record { interface = ei_connection; version = 1 })
  unfolding live
  live-connection q g = rw (e, eq-eqb n.id id q, g)

  module _ (p : Passed n id) where
    pub live-seat : is_found (seat_of id v) ≡ true → live v id ≡ some (record { interface = ei_seat; version = seat_version n })
    unfolding live
    live-seat f = rw (f, e, p)

    module _ (no_seat : is_found (seat_of id v) ≡ false) where
      pub live-device : is_found (device_of id v) ≡ true → live v id ≡ some (record { interface = ei_device; version = device_version n })
      unfolding live
      live-device f = rw (no_seat, f, e, p)

      pub live-listed : {o : math.Option ℕ} → is_found (device_of id v) ≡ false → listed_in id v.devices ≡ o → live v id ≡ interface_object n o
      unfolding live
      live-listed d f = rw (no_seat, d, f, e, p)

-- ---- what the finds in the slots say of the view

module _ (s : Store) (id : ℕ) where
  pub seat_seen : (r : Option ℕ) → told r ≡ first (λ t. eqb t.id id) (connection_of s.control).seats → is_found (seat_of id (view (session s))) ≡ has_value r
  unfolding is_found
  seat_seen None e = ap is_found (no_seat s id (sym e))
  seat_seen (Some k) e = ap is_found (found-seat s id (sym e))

  pub device_seen : (r : Option ℕ) → told r ≡ first (λ d. eqb d.id id) (cores_of s.control) → is_found (device_of id (view (session s))) ≡ has_value r
  unfolding is_found
  device_seen None e = ap is_found (no_device s id (sym e))
  device_seen (Some k) e = ap is_found (found-device s id (sym e))
