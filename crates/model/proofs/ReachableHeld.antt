-- "Held touches never exceed 16": every edit but a touch down keeps it, and that one does where fewer than 16 are held. Assumes nothing.
use Prim.Native.Nat.{ℕ, zero, suc, ◌≤◌, ◌<◌}
use mathlib.Core.Path.{◌≡◌, refl}
use mathlib.Core.Bool.{Bool, true, false, ◌&&◌, cond, false≢true}
use mathlib.Core.List.{List, [], ◌∷◌, ◌++◌, Sublistᴰ}
use native.Mathlib.Omega.{arith}
use lib.Dec.{eqb}
use lib.ListN.{length, length-append}
use borrow.Author.Tests.{le-leb}
use Rattle.touches.specs.Touches.{without}
use Rattle.model.specs.Session.{Device, Session}
use Rattle.model.specs.Edit.{Amend, Edit, amended, item, pended, emptied, new_device, at, enact, enact_all}
use Rattle.model.specs.Reachable.{held_within}
use Rattle.model.proofs.Removals.{without_slot-sub, without_seat-sub}

-- all but a touch down
unfoldable pub quiet : Edit → Bool
quiet (Edit.raise n) = true
quiet (Edit.add_seat caps) = true
quiet (Edit.remove_seat seat) = true
quiet (Edit.add_device seat caps) = true
quiet (Edit.remove_device k) = true
quiet (Edit.remove_devices_of seat) = true
quiet (Edit.amend k (Amend.touch_down t)) = false
quiet (Edit.amend k (Amend.touch_up t)) = true
quiet (Edit.amend k Amend.clear_touches) = true
quiet (Edit.amend k (Amend.unlist cap)) = true
quiet (Edit.pend k sight) = true
quiet (Edit.frame k serial time) = true
quiet (Edit.queue r) = true
quiet Edit.deliver = true
quiet (Edit.peer_object id) = true
quiet Edit.end_connection = true

unfoldable pub all_quiet : List Edit → Bool
unfolding quiet
all_quiet [] = true
all_quiet (e ∷ es) = quiet e && all_quiet es

pub both : (a b : Bool) → (a && b) ≡ true → (a ≡ true) × (b ≡ true)
both true b e = (refl, e)
both false b e = absurd (false≢true e)

cond-length : (b : Bool) (y : ℕ) (xs ys : List ℕ) → length xs ≤ length ys → length (cond b ys (y ∷ xs)) ≤ suc (length ys)
cond-length true y xs ys h = omega arith
cond-length false y xs ys h = omega arith

without-length : (x : ℕ) (ys : List ℕ) → length (without x ys) ≤ length ys
unfolding without
without-length x [] = omega arith
without-length x (y ∷ ys) = cond-length (eqb x y) y (without x ys) ys (without-length x ys)

module _ {P : Type 0} where
  unfoldable pub Held : List (Device P) → Type 0
  Held [] = Unit {0}
  Held (d ∷ ds) = (length d.down_touch_ids ≤ 16) × Held ds

  pub held_within_lem : (ds : List (Device P)) → Held ds → held_within 16 ds ≡ true
  unfolding Held held_within
  held_within_lem [] h = refl
  held_within_lem (d ∷ ds) h = rw (le-leb (length d.down_touch_ids) 16 h.0) (held_within_lem ds h.1)

  held-sub : {ds es : List (Device P)} → Sublistᴰ ds es → Held es → Held ds
  unfolding Held
  held-sub Sublistᴰ.slnil h = tt
  held-sub (Sublistᴰ.cons s) h = held-sub s h.1
  held-sub (Sublistᴰ.cons-cons e s) h = (rw e h.0, held-sub s h.1)

  held_new : (id seat caps : ℕ) (ds : List (Device P)) → Held ds → Held (ds ++ (new_device id seat caps ∷ []))
  unfolding Held new_device
  held_new id seat caps [] h = (omega arith, tt)
  held_new id seat caps (d ∷ ds) h = (h.0, held_new id seat caps ds h.1)

  -- a change of a slot's device, which then holds no more
  held_at : (f : Device P → Device P) → ((d : Device P) → length (f d).down_touch_ids ≤ length d.down_touch_ids) → (k : ℕ) (ds : List (Device P)) →
      Held ds → Held (at f k ds)
  unfolding Held at
  held_at f l k [] h = tt
  held_at f l zero (d ∷ ds) h = (omega (arith, l d), h.1)
  held_at f l (suc k) (d ∷ ds) h = (h.0, held_at f l k ds h.1)

  edit-held : (e : Edit) (p : P) (s : Session P) → quiet e ≡ true → Held s.devices → Held (enact e p s).devices
  unfolding enact quiet
  edit-held (Edit.raise n) p s q h = h
  edit-held (Edit.add_seat caps) p s q h = h
  edit-held (Edit.remove_seat seat) p s q h = h
  edit-held (Edit.add_device seat caps) p s q h = held_new s.connection.next_id seat caps s.devices h
  edit-held (Edit.remove_device k) p s q h = held-sub (without_slot-sub k s.devices) h
  edit-held (Edit.remove_devices_of seat) p s q h = held-sub (without_seat-sub seat s.devices) h
  edit-held (Edit.amend k (Amend.touch_down t)) p s q h = absurd (false≢true q)
  edit-held (Edit.amend k (Amend.touch_up t)) p s q h = held_at (amended (Amend.touch_up t)) (λ d. without-length t d.down_touch_ids) k s.devices h
  edit-held (Edit.amend k Amend.clear_touches) p s q h = held_at (amended Amend.clear_touches) (λ d. omega arith) k s.devices h
  edit-held (Edit.amend k (Amend.unlist cap)) p s q h = held_at (amended (Amend.unlist cap)) (λ d. omega arith) k s.devices h
  edit-held (Edit.pend k sight) p s q h = held_at (pended (item sight p)) (λ d. omega arith) k s.devices h
  edit-held (Edit.frame k serial time) p s q h = held_at emptied (λ d. omega arith) k s.devices h
  edit-held (Edit.queue r) p s q h = h
  edit-held Edit.deliver p s q h = h
  edit-held (Edit.peer_object id) p s q h = h
  edit-held Edit.end_connection p s q h = h

  pub edits-held : (es : List Edit) (p : P) (s : Session P) → all_quiet es ≡ true → Held s.devices → Held (enact_all es p s).devices
  unfolding enact_all all_quiet
  edits-held [] p s q h = h
  edits-held (e ∷ es) p s q h =
      let (r, t) = both (quiet e) (all_quiet es) q in
      edits-held es p (enact e p s) t (edit-held e p s r h)

  -- the touches that the device of a slot holds
  unfoldable pub touches_at : ℕ → List (Device P) → List ℕ
  touches_at k [] = []
  touches_at zero (d ∷ ds) = d.down_touch_ids
  touches_at (suc k) (d ∷ ds) = touches_at k ds

  pub down_held : (t k : ℕ) (ds : List (Device P)) → length (touches_at k ds) < 16 → Held ds → Held (at (amended (Amend.touch_down t)) k ds)
  unfolding Held at amended touches_at
  down_held t k [] l h = tt
  down_held t zero (d ∷ ds) l h = (omega (arith, length-append d.down_touch_ids (t ∷ [])), h.1)
  down_held t (suc k) (d ∷ ds) l h = (h.0, down_held t k ds l h.1)
