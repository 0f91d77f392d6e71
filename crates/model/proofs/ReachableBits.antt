-- Each device lists its interfaces by ascending capability bit: a new one has them so, and every edit keeps it. Assumes nothing.
use Prim.Native.Nat.{ℕ, zero, suc, ◌+◌, ◌/◌, ◌%◌}
use mathlib.Core.Path.{◌≡◌, refl, ap}
use mathlib.Core.Bool.{Bool, true, false, cond}
use mathlib.Core.List.{List, [], ◌∷◌, ◌++◌, map}
use native.Mathlib.Nat.{le_refl, le-add_right}
use native.Mathlib.Omega.{arith}
use lib.Dec.{eqb}
use Rattle.eiproto.specs.Bits.{bits_from, bits_of}
use Rattle.model.specs.Session.{Interface, Device, Session}
use Rattle.model.specs.Edit.{Amend, Edit, interfaces_from, new_interfaces, amended, item, pended, emptied, enact, enact_all}
use Rattle.model.specs.Reachable.{bits_ascend}
use Rattle.model.proofs.All.{All, none, more, all_append, all_at, all_without_slot, all_without_seat}
use Rattle.model.proofs.Ascending.{Between, end, next, lower, left_out, ascends}
use Rattle.model.proofs.Removals.{sub-map, interfaces_without-sub}

abbrev pub bits_in : List Interface → List ℕ
bits_in is = map (λ i. i.capability) is

bits-between : (k p m : ℕ) → Between p (bits_from k p m) (p + k)
unfolding bits_from
bits-between zero p m = end (le-add_right p 0)
bits-between (suc k) p m =
    let z : p + 1 + k ≡ p + suc k = omega arith in go (eqb (m % 2) 1) (rw z at (bits-between k (p + 1) (m / 2)))
  where
    go : (b : Bool) → Between (p + 1) (bits_from k (p + 1) (m / 2)) (p + suc k) → Between p (cond b (p ∷ []) [] ++ bits_from k (p + 1) (m / 2)) (p + suc k)
    go true h = next (le_refl p) h
    go false h = lower (omega arith) h

from_bits : (id : ℕ) (bs : List ℕ) → bits_in (interfaces_from id bs) ≡ bs
unfolding interfaces_from
from_bits id [] = refl
from_bits id (b ∷ bs) = ap (λ r. b ∷ r) (from_bits (id + 1) bs)

-- below the 64 bits of a mask
new_by_bit : (id caps : ℕ) → Between 0 (bits_in (new_interfaces id caps)) 64
unfolding new_interfaces bits_of
new_by_bit id caps = rw (from_bits (id + 1) (bits_from 64 0 caps)) (bits-between 64 0 caps)

module _ {P : Type 0} where
  abbrev pub ByBit : Device P → Type 0
  ByBit d = Between 0 (bits_in d.interfaces) 64

  amended_by_bit : (a : Amend) (d : Device P) → ByBit d → ByBit (amended a d)
  unfolding amended
  amended_by_bit (Amend.touch_down t) d h = h
  amended_by_bit (Amend.touch_up t) d h = h
  amended_by_bit Amend.clear_touches d h = h
  amended_by_bit (Amend.unlist cap) d h = left_out (sub-map (λ i. i.capability) (interfaces_without-sub cap d.interfaces)) h

  edit_by_bit : (e : Edit) (p : P) (s : Session P) → All ByBit s.devices → All ByBit (enact e p s).devices
  unfolding enact
  edit_by_bit (Edit.raise n) p s h = h
  edit_by_bit (Edit.add_seat caps) p s h = h
  edit_by_bit (Edit.remove_seat seat) p s h = h
  edit_by_bit (Edit.add_device seat caps) p s h = all_append h (more (new_by_bit s.connection.next_id caps) none)
  edit_by_bit (Edit.remove_device k) p s h = all_without_slot k h
  edit_by_bit (Edit.remove_devices_of seat) p s h = all_without_seat seat h
  edit_by_bit (Edit.amend k a) p s h = all_at (amended a) (amended_by_bit a) k h
  edit_by_bit (Edit.pend k sight) p s h = all_at (pended (item sight p)) (λ d w. w) k h
  edit_by_bit (Edit.frame k serial time) p s h = all_at emptied (λ d w. w) k h
  edit_by_bit (Edit.queue r) p s h = h
  edit_by_bit Edit.deliver p s h = h
  edit_by_bit (Edit.peer_object id) p s h = h
  edit_by_bit Edit.end_connection p s h = h

  pub edits_by_bit : (es : List Edit) (p : P) (s : Session P) → All ByBit s.devices → All ByBit (enact_all es p s).devices
  unfolding enact_all
  edits_by_bit [] p s h = h
  edits_by_bit (e ∷ es) p s h = edits_by_bit es p (enact e p s) (edit_by_bit e p s h)

  pub by_bit_ascends : {ds : List (Device P)} → All ByBit ds → bits_ascend ds ≡ true
  unfolding bits_ascend
  by_bit_ascends none = refl
  by_bit_ascends (more h a) = rw (ascends h) (by_bit_ascends a)
