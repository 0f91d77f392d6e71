-- What a removal leaves of interfaces, seats or devices is a sublist: they stand in the order that they had. Assumes nothing.
use Prim.Native.Nat.{ℕ, zero, suc}
use mathlib.Core.Path.{refl, ap}
use mathlib.Core.Bool.{Bool, true, false, cond}
use mathlib.Core.List.Sublistᴰ
use mathlib.Core.List.{List, [], ◌∷◌, ◌++◌, map, Sublistᴰ}
use lib.Dec.{eqb}
use Rattle.model.specs.Session.{Interface, Seat, Device}
use Rattle.model.specs.Edit.{interfaces_without, seats_without, without_slot, without_seat}

pub sub-map : {A B : Type 0} (f : A → B) {xs ys : List A} → Sublistᴰ xs ys → Sublistᴰ (map f xs) (map f ys)
sub-map f Sublistᴰ.slnil = Sublistᴰ.slnil
sub-map f (Sublistᴰ.cons s) = Sublistᴰ.cons (sub-map f s)
sub-map f (Sublistᴰ.cons-cons e s) = Sublistᴰ.cons-cons (ap f e) (sub-map f s)

-- by a test: the first that passes goes, or each
first-sub : {A : Type 0} (b : Bool) (x : A) {xs ys : List A} → Sublistᴰ xs ys → Sublistᴰ (cond b ys (x ∷ xs)) (x ∷ ys)
first-sub true x {ys = ys} s = Sublistᴰ.cons (Sublistᴰ.refl ys)
first-sub false x s = Sublistᴰ.cons-cons refl s

each_sub : {A : Type 0} (b : Bool) (x : A) {xs ys : List A} → Sublistᴰ xs ys → Sublistᴰ (cond b [] (x ∷ []) ++ xs) (x ∷ ys)
each_sub true x s = Sublistᴰ.cons s
each_sub false x s = Sublistᴰ.cons-cons refl s

pub interfaces_without-sub : (cap : ℕ) (is : List Interface) → Sublistᴰ (interfaces_without cap is) is
unfolding interfaces_without
interfaces_without-sub cap [] = Sublistᴰ.slnil
interfaces_without-sub cap (i ∷ is) = each_sub (eqb i.capability cap) i (interfaces_without-sub cap is)

pub seats_without-sub : (id : ℕ) (ss : List Seat) → Sublistᴰ (seats_without id ss) ss
unfolding seats_without
seats_without-sub id [] = Sublistᴰ.slnil
seats_without-sub id (s ∷ ss) = first-sub (eqb s.id id) s (seats_without-sub id ss)

module _ {P : Type 0} where
  pub without_slot-sub : (k : ℕ) (ds : List (Device P)) → Sublistᴰ (without_slot k ds) ds
  unfolding without_slot
  without_slot-sub k [] = Sublistᴰ.slnil
  without_slot-sub zero (d ∷ ds) = Sublistᴰ.cons (Sublistᴰ.refl ds)
  without_slot-sub (suc k) (d ∷ ds) = Sublistᴰ.cons-cons refl (without_slot-sub k ds)

  pub without_seat-sub : (seat : ℕ) (ds : List (Device P)) → Sublistᴰ (without_seat seat ds) ds
  unfolding without_seat
  without_seat-sub seat [] = Sublistᴰ.slnil
  without_seat-sub seat (d ∷ ds) = each_sub (eqb d.seat seat) d (without_seat-sub seat ds)
