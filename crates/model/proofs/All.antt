-- What holds of every member of a list, and of every device after an edit. Assumes nothing.
use Prim.Native.Nat.{ℕ, zero, suc}
use mathlib.Core.Bool.{Bool, true, false, cond}
use mathlib.Core.List.{List, [], ◌∷◌, ◌++◌}
use lib.Dec.{eqb}
use Rattle.model.specs.Session.{Device}
use Rattle.model.specs.Edit.{at, without_slot, without_seat}

pub data All {A : Type 0} (Q : A → Type 0) : List A → Type 0 where
  none : All Q []
  more : {x : A} {xs : List A} → Q x → All Q xs → All Q (x ∷ xs)

module _ {A : Type 0} {Q : A → Type 0} where
  pub all_map : {R : A → Type 0} {xs : List A} → ((x : A) → Q x → R x) → All Q xs → All R xs
  all_map h none = none
  all_map h (more {x = x} q a) = more (h x q) (all_map h a)

  pub all_append : {xs ys : List A} → All Q xs → All Q ys → All Q (xs ++ ys)
  all_append none b = b
  all_append (more q a) b = more q (all_append a b)

  pub all_kept : (b : Bool) (x : A) {xs : List A} → Q x → All Q xs → All Q (cond b [] (x ∷ []) ++ xs)
  all_kept true x q a = a
  all_kept false x q a = more q a

module _ {P : Type 0} {Q : Device P → Type 0} where
  pub all_at : (g : Device P → Device P) → ((x : Device P) → Q x → Q (g x)) → (k : ℕ) {xs : List (Device P)} → All Q xs → All Q (at g k xs)
  unfolding at
  all_at g h k none = none
  all_at g h zero (more {x = x} q a) = more (h x q) a
  all_at g h (suc k) (more q a) = more q (all_at g h k a)

  pub all_without_slot : (k : ℕ) {xs : List (Device P)} → All Q xs → All Q (without_slot k xs)
  unfolding without_slot
  all_without_slot k none = none
  all_without_slot zero (more q a) = a
  all_without_slot (suc k) (more q a) = more q (all_without_slot k a)

  pub all_without_seat : (seat : ℕ) {xs : List (Device P)} → All Q xs → All Q (without_seat seat xs)
  unfolding without_seat
  all_without_seat seat none = none
  all_without_seat seat (more {x = x} q a) = all_kept (eqb x.seat seat) x q (all_without_seat seat a)
