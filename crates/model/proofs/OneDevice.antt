-- What there is of one device, by its id: how many stand, what is pending and queued for it, and how the edits change that. Assumes nothing.
use Prim.Native.Nat.{ℕ, zero, suc, ◌+◌, ◌≤◌}
use mathlib.Core.Path.{◌≡◌, refl, ap, sym, ◌∙◌}
use mathlib.Core.Bool.{cond}
use mathlib.Core.List.{List, [], ◌∷◌, ◌++◌, map, map-append, append-nil, append_assoc, Sublistᴰ}
use native.Mathlib.Omega.{arith}
use lib.Dec.{eqb}
use Rattle.model.specs.Session.{Item, Untimed, Queued, Device, Session}
use Rattle.model.specs.Edit.{Amend, Edit, amended, item, pended, emptied, framed, at, framed_at, rest, enact}
use Rattle.model.specs.Step.{oldest}
use Rattle.model.specs.Demand3.{items_of}
use Rattle.model.specs.Reachable.{count_of}
use Rattle.model.specs.Kept.{pending_of}
use Rattle.model.specs.Framed.{in_block, in_all_blocks, run_of}
use Rattle.model.proofs.Lists.{count-append, cond-nil, cond-cons, none-cons, pend-cons, empty-cons, pass_cons, Fewer, same, fewer_keep, fewer-drop}

pub amended_keeps : {P : Type 0} (a : Amend) (x : Device P) → ((amended a x).id ≡ x.id) × ((amended a x).pending ≡ x.pending)
unfolding amended
amended_keeps (Amend.touch_down t) x = (refl, refl)
amended_keeps (Amend.touch_up t) x = (refl, refl)
amended_keeps Amend.clear_touches x = (refl, refl)
amended_keeps (Amend.unlist cap) x = (refl, refl)

module _ {P : Type 0} where
  -- what a frame queues is one run, or nothing
  pub framed-run : (d s t : ℕ) (is : List (Item P)) → framed d s t is ≡ in_all_blocks (run_of d s t is)
  unfolding framed run_of in_all_blocks in_block
  framed-run d s t [] = refl
  framed-run d s t (i ∷ is) = sym (append-nil _)

  -- a run: its requests, then its Frame
  pub run_is : (d s t : ℕ) (i : Item P) (is : List (Item P)) →
      in_all_blocks (run_of d s t (i ∷ is)) ≡ map (λ x. Queued.timed d t x) (i ∷ is) ++ (Queued.untimed (Untimed.Frame d s t) ∷ [])
  unfolding run_of in_all_blocks in_block
  run_is d s t i is = append-nil _

  pub oldest-rest : (q : List (Queued P)) → oldest q ++ rest q ≡ q
  unfolding oldest rest
  oldest-rest [] = refl
  oldest-rest (r ∷ q) = refl

module _ {P : Type 0} (d : ℕ) where
  -- ---- what is taken, and what stands, of the device with id d

  unfoldable pub taken_at : Item P → ℕ → List (Device P) → List (Item P)
  taken_at i k [] = []
  taken_at i zero (x ∷ xs) = cond (eqb x.id d) (i ∷ []) []
  taken_at i (suc k) (x ∷ xs) = taken_at i k xs

  -- what an edit takes
  unfoldable pub took : Edit → P → Session P → List (Item P)
  unfolding taken_at item
  took (Edit.raise n) p s = []
  took (Edit.add_seat caps) p s = []
  took (Edit.remove_seat seat) p s = []
  took (Edit.add_device seat caps) p s = []
  took (Edit.remove_device k) p s = []
  took (Edit.remove_devices_of seat) p s = []
  took (Edit.amend k a) p s = []
  took (Edit.pend k sight) p s = taken_at (item sight p) k s.devices
  took (Edit.frame k serial time) p s = []
  took (Edit.queue r) p s = []
  took Edit.deliver p s = []
  took (Edit.peer_object id) p s = []
  took Edit.end_connection p s = []

  unfoldable pub took_all : List Edit → P → Session P → List (Item P)
  unfolding took enact
  took_all [] p s = []
  took_all (e ∷ es) p s = took e p s ++ took_all es p (enact e p s)

  -- how many devices have the id
  abbrev pub standing : List (Device P) → ℕ
  standing xs = count_of d (map (λ x. x.id) xs)

  -- ---- a device that does not stand has nothing pending, takes nothing and frames nothing

  pub none-pending : (xs : List (Device P)) → standing xs ≡ 0 → pending_of d xs ≡ []
  unfolding count_of pending_of
  none-pending [] e = refl
  none-pending (x ∷ xs) e = none-cons (eqb x.id d) x.pending (pending_of d xs) (standing xs) (none-pending xs) e

  pub none-taken : (i : Item P) (k : ℕ) (xs : List (Device P)) → standing xs ≡ 0 → taken_at i k xs ≡ []
  unfolding count_of taken_at
  none-taken i k [] e = refl
  none-taken i zero (x ∷ xs) e = sym (append-nil _) ∙ none-cons (eqb x.id d) (i ∷ []) [] 0 (λ _. refl) (omega arith)
  none-taken i (suc k) (x ∷ xs) e = none-taken i k xs (omega arith)

  pub items_append : (q r : List (Queued P)) → items_of d (q ++ r) ≡ items_of d q ++ items_of d r
  unfolding items_of
  items_append [] r = refl
  items_append (Queued.timed e t i ∷ q) r = rw (items_append q r) (sym (append_assoc (cond (eqb e d) (i ∷ []) []) (items_of d q) (items_of d r)))
  items_append (Queued.untimed u ∷ q) r = items_append q r

  items_timed : (e t : ℕ) (is : List (Item P)) → items_of d (map (λ x. Queued.timed e t x) is) ≡ cond (eqb e d) is []
  unfolding items_of
  items_timed e t [] = sym (cond-nil (eqb e d))
  items_timed e t (i ∷ is) = rw (items_timed e t is) (cond-cons (eqb e d) i is)

  items_run : (e s t : ℕ) (is : List (Item P)) → items_of d (in_all_blocks (run_of e s t is)) ≡ cond (eqb e d) is []
  unfolding run_of in_all_blocks items_of
  items_run e s t [] = items_timed e t []
  items_run e s t (i ∷ is) =
      ap (items_of d) (run_is e s t i is)
      ∙ items_append (map (λ x. Queued.timed e t x) (i ∷ is)) (Queued.untimed (Untimed.Frame e s t) ∷ [])
      ∙ append-nil _
      ∙ items_timed e t (i ∷ is)

  items_framed : (e s t : ℕ) (is : List (Item P)) → items_of d (framed e s t is) ≡ cond (eqb e d) is []
  items_framed e s t is = ap (items_of d) (framed-run e s t is) ∙ items_run e s t is

  none-framed : (k s t : ℕ) (xs : List (Device P)) → standing xs ≡ 0 → items_of d (framed_at k s t xs) ≡ []
  unfolding count_of framed_at items_of
  none-framed k s t [] e = refl
  none-framed zero s t (x ∷ xs) e =
      items_framed x.id s t x.pending ∙ sym (append-nil _) ∙ none-cons (eqb x.id d) x.pending [] 0 (λ _. refl) (omega arith)
  none-framed (suc k) s t (x ∷ xs) e = none-framed k s t xs (omega arith)

  -- ---- an edit of the device in a slot

  pub at_count : (g : Device P → Device P) → ((x : Device P) → (g x).id ≡ x.id) → (k : ℕ) (xs : List (Device P)) → standing (at g k xs) ≡ standing xs
  unfolding count_of at
  at_count g h k [] = refl
  at_count g h zero (x ∷ xs) = rw (h x)
  at_count g h (suc k) (x ∷ xs) = rw (at_count g h k xs)

  pub amended-pending : (a : Amend) (k : ℕ) (xs : List (Device P)) → pending_of d (at (amended a) k xs) ≡ pending_of d xs
  unfolding pending_of at
  amended-pending a k [] = refl
  amended-pending a zero (x ∷ xs) = rw ((amended_keeps a x).0, (amended_keeps a x).1)
  amended-pending a (suc k) (x ∷ xs) = rw (amended-pending a k xs)

  pub pended-pending : (i : Item P) (k : ℕ) (xs : List (Device P)) → standing xs ≤ 1 → pending_of d (at (pended i) k xs) ≡ pending_of d xs ++ taken_at i k xs
  unfolding count_of pending_of at pended taken_at
  pended-pending i k [] e = refl
  pended-pending i zero (x ∷ xs) e = pend-cons (eqb x.id d) x.pending (pending_of d xs) i (standing xs) (none-pending xs) e
  pended-pending i (suc k) (x ∷ xs) e =
      rw (pended-pending i k xs (omega arith)) (sym (append_assoc (cond (eqb x.id d) x.pending []) (pending_of d xs) (taken_at i k xs)))

  pub framed-pending : (k s t : ℕ) (xs : List (Device P)) → standing xs ≤ 1 → items_of d (framed_at k s t xs) ++ pending_of d (at emptied k xs) ≡ pending_of d xs
  unfolding count_of pending_of at emptied framed_at items_of
  framed-pending k s t [] e = refl
  framed-pending zero s t (x ∷ xs) e = rw (items_framed x.id s t x.pending) (empty-cons (eqb x.id d) x.pending (pending_of d xs))
  framed-pending (suc k) s t (x ∷ xs) e =
      pass_cons (eqb x.id d) x.pending (items_of d (framed_at k s t xs)) (pending_of d (at emptied k xs)) (pending_of d xs) (standing xs)
      (none-framed k s t xs) e (framed-pending k s t xs (omega arith))

  -- ---- devices removed

  abbrev pub FewerStand : List (Device P) → List (Device P) → Type 0
  FewerStand xs ys = Fewer (standing xs) (pending_of d xs) (standing ys) (pending_of d ys)

  pub sub-fewer : {ys xs : List (Device P)} → Sublistᴰ ys xs → FewerStand xs ys
  unfolding count_of pending_of
  sub-fewer Sublistᴰ.slnil = same refl refl
  sub-fewer (Sublistᴰ.cons {a = x} h) = fewer-drop (eqb x.id d) x.pending (sub-fewer h)
  sub-fewer (Sublistᴰ.cons-cons {b = x} e h) = rw e (fewer_keep (eqb x.id d) x.pending (sub-fewer h))

  -- ---- a device more

  pub standing-append : (xs ys : List (Device P)) → standing (xs ++ ys) ≡ standing xs + standing ys
  standing-append xs ys = ap (count_of d) (map-append (λ x. x.id) xs ys) ∙ count-append d (map (λ x. x.id) xs) (map (λ x. x.id) ys)

  pub pending-append : (xs ys : List (Device P)) → pending_of d (xs ++ ys) ≡ pending_of d xs ++ pending_of d ys
  unfolding pending_of
  pending-append [] ys = refl
  pending-append (x ∷ xs) ys = rw (pending-append xs ys) (sym (append_assoc (cond (eqb x.id d) x.pending []) (pending_of d xs) (pending_of d ys)))

  pub added-count : (xs : List (Device P)) (x : Device P) → standing (xs ++ (x ∷ [])) ≡ standing xs + cond (eqb x.id d) 1 0
  unfolding count_of
  added-count xs x = omega (arith, standing-append xs (x ∷ []))

  pub added-pending : (xs : List (Device P)) (x : Device P) → x.pending ≡ [] → pending_of d (xs ++ (x ∷ [])) ≡ pending_of d xs
  unfolding pending_of
  added-pending xs x e = pending-append xs (x ∷ []) ∙ rw (e, cond-nil {A = Item P} (eqb x.id d)) (append-nil (pending_of d xs))

  pub items_parted : (q : List (Queued P)) → items_of d (oldest q) ++ items_of d (rest q) ≡ items_of d q
  items_parted q = sym (items_append (oldest q) (rest q)) ∙ ap (items_of d) (oldest-rest q)
