-- Which devices a plan takes out, and what it leaves of the others. Assumes nothing.
use Prim.Native.Nat.{ℕ, ◌+◌, ◌≤◌, ◌<◌}
use mathlib.Core.Path.{◌≡◌, refl, ap, sym, ◌∙◌}
use mathlib.Core.Bool.{Bool, true, false, cond, false≢true}
use mathlib.Core.List.Sublistᴰ
use mathlib.Core.List.{List, [], ◌∷◌, ◌++◌, Sublistᴰ}
use native.Mathlib.Omega.{arith}
use native.Mathlib.Nat.{le_refl}
use lib.Dec.{eqb}
use borrow.Author.Tests.{eqb-true, eq-eqb, lt-ltb, ltb-false}
use Rattle.model.specs.Session.{Device, Session}
use Rattle.model.specs.Edit.{Edit, amended, item, pended, emptied, new_device, enact, enact_all}
use Rattle.model.specs.Step.{gave, gave_all}
use Rattle.model.specs.Reachable.{count_of}
use Rattle.model.specs.Kept.{pending_of}
use Rattle.model.specs.Framed.{stands, gone_from}
use Rattle.model.proofs.Lists.{cond-nil, gone_cons, gone-sum}
use Rattle.model.proofs.All.{All, none, more}
use Rattle.model.proofs.Removals.{without_slot-sub, without_seat-sub}
use Rattle.model.proofs.OneDevice.{standing, took, took_all, at_count, added-count, amended_keeps}
use Rattle.model.proofs.Sorted.{stays, clears, Stays, Clears}

module _ {P : Type 0} where
  -- ---- one device among those that stand no more

  module _ (d : ℕ) where
    pub stands-not : (ds : List (Device P)) → stands d ds ≡ false → standing d ds ≡ 0
    unfolding stands
    stands-not ds h = omega (arith, ltb-false 0 (standing d ds) h)

    module _ (after : List (Device P)) where
      -- by the test of its id
      kept-pending : (b : Bool) (x : Device P) (xs : List (Device P)) →
          pending_of d (cond b [] (x ∷ []) ++ xs) ≡ cond b [] (cond (eqb x.id d) x.pending []) ++ pending_of d xs
      unfolding pending_of
      kept-pending true x xs = refl
      kept-pending false x xs = refl

      kept-count : (b : Bool) (x : Device P) (xs : List (Device P)) → standing d (cond b [] (x ∷ []) ++ xs) ≡ cond b 0 (cond (eqb x.id d) 1 0) + standing d xs
      unfolding count_of
      kept-count true x xs = omega arith
      kept-count false x xs = refl

      same_test : (x : Device P) → eqb x.id d ≡ true → stands x.id after ≡ stands d after
      same_test x h = ap (λ i. stands i after) (eqb-true x.id d h)

      pub gone-pending : (before : List (Device P)) → pending_of d (gone_from after before) ≡ cond (stands d after) [] (pending_of d before)
      unfolding gone_from pending_of
      gone-pending [] = sym (cond-nil (stands d after))
      gone-pending (x ∷ xs) =
          kept-pending (stands x.id after) x (gone_from after xs)
          ∙ gone_cons (eqb x.id d) (stands x.id after) (stands d after) (same_test x) x.pending (pending_of d xs) _ (gone-pending xs)

      pub gone-count : (before : List (Device P)) → standing d (gone_from after before) ≡ cond (stands d after) 0 (standing d before)
      unfolding gone_from count_of
      gone-count [] = nil (stands d after)
        where
          nil : (b : Bool) → ◌≡◌ {A = ℕ} 0 (cond b 0 0)
          nil true = refl
          nil false = refl
      gone-count (x ∷ xs) =
          kept-count (stands x.id after) x (gone_from after xs)
          ∙ gone-sum (eqb x.id d) (stands x.id after) (stands d after) (same_test x) (standing d xs) _ (gone-count xs)

  pub first-stands : (x : Device P) (xs : List (Device P)) → 0 < standing x.id (x ∷ xs)
  unfolding count_of
  first-stands x xs = go (eq-eqb x.id x.id refl)
    where
      go : {b : Bool} → b ≡ true → 0 < cond b 1 0 + standing x.id xs
      go e = rw e (omega arith)

  -- where each that stood still stands, none is gone
  pub gone-none : (after before : List (Device P)) → ((d : ℕ) → 0 < standing d before → 0 < standing d after) → gone_from after before ≡ []
  unfolding gone_from stands count_of
  gone-none after [] h = refl
  gone-none after (x ∷ xs) h = rw (lt-ltb 0 (standing x.id after) (h x.id (first-stands x xs))) (gone-none after xs (λ d l. h d (omega arith)))

  -- ---- plans under which every device stays

  edit-stands : (frames : Bool) (d : ℕ) (e : Edit) (p : P) (s : Session P) → stays frames e ≡ true → standing d s.devices ≤ standing d (enact e p s).devices
  unfolding enact stays pended emptied
  edit-stands frames d (Edit.raise n) p s h = le_refl _
  edit-stands frames d (Edit.add_seat caps) p s h = le_refl _
  edit-stands frames d (Edit.remove_seat seat) p s h = le_refl _
  edit-stands frames d (Edit.add_device seat caps) p s h = let n = s.connection.next_id in omega (arith, added-count d s.devices (new_device n seat caps))
  edit-stands frames d (Edit.remove_device k) p s h = absurd (false≢true h)
  edit-stands frames d (Edit.remove_devices_of seat) p s h = absurd (false≢true h)
  edit-stands frames d (Edit.amend k a) p s h = omega (arith, at_count d (amended a) (λ x. (amended_keeps a x).0) k s.devices)
  edit-stands frames d (Edit.pend k sight) p s h = omega (arith, at_count d (pended (item sight p)) (λ x. refl) k s.devices)
  edit-stands frames d (Edit.frame k serial time) p s h = omega (arith, at_count d emptied (λ x. refl) k s.devices)
  edit-stands frames d (Edit.queue u) p s h = le_refl _
  edit-stands frames d Edit.deliver p s h = le_refl _
  edit-stands frames d (Edit.peer_object id) p s h = le_refl _
  edit-stands frames d Edit.end_connection p s h = le_refl _

  pub edits_stand : (frames : Bool) (d : ℕ) {es : List Edit} (p : P) (s : Session P) → All (Stays frames) es → standing d s.devices ≤ standing d (enact_all es p s).devices
  unfolding enact_all
  edits_stand frames d p s none = le_refl _
  edits_stand frames d p s (more {x = e} h a) = omega (arith, edit-stands frames d e p s h, edits_stand frames d p (enact e p s) a)

  pub staying-none : (frames : Bool) {es : List Edit} (p : P) (s : Session P) → All (Stays frames) es → gone_from (enact_all es p s).devices s.devices ≡ []
  staying-none frames {es} p s a = gone-none (enact_all es p s).devices s.devices (λ d l. omega (arith, edits_stand frames d p s a))

  -- ---- plans that do nothing with requests but take devices out

  pub record Cleared (s s' : Session P) : Type 0 where
    pub requests : s'.requests ≡ s.requests
    pub next_id : s'.connection.next_id ≡ s.connection.next_id
    pub devices : Sublistᴰ s'.devices s.devices

  edit_cleared : (e : Edit) (p : P) (s : Session P) → clears e ≡ true → Cleared s (enact e p s)
  unfolding enact clears
  edit_cleared (Edit.raise n) p s h = record { requests = refl; next_id = refl; devices = Sublistᴰ.refl s.devices }
  edit_cleared (Edit.add_seat caps) p s h = absurd (false≢true h)
  edit_cleared (Edit.remove_seat seat) p s h = record { requests = refl; next_id = refl; devices = Sublistᴰ.refl s.devices }
  edit_cleared (Edit.add_device seat caps) p s h = absurd (false≢true h)
  edit_cleared (Edit.remove_device k) p s h = record { requests = refl; next_id = refl; devices = without_slot-sub k s.devices }
  edit_cleared (Edit.remove_devices_of seat) p s h = record { requests = refl; next_id = refl; devices = without_seat-sub seat s.devices }
  edit_cleared (Edit.amend k a) p s h = absurd (false≢true h)
  edit_cleared (Edit.pend k sight) p s h = absurd (false≢true h)
  edit_cleared (Edit.frame k serial time) p s h = absurd (false≢true h)
  edit_cleared (Edit.queue u) p s h = absurd (false≢true h)
  edit_cleared Edit.deliver p s h = absurd (false≢true h)
  edit_cleared (Edit.peer_object id) p s h = absurd (false≢true h)
  edit_cleared Edit.end_connection p s h = record { requests = refl; next_id = refl; devices = Sublistᴰ.refl s.devices }

  pub clearing-clears : {es : List Edit} (p : P) (s : Session P) → All Clears es → Cleared s (enact_all es p s)
  unfolding enact_all
  clearing-clears p s none = record { requests = refl; next_id = refl; devices = Sublistᴰ.refl s.devices }
  clearing-clears p s (more {x = e} h a) =
      let c = edit_cleared e p s h in
      let r = clearing-clears p (enact e p s) a in
      record { requests = r.requests ∙ c.requests; next_id = r.next_id ∙ c.next_id; devices = Sublistᴰ.trans r.devices c.devices }

  clear_gave : (e : Edit) (s : Session P) → clears e ≡ true → gave e s ≡ []
  unfolding gave clears
  clear_gave (Edit.raise n) s h = refl
  clear_gave (Edit.add_seat caps) s h = refl
  clear_gave (Edit.remove_seat seat) s h = refl
  clear_gave (Edit.add_device seat caps) s h = refl
  clear_gave (Edit.remove_device k) s h = refl
  clear_gave (Edit.remove_devices_of seat) s h = refl
  clear_gave (Edit.amend k a) s h = refl
  clear_gave (Edit.pend k sight) s h = refl
  clear_gave (Edit.frame k serial time) s h = refl
  clear_gave (Edit.queue u) s h = refl
  clear_gave Edit.deliver s h = absurd (false≢true h)
  clear_gave (Edit.peer_object id) s h = refl
  clear_gave Edit.end_connection s h = refl

  pub clearing-gave : {es : List Edit} (p : P) (s : Session P) → All Clears es → gave_all es p s ≡ []
  unfolding gave_all
  clearing-gave p s none = refl
  clearing-gave p s (more {x = e} h a) = rw (clear_gave e s h) (clearing-gave p (enact e p s) a)

  clear_took : (d : ℕ) (e : Edit) (p : P) (s : Session P) → clears e ≡ true → took d e p s ≡ []
  unfolding took clears
  clear_took d (Edit.raise n) p s h = refl
  clear_took d (Edit.add_seat caps) p s h = refl
  clear_took d (Edit.remove_seat seat) p s h = refl
  clear_took d (Edit.add_device seat caps) p s h = refl
  clear_took d (Edit.remove_device k) p s h = refl
  clear_took d (Edit.remove_devices_of seat) p s h = refl
  clear_took d (Edit.amend k a) p s h = refl
  clear_took d (Edit.pend k sight) p s h = absurd (false≢true h)
  clear_took d (Edit.frame k serial time) p s h = refl
  clear_took d (Edit.queue u) p s h = refl
  clear_took d Edit.deliver p s h = refl
  clear_took d (Edit.peer_object id) p s h = refl
  clear_took d Edit.end_connection p s h = refl

  pub clearing-took : (d : ℕ) {es : List Edit} (p : P) (s : Session P) → All Clears es → took_all d es p s ≡ []
  unfolding took_all
  clearing-took d p s none = refl
  clearing-took d p s (more {x = e} h a) = rw (clear_took d e p s h) (clearing-took d p (enact e p s) a)
