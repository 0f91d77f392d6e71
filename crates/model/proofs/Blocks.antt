-- What was delivered, then what is queued, is a list of blocks: a call adds blocks at its end, or none, and `next_request` moves a request from the one part to the other.
-- Assumes nothing.
use Prim.Native.Nat.{ℕ, zero, suc}
use mathlib.Core.Path.{◌≡◌, refl, ap, sym, ◌∙◌}
use mathlib.Core.Bool.{Bool, true, false, not, false≢true}
use mathlib.Core.List.{List, [], ◌∷◌, ◌++◌, append-nil, append_assoc, append-eq-nil_iff, head-eq_of_cons-eq, tail-eq_of_cons-eq}
use Rattle.model.specs.Call.{Sight, Call, Split}
use Rattle.model.specs.Session.{Untimed, Queued, Device, Session, View, view}
use Rattle.model.specs.Edit.{Edit, framed_at, enact, enact_all}
use Rattle.model.specs.Step.{gave, gave_all, carried_out, source, unchanged, step, run}
use Rattle.model.specs.Demand3.{delivered}
use Rattle.model.specs.Reachable.{session_after}
use Rattle.model.specs.Framed.{is_frame, Block, in_block, in_all_blocks, run_of, Cut, between, within}
use Rattle.model.proofs.Lists.{moved_twice}
use Rattle.model.proofs.All.{All, none, more}
use Rattle.model.proofs.OneDevice.{framed-run, oldest-rest}
use Rattle.model.proofs.Within.{step_by}
use Rattle.model.proofs.Sorted.{stays, Stays, Sorted, staying, clearing, decide_sorted}
use Rattle.model.proofs.Gone.{clearing-clears, clearing-gave}

no_frame : (u : Untimed) (b : Bool) → is_frame u ≡ b → not b ≡ true → is_frame u ≡ false
no_frame u true e h = absurd (false≢true h)
no_frame u false e h = e

module _ {P : Type 0} where
  -- requests with blocks more at their end
  pub record Grown (earlier later : List (Queued P)) : Type 0 where
    pub blocks : List (Block P)
    pub are : later ≡ earlier ++ in_all_blocks blocks

  blocks-append : (bs cs : List (Block P)) → in_all_blocks (bs ++ cs) ≡ in_all_blocks bs ++ in_all_blocks cs
  unfolding in_all_blocks
  blocks-append [] cs = refl
  blocks-append (b ∷ bs) cs = rw (blocks-append bs cs) (sym (append_assoc (in_block b) (in_all_blocks bs) (in_all_blocks cs)))

  same : (rs : List (Queued P)) → Grown rs rs
  unfolding in_all_blocks
  same rs = record { blocks = []; are = sym (append-nil rs) }

  -- some go out and blocks come in, twice
  twice : (rs out mid out' last : List (Queued P)) → Grown rs (out ++ mid) → Grown mid (out' ++ last) → Grown rs ((out ++ out') ++ last)
  twice rs out mid out' last g h =
      record {
        blocks = g.blocks ++ h.blocks;
        are = rw (blocks-append g.blocks h.blocks) (moved_twice rs out mid out' last (in_all_blocks g.blocks) (in_all_blocks h.blocks) g.are h.are);
      }

  -- ---- an edit

  framed_at-grown : (k s t : ℕ) (ds : List (Device P)) (rs : List (Queued P)) → Grown rs (rs ++ framed_at k s t ds)
  unfolding framed_at in_all_blocks
  framed_at-grown k s t [] rs = record { blocks = []; are = refl }
  framed_at-grown zero s t (x ∷ ds) rs = record { blocks = run_of x.id s t x.pending; are = ap (λ (q : List (Queued P)). rs ++ q) (framed-run x.id s t x.pending) }
  framed_at-grown (suc k) s t (x ∷ ds) rs = framed_at-grown k s t ds rs

  edit-grown : (frames : Bool) (e : Edit) (p : P) (s : Session P) → stays frames e ≡ true → Grown s.requests (gave e s ++ (enact e p s).requests)
  unfolding enact gave stays in_all_blocks in_block
  edit-grown frames (Edit.raise n) p s h = same s.requests
  edit-grown frames (Edit.add_seat caps) p s h = same s.requests
  edit-grown frames (Edit.remove_seat seat) p s h = same s.requests
  edit-grown frames (Edit.add_device seat caps) p s h = same s.requests
  edit-grown frames (Edit.remove_device k) p s h = absurd (false≢true h)
  edit-grown frames (Edit.remove_devices_of seat) p s h = absurd (false≢true h)
  edit-grown frames (Edit.amend k a) p s h = same s.requests
  edit-grown frames (Edit.pend k sight) p s h = same s.requests
  edit-grown frames (Edit.frame k serial time) p s h = framed_at-grown k serial time s.devices s.requests
  edit-grown frames (Edit.queue u) p s h = record { blocks = Block.lone u (no_frame u (is_frame u) refl h) ∷ []; are = refl }
  edit-grown frames Edit.deliver p s h = record { blocks = []; are = oldest-rest s.requests ∙ sym (append-nil s.requests) }
  edit-grown frames (Edit.peer_object id) p s h = same s.requests
  edit-grown frames Edit.end_connection p s h = same s.requests

  edits-grown : (frames : Bool) {es : List Edit} (p : P) (s : Session P) → All (Stays frames) es → Grown s.requests (gave_all es p s ++ (enact_all es p s).requests)
  unfolding gave_all enact_all
  edits-grown frames p s none = same s.requests
  edits-grown frames p s (more {x = e} {xs = es} h a) =
      let after = enact e p s in
      twice s.requests (gave e s) after.requests (gave_all es p after) (enact_all es p after).requests (edit-grown frames e p s h) (edits-grown frames p after a)

  -- ---- a call, and a list of calls

  plan-grown : {v : View} {now : ℕ} {c : Call Sight} {es : List Edit} (p : P) (s : Session P) → Sorted v now es c → Grown s.requests (gave_all es p s ++ (enact_all es p s).requests)
  plan-grown p s (staying frames w a one) = edits-grown frames p s a
  plan-grown p s (clearing r a) = rw (clearing-gave p s a, (clearing-clears p s a).requests) (same s.requests)

  step-grown : (t : Split P) (s : Session P) → Grown s.requests ((step t s).gave ++ (step t s).session.requests)
  unfolding source carried_out unchanged
  step-grown t s =
      step_by t s (λ r. Grown s.requests (r.gave ++ r.session.requests)) (λ o e. same s.requests) (plan-grown t.load s (decide_sorted (view s) t.now t.call))

  pub run-grown : (ts : List (Split P)) (s : Session P) → Grown s.requests (delivered (run ts s) ++ (session_after ts s).requests)
  unfolding delivered run session_after
  run-grown [] s = same s.requests
  run-grown (t ∷ ts) s =
      let r = step t s in
      twice s.requests r.gave r.session.requests (delivered (run ts r.session)) (session_after ts r.session).requests (step-grown t s) (run-grown ts r.session)

  -- ---- a list of blocks cut in two

  -- one list, parted in two ways: the first part of the one ends within that of the other, or behind it
  data Parted (xs ys as' bs : List (Queued P)) : Type 0 where
    before : (left : List (Queued P)) → as' ≡ xs ++ left → ys ≡ left ++ bs → Parted xs ys as' bs
    behind : (left : List (Queued P)) → xs ≡ as' ++ left → left ++ ys ≡ bs → Parted xs ys as' bs

  parted : (xs ys as' bs : List (Queued P)) → xs ++ ys ≡ as' ++ bs → Parted xs ys as' bs
  parted [] ys as' bs e = before as' refl e
  parted (x ∷ xs) ys [] bs e = behind (x ∷ xs) refl e
  parted (x ∷ xs) ys (a ∷ as') bs e = go (parted xs ys as' bs (tail-eq_of_cons-eq e))
    where
      go : Parted xs ys as' bs → Parted (x ∷ xs) ys (a ∷ as') bs
      go (before left p q) = before left (λ i. sym (head-eq_of_cons-eq e) i ∷ p i) q
      go (behind left p q) = behind left (λ i. head-eq_of_cons-eq e i ∷ p i) q

  pub blocks_cut : (bs : List (Block P)) (xs ys : List (Queued P)) → xs ++ ys ≡ in_all_blocks bs → Cut xs ys
  unfolding in_all_blocks
  blocks_cut [] xs ys e = let n = append-eq-nil_iff.0 e in between [] [] n.0 n.1
  blocks_cut (b ∷ bs) xs ys e = go (parted xs ys (in_block b) (in_all_blocks bs) e) (blocks_cut bs)
    where
      -- a block done before
      after : (left : List (Queued P)) → xs ≡ in_block b ++ left → Cut left ys → Cut xs ys
      after left p (between done coming f g) = between (b ∷ done) coming (p ∙ ap (λ (r : List (Queued P)). in_block b ++ r) f) g
      after left p (within done block front back coming h f g) =
          within (b ∷ done) block front back coming h
          (p ∙ ap (λ (r : List (Queued P)). in_block b ++ r) f ∙ sym (append_assoc (in_block b) (in_all_blocks done) front)) g

      go : Parted xs ys (in_block b) (in_all_blocks bs) → ((xs ys : List (Queued P)) → xs ++ ys ≡ in_all_blocks bs → Cut xs ys) → Cut xs ys
      go (before left p q) k = within [] b xs left bs p refl q
      go (behind left p q) k = after left p (k left ys q)
