-- A call comes to what the source does, or to a refusal by a limit, which changes nothing. So a call that meets no limit does what the source does.
-- Assumes nothing.
use Prim.Native.Nat.{ℕ, ◌<◌}
use mathlib.Core.Path.{◌≡◌, refl, ap, sym, ◌∙◌}
use mathlib.Core.Logic.{◌⊎◌, inl, inr}
use mathlib.Core.Bool.{Bool, true, false, cond}
use native.Mathlib.Omega.{arith}
use lib.Dec.{ltb}
use borrow.Author.Tests.{lt-ltb}
use Rattle.model.specs.Call.{Split}
use Rattle.model.specs.Session.{Session, view}
use Rattle.model.specs.Plan.{Result, refusal}
use Rattle.model.specs.Step.{Step, Counts, counts, carried_out, source, over, any_over, refuse_if, limits, refuses, unchanged, settled, bytes_needed, step}
use Rattle.model.specs.Within.{SourceDecides}
use Rattle.model.proofs.Plans.{decide_formed, refused-still}

-- an outcome under the limits: as it was, or a refusal with a limit's number, 14 to 20
abbrev Passes : Result → Result → Type 0
Passes o o' = (o' ≡ o) ⊎ (13 < refusal o')

refuse_if-passes : (b : Bool) (n : ℕ) (o other : Result) → 13 < n → Passes o other → Passes o (refuse_if b n other)
unfolding refuse_if refusal
refuse_if-passes true n o other h p = inr h
refuse_if-passes false n o other h p = p

limits-passes : (room bytes : ℕ) (n m : Counts) (o : Result) → Passes o (limits room bytes n m o)
unfolding limits
limits-passes room bytes n m o =
    refuse_if-passes (over 4 n.seats m.seats) 14 o _ (omega arith)
    (refuse_if-passes (over 8 n.devices m.devices) 15 o _ (omega arith)
    (refuse_if-passes (any_over 64 n.pending m.pending) 16 o _ (omega arith)
    (refuse_if-passes (over 256 n.queued m.queued) 17 o _ (omega arith)
    (refuse_if-passes (over 32 n.texts m.texts) 18 o _ (omega arith)
    (refuse_if-passes (over 0xffff_ffff_ffff_ffff n.next_id m.next_id) 20 o _ (omega arith)
    (refuse_if-passes (ltb room bytes) 19 o o (omega arith) (inl refl)))))))

pub limit_refuses : (o : Result) → 13 < refusal o → refuses o ≡ true
unfolding refuses
limit_refuses o h = lt-ltb 0 (refusal o) (omega arith)

module _ {P : Type 0} (t : Split P) (s : Session P) where
  -- what a call may come to
  pub data Comes (r : Step P) : Type 0 where
    within : r ≡ source t s → Comes r
    beyond : (o : Result) → 13 < refusal o → r ≡ unchanged s o → Comes r

  pub settled-refused : (r : Step P) (o : Result) → refuses o ≡ true → settled s r o ≡ unchanged s o
  unfolding settled
  settled-refused r o h = rw h

  pub settled-accepted : (r : Step P) → refuses r.outcome ≡ false → settled s r r.outcome ≡ r
  unfolding settled
  settled-accepted r h = rw h

  -- what the source refuses changes nothing either
  source-refused : refuses (source t s).outcome ≡ true → unchanged s (source t s).outcome ≡ source t s
  unfolding source unchanged
  source-refused h = sym (ap (λ plan. carried_out plan t.load s) (refused-still (decide_formed (view s) t.now t.call) h))

  pub comes : Comes (step t s)
  unfolding step
  comes = go (refuses (source t s).outcome) refl
    where
      r : Step P
      r = source t s

      o : Result
      o = limits t.room (bytes_needed r) (counts s) (counts r.session) r.outcome

      judged : Passes r.outcome o → refuses r.outcome ≡ false → Comes (settled s r o)
      judged (inl p) e = within (rw p (settled-accepted r e))
      judged (inr h) e = beyond o h (settled-refused r o (limit_refuses o h))

      go : (b : Bool) → refuses r.outcome ≡ b → Comes (settled s r (cond b r.outcome o))
      go true e = within (settled-refused r r.outcome e ∙ source-refused e)
      go false e = judged (limits-passes t.room (bytes_needed r) (counts s) (counts r.session) r.outcome) e

  -- what holds of the source's step and of every refusal that changes nothing holds of the call
  pub step_by : (Q : Step P → Type 0) → ((o : Result) → refuses o ≡ true → Q (unchanged s o)) → Q (source t s) → Q (step t s)
  step_by Q refused done = go (step t s) comes
    where
      go : (r : Step P) → Comes r → Q r
      go r (within e) = rw e done
      go r (beyond o h e) = rw e (refused o (limit_refuses o h))

  decides : (r : Step P) → Comes r → refusal r.outcome < 10 → r ≡ source t s
  unfolding unchanged
  decides r (within e) h = e
  decides r (beyond o l e) h = let q : refusal r.outcome ≡ refusal o = ap (λ x. refusal x.outcome) e in absurd (omega arith)

pub source_decides : SourceDecides
unfolding SourceDecides
source_decides P t s h = decides t s (step t s) (comes t s) h
