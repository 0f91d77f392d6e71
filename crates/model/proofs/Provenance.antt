-- The n-th timed request that `next_request` gives for a device is the n-th taken on it, and while the device stands the rest is queued or pending.
-- From call to call go on the sum of Order, with what the scope calls taken, and the owners of interfaces that the answers tell. Assumes nothing.
use Prim.Native.Nat.{ℕ}
use mathlib.Core.Path.{◌≡◌, refl, subst, sym}
use mathlib.Core.Bool.{true}
use mathlib.Core.List.{List, [], ◌∷◌, ◌++◌, map, append-nil, append_assoc}
use mathlib.Core.Option.{Option}
use lib.ListN.{get_or-append}
use Rattle.model.specs.Call.{Input, Load, Call, Turn, sight, map_call, load_of, split}
use Rattle.model.specs.Session.{Item, Device, Session, fresh, view}
use Rattle.model.specs.Plan.{Result}
use Rattle.model.specs.Decide.{decide}
use Rattle.model.specs.Step.{Step, refuses, source, unchanged, step, run}
use Rattle.model.specs.Demand3.{MadeInterface, made, taken_of, taken_from, taken, items_of, delivered, given, trail, InOrder, Nth}
use Rattle.model.specs.Reachable.{session_after}
use Rattle.model.specs.Kept.{pending_of, NothingLost}
use Rattle.model.specs.Framed.{gone_from, removed_by}
use Rattle.model.proofs.Plans.{decide_formed}
use Rattle.model.proofs.Sorted.{decide_sorted}
use Rattle.model.proofs.Within.{Comes, within, beyond, comes, limit_refuses}
use Rattle.model.proofs.OneDevice.{items_append}
use Rattle.model.proofs.Gone.{gone-none}
use Rattle.model.proofs.Order.{Keeps, standing_keeps, plan_keeps, fresh_keeps}
use Rattle.model.proofs.Owners.{Owned, nothing-made, plan_owned, fresh_owned}
use Rattle.model.proofs.Taken.{turn-took}

-- a refused call takes nothing
refused-taken : (d : ℕ) (ms : List MadeInterface) (s : Session Load) (o : Result) (c : Call Input) → refuses o ≡ true → taken_of d ms (view s) o c ≡ []
unfolding taken_of
refused-taken d ms s o (Call.timed i ver a) h = rw h
refused-taken d ms s o (Call.plain c) h = refl

module _ (d : ℕ) where
  module _ (t : Turn) (ms : List MadeInterface) (s : Session Load) (T G : List (Item Load)) (R : List (Device Load)) (k : Keeps d s T G R) (w : Owned d s ms) where
    -- what is to hold after the call, if it comes to `r`
    abbrev Next : Step Load → Type 0
    Next r =
        Keeps d r.session (T ++ taken_of d ms (view s) r.outcome t.call) (G ++ items_of d r.gave) (R ++ gone_from r.session.devices s.devices)
        × Owned d r.session (ms ++ made r.outcome r.events)

    source-next : Next (source (split t) s)
    unfolding source split
    source-next =
        let call = map_call sight t.call in (
          rw (← turn-took d t.now t.call s ms w) (plan_keeps d (load_of t.call) s T G R (decide_sorted (view s) t.now call) k),
          plan_owned d (decide (view s) t.now call) (load_of t.call) s ms (decide_formed (view s) t.now call) w,
        )

    unchanged-next : (o : Result) → refuses o ≡ true → Next (unchanged s o)
    unfolding unchanged items_of
    unchanged-next o h = (
      rw (refused-taken d ms s o t.call h, gone-none s.devices s.devices (λ e l. l), append-nil T, append-nil G, append-nil R) k,
      rw (nothing-made o, append-nil ms) w,
    )

    step-next : (r : Step Load) → Comes (split t) s r → Next r
    step-next r (within e) = subst (λ x. Next x) (sym e) source-next
    step-next r (beyond o h e) = subst (λ x. Next x) (sym e) (unchanged-next o (limit_refuses o h))

  run_keeps : (ts : List Turn) (ms : List MadeInterface) (s : Session Load) (T G : List (Item Load)) (R : List (Device Load)) → Keeps d s T G R → Owned d s ms →
      Keeps d (session_after (map split ts) s) (T ++ taken_from d ms s ts) (G ++ given d (run (map split ts) s)) (R ++ removed_by (map split ts) s)
  unfolding taken_from run given delivered session_after removed_by items_of
  run_keeps [] ms s T G R k w = rw (append-nil T, append-nil G, append-nil R) k
  run_keeps (t ∷ ts) ms s T G R k w =
      let r = step (split t) s in
      let n = step-next t ms s T G R k w r (comes (split t) s) in
      let ms' = ms ++ made r.outcome r.events in
      rw (
        items_append d r.gave (delivered (run (map split ts) r.session)),
        ← append_assoc T (taken_of d ms (view s) r.outcome t.call) (taken_from d ms' r.session ts),
        ← append_assoc G (items_of d r.gave) (items_of d (delivered (run (map split ts) r.session))),
        ← append_assoc R (gone_from r.session.devices s.devices) (removed_by (map split ts) r.session),
      )
      (run_keeps ts ms' r.session _ _ _ n.0 n.1)

pub trail_keeps : (c s n : ℕ) (vs : List (Option ℕ)) (ts : List Turn) (d : ℕ) →
    Keeps d (session_after (map split ts) (fresh c s n vs)) (taken c s n vs d ts) (given d (trail c s n vs ts)) (removed_by (map split ts) (fresh c s n vs))
unfolding taken trail
trail_keeps c s n vs ts d = run_keeps d ts [] (fresh c s n vs) [] [] [] (fresh_keeps d c s n vs) (fresh_owned d c s n vs)

-- what is given is a first part of what was taken
pub in_order : InOrder
unfolding InOrder
in_order c s n vs ts d = (_, (trail_keeps c s n vs ts d).sum)

pub nth : Nth
unfolding Nth InOrder
nth c s n vs ts d i x h =
    let r = in_order c s n vs ts d in
    sym (rw r.1 (get_or-append (given d (trail c s n vs ts)) r.0 x i h))

-- and the rest is there while the device stands
pub nothing_lost : NothingLost
unfolding NothingLost
nothing_lost c s n vs ts d h =
    let k = trail_keeps c s n vs ts d in
    let pending = pending_of d (session_after (map split ts) (fresh {P = Load} c s n vs)).devices in
    rw (standing_keeps d _ _ _ _ k h, append-nil pending) at k.sum
