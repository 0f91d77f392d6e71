-- At every call the ids that are given and those that stood before are those that are destroyed and those that stand after it. So an id, which is given
-- once, is destroyed at most once, and stands until then. By the plans that there are (Walk, Balance), then by induction on the calls. Assumes nothing.
use Prim.Native.Nat.{ℕ, ◌+◌}
use mathlib.Core.Path.{◌≡◌}
use mathlib.Core.List.{List, [], ◌∷◌, map}
use native.Mathlib.Omega.{arith}
use Rattle.model.specs.Call.{Load, Split, split}
use Rattle.model.specs.Session.{Session, fresh, view}
use Rattle.model.specs.Step.{carried_out, source, unchanged, step, run}
use Rattle.model.specs.Demand3.{trail}
use Rattle.model.specs.Reachable.{count_of, seat_ids, session_after, new_ids, ids_in}
use Rattle.model.specs.Destroyed.{destroyed_of, destroyed_in, DestroyedOnce, LivesStanding}
use Rattle.model.proofs.Ascending.{once}
use Rattle.model.proofs.ReachableOrder.{object_ids}
use Rattle.model.proofs.Reachable.{refusal-ids, Sound, step-sound, run-ids, fresh-sound}
use Rattle.model.proofs.Walk.{walk}
use Rattle.model.proofs.Within.{step_by}
use Rattle.model.proofs.Lists.{count-append}
use Rattle.model.proofs.Balance.{alive, alive-standing, leaf_adds}

module _ {P : Type 0} (x : ℕ) where
  -- ---- the calls

  step-adds : (t : Split P) (s : Session P) → Sound s →
      count_of x (new_ids (step t s).outcome (step t s).events) + alive x s ≡ count_of x (destroyed_of (step t s).events) + alive x (step t s).session
  unfolding source carried_out unchanged destroyed_of count_of
  step-adds t s ok =
      step_by t s (λ r. count_of x (new_ids r.outcome r.events) + alive x s ≡ count_of x (destroyed_of r.events) + alive x r.session)
      (λ o e. rw (refusal-ids o e) (omega arith))
      (leaf_adds x s t.load ok (walk (view s) t.now t.call)).sum

  run-adds : (ts : List (Split P)) (s : Session P) → Sound s →
      count_of x (ids_in (run ts s)) + alive x s ≡ count_of x (destroyed_in (run ts s)) + alive x (session_after ts s)
  unfolding run ids_in destroyed_in session_after count_of
  run-adds [] s ok = omega arith
  run-adds (t ∷ ts) s ok =
      let r = step t s in
      omega (
        arith,
        step-adds t s ok,
        run-adds ts r.session (step-sound t s ok),
        count-append x (new_ids r.outcome r.events) (ids_in (run ts r.session)),
        count-append x (destroyed_of r.events) (destroyed_in (run ts r.session)),
      )

pub lives_standing : LivesStanding
unfolding LivesStanding trail fresh alive seat_ids object_ids count_of
lives_standing c s n vs ts id =
    let h = run-adds id (map split ts) (fresh {P = Load} c s n vs) (fresh-sound c s n vs) in
    omega (arith, h, alive-standing id (session_after (map split ts) (fresh {P = Load} c s n vs)))

pub destroyed_once : DestroyedOnce
unfolding DestroyedOnce LivesStanding trail fresh
destroyed_once c s n vs ts id = omega (arith, lives_standing c s n vs ts id, once id (run-ids (map split ts) (fresh {P = Load} c s n vs)))
