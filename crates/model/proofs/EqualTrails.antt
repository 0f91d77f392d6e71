-- Two lists of calls alike in all but payload have equal trails, payload aside: both have the trail of the calls with the payloads left out. Assumes
-- nothing.
use Prim.Native.Nat.{ℕ}
use mathlib.Core.Path.{◌≡◌, refl, ap, sym, ◌∙◌}
use mathlib.Core.List.{List, [], ◌∷◌, map, map-map}
use mathlib.Core.Option.{Option}
use Rattle.model.specs.Call.{Turn, split}
use Rattle.model.specs.Session.{fresh, blank}
use Rattle.model.specs.Step.{Step, run}
use Rattle.model.specs.Demand3.{EqualTrails, observed, trail, unloaded}
use Rattle.model.specs.Payload.{MatchedTrails}
use Rattle.model.proofs.Commute.{map_split, map_step, blank-requests, run-map}
use Rattle.model.proofs.Payload.{matched_alike}

observed-map : {P Q : Type 0} (f : P → Q) (r : Step P) → observed (map_step f r) ≡ observed r
unfolding observed map_step
observed-map f r = rw (blank-requests f r.gave)

observed_maps : {P Q : Type 0} (f : P → Q) (rs : List (Step P)) → map observed (map (map_step f) rs) ≡ map observed rs
observed_maps f [] = refl
observed_maps f (r ∷ rs) = rw (observed-map f r, observed_maps f rs)

unloaded-trail : (c s n : ℕ) (vs : List (Option ℕ)) (ts : List Turn) → map observed (trail c s n vs ts) ≡ map observed (run (map unloaded ts) (fresh c s n vs))
unfolding trail map_split unloaded
unloaded-trail c s n vs ts =
    sym (observed_maps blank (run (map split ts) (fresh c s n vs)))
    ∙ ap (map observed) (sym (run-map blank (map split ts) (fresh c s n vs)))
    ∙ ap (λ us. map observed (run us (fresh c s n vs))) (map-map (map_split blank) split ts)

pub equal_trails : EqualTrails
unfolding EqualTrails
equal_trails c s n vs ts ts' h =
    unloaded-trail c s n vs ts ∙ ap (λ us. map observed (run us (fresh c s n vs))) h ∙ sym (unloaded-trail c s n vs ts')

pub matched_trails : MatchedTrails
unfolding MatchedTrails EqualTrails
matched_trails c s n vs ts ts' m = equal_trails c s n vs ts ts' (matched_alike m)
