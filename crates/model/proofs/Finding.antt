-- What holds of the device that a search finds: shown of one that passes the test at the front, and past one that stands before it. Assumes nothing.
use Prim.Native.Nat.{zero, suc}
use mathlib.Core.Path.{◌≡◌, refl, subst}
use mathlib.Core.Bool.{Bool, true, false, cond}
use mathlib.Core.List.{List, [], ◌∷◌, map}
use mathlib.Core.Option.{Option, none, some}
use Rattle.model.specs.Session.{Device, map_device, blank}
use Rattle.model.specs.Decide.{Found, later, find}

abbrev behind : Found → Found
behind f = record { slot = suc f.slot; device = f.device }

module _ {P : Type 0} where
  abbrev front : Device P → Found
  front d = record { slot = zero; device = map_device blank d }

  module _ (test : Device (Unit {0}) → Bool) (Q : List (Device P) → Found → Type 0)
      (here : (d : Device P) (ds : List (Device P)) → test (map_device blank d) ≡ true → Q (d ∷ ds) (front d))
      (past : (d : Device P) (ds : List (Device P)) (f : Found) → Q ds f → Q (d ∷ ds) (behind f)) where
    abbrev IfFound : List (Device P) → Option Found → Type 0
    IfFound ds none = Unit {0}
    IfFound ds (some f) = Q ds f

    later-found : (d : Device P) (ds : List (Device P)) (o : Option Found) → IfFound ds o → IfFound (d ∷ ds) (later o)
    unfolding later
    later-found d ds none h = tt
    later-found d ds (some f) h = past d ds f h

    cond-found : (b : Bool) (ds : List (Device P)) (f : Found) (o : Option Found) → (b ≡ true → Q ds f) → IfFound ds o → IfFound ds (cond b (some f) o)
    cond-found true ds f o h k = h refl
    cond-found false ds f o h k = k

    find-found : (ds : List (Device P)) → IfFound ds (find test (map (map_device blank) ds))
    unfolding find
    find-found [] = tt
    find-found (d ∷ ds) =
        let o = find test (map (map_device blank) ds) in
        cond-found (test (map_device blank d)) (d ∷ ds) (front d) (later o) (here d ds) (later-found d ds o (find-found ds))

    pub found-holds : (ds : List (Device P)) (f : Found) → find test (map (map_device blank) ds) ≡ some f → Q ds f
    found-holds ds f e = subst (IfFound ds) e (find-found ds)
