-- A client's release of a seat that stands is the station's removal of it; a device whose interface was released has the capability no more. Assumes nothing.
use Prim.Native.Nat.{ℕ, zero, suc, ◌+◌, ◌≤◌}
use mathlib.Core.Path.{◌≡◌, refl, sym, ◌∙◌}
use mathlib.Core.Bool.{Bool, true, false, cond, true≢false}
use mathlib.Core.List.{List, [], ◌∷◌, ◌++◌, map}
use mathlib.Core.Option.{some}
use native.Mathlib.Omega.{arith}
use lib.Dec.{eqb}
use borrow.Author.Tests.{eq-eqb, ne_eqb}
use Rattle.eiproto.specs.Capability.{capability_index}
use Rattle.model.specs.Call.{Load, Plain, split}
use Rattle.model.specs.Session.{Interface, Device, Session, fresh, map_device, blank, view}
use Rattle.model.specs.Edit.{Amend, interfaces_without, amended, at, enact, enact_all}
use Rattle.model.specs.Plan.{Result, answer, send}
use Rattle.model.specs.Decide.{Found, later, find, device_of, lists_as, lists, device_for_interface, on_found, send_next, handle_release, handle_seat_release, remove_seat, decide_plain, decide}
use Rattle.model.specs.Step.{Step, refuses, carried_out, source, unchanged, step}
use Rattle.model.specs.Reachable.{session_after}
use Rattle.model.specs.Destroyed.{plainly, ReleaseIsRemoval, ReleasedUnlisted}
use Rattle.model.proofs.Finding.{found-holds}
use Rattle.model.proofs.Ascending.{Between, next, left_out}
use Rattle.model.proofs.ReachableOrder.{device_ids-sub}
use Rattle.model.proofs.Reachable.{Sound, after-sound, fresh-sound}
use Rattle.model.proofs.Within.{step_by}

pub release_is_removal : ReleaseIsRemoval
unfolding ReleaseIsRemoval step source decide decide_plain handle_seat_release remove_seat on_found
release_is_removal P load now room seat x s e = rw e

lists-without : (cap : ℕ) (is : List Interface) → lists cap (interfaces_without cap is) ≡ false
unfolding lists interfaces_without
lists-without cap [] = refl
lists-without cap (i ∷ is) = go (eqb i.capability cap) refl (lists-without cap is)
  where
    go : (b : Bool) → eqb i.capability cap ≡ b → lists cap (interfaces_without cap is) ≡ false → lists cap (cond b [] (i ∷ []) ++ interfaces_without cap is) ≡ false
    go true q h = h
    go false q h = rw q h

module _ {P : Type 0} (cap : ℕ) where
  -- the device that a search found, among devices whose ids begin at `low`: it is found again by its id, with no interface for the capability
  record Again (low : ℕ) (ds : List (Device P)) (f : Found) : Type 0 where
    above : low ≤ f.device.id
    again : Found
    found : find (λ d. eqb d.id f.device.id) (map (map_device blank) (at (amended (Amend.unlist cap)) f.slot ds)) ≡ some again
    unlisted : lists cap again.device.interfaces ≡ false

  found_again : {low high : ℕ} (test : Device (Unit {0}) → Bool) (ds : List (Device P)) (f : Found) → Between low (map (λ d. d.id) ds) high →
      find test (map (map_device blank) ds) ≡ some f → Again low ds f
  unfolding find at amended map_device
  found_again test ds f b e = found-holds test (λ es g. (low high : ℕ) → Between low (map (λ d. d.id) es) high → Again low es g) here past ds f e _ _ b
    where
      here : (d : Device P) (es : List (Device P)) → test (map_device blank d) ≡ true → (low high : ℕ) → Between low (d.id ∷ map (λ y. y.id) es) high →
          Again low (d ∷ es) (record { slot = zero; device = map_device blank d })
      here d es t low high (next l b) =
          record {
            above = l;
            again = record { slot = zero; device = map_device blank (amended (Amend.unlist cap) d) };
            found = rw (eq-eqb d.id d.id refl);
            unlisted = lists-without cap d.interfaces;
          }

      past : (d : Device P) (es : List (Device P)) (g : Found) → ((low high : ℕ) → Between low (map (λ y. y.id) es) high → Again low es g) →
          (low high : ℕ) → Between low (d.id ∷ map (λ y. y.id) es) high → Again low (d ∷ es) (record { slot = suc g.slot; device = g.device })
      past d es g h low high (next l b) =
          let r = h (d.id + 1) high b in
          record {
            above = omega (arith, r.above);
            again = record { slot = suc r.again.slot; device = r.again.device };
            found = rw (ne_eqb d.id g.device.id (λ q. omega (arith, r.above)), r.found);
            unlisted = r.unlisted;
          }

pub released_unlisted : ReleasedUnlisted
unfolding ReleasedUnlisted source carried_out unchanged decide decide_plain handle_release send_next send on_found enact_all enact device_for_interface device_of view
released_unlisted c s n vs ts cap id now room later f e =
    step_by (plainly Load.None now room (Plain.interface_release cap id)) before Q (λ o h k. absurd (true≢false (sym h ∙ k)))
    (λ _. rw (e, a.found, a.unlisted))
  where
    before : Session Load
    before = session_after (map split ts) (fresh c s n vs)

    Q : Step Load → Type 0
    Q r = refuses r.outcome ≡ false → decide_plain (view r.session) later (Plain.has_capability f.device.id cap) ≡ answer (Result.truth false)

    ok : Sound before
    ok = after-sound (map split ts) (fresh c s n vs) (fresh-sound c s n vs)

    a : Again (capability_index cap) 0 before.devices f
    a = found_again (capability_index cap) (λ d. lists_as (capability_index cap) id d.interfaces) before.devices f
        (left_out (device_ids-sub before.devices) ok.ordered.objects) e
