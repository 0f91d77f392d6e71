-- What a plan takes is what the scope calls taken: a timed request that is neither refused nor ignored, on the device that was told of its interface;
-- any other call takes nothing. Assumes nothing.
use Prim.Native.Nat.{ℕ, zero, suc}
use mathlib.Core.Path.{◌≡◌, refl, ap, sym, ◌∙◌}
use mathlib.Core.Logic.{◌⊎◌, inl, inr}
use mathlib.Core.Bool.{Bool, true, false, ◌&&◌, ◌||◌, not, cond, false≢true}
use mathlib.Core.List.{List, [], ◌∷◌, ◌++◌, map, append-nil}
use mathlib.Core.Option.{none, some}
use lib.Dec.{eqb}
use borrow.Author.Tests.{eqb-true}
use Rattle.eiproto.specs.Capability.{capability_index}
use Rattle.model.specs.Call.{Sight, Input, Load, Call, sight, load, map_call, load_of}
use Rattle.model.specs.Session.{Item, Interface, Device, Session, view, map_device, blank}
use Rattle.model.specs.Edit.{Amend, Edit, amended, item, at, enact}
use Rattle.model.specs.Plan.{Plan, answer, ignore, edit}
use Rattle.model.specs.Decide.{Found, find, lists_as, device_for_interface, handler, pend_after, decide}
use Rattle.model.specs.Step.{refuses}
use Rattle.model.specs.Demand3.{MadeInterface, made_for, ignored, taken_of}
use Rattle.model.proofs.Plans.{allows, allows_all, allows-cons, Formed, answers, acts, adds, decide_formed}
use Rattle.model.proofs.OneDevice.{taken_at, took, took_all, amended_keeps}
use Rattle.model.proofs.All.{All}
use Rattle.model.proofs.Finding.{found-holds}
use Rattle.model.proofs.Owners.{Told, Stands, Owned}
use Rattle.model.proofs.Leaves.{Leaf}
use Rattle.model.proofs.Walk.{walk, is_timed}

-- a test of an interface that passes: its id's test passes, or another's
either : (capability id others : Bool) → (capability && id || others) ≡ true → (id ≡ true) ⊎ (others ≡ true)
either c true o h = inl refl
either true false o h = inr h
either false false o h = inr h

module _ (d : ℕ) (ms : List MadeInterface) (next cap object : ℕ) where
  -- the device that lists an interface is the one that it was told for
  lists-owner : (e : ℕ) {is : List Interface} → All (Told d next ms e) is → lists_as cap object is ≡ true → made_for object d ms ≡ eqb e d
  unfolding lists_as
  lists-owner e All.none h = absurd (false≢true h)
  lists-owner e (All.more {x = i} {xs = is} w a) h =
      go (either (eqb i.capability cap) (eqb i.id object) (lists_as cap object is) h) (lists-owner e a)
    where
      go : (eqb i.id object ≡ true) ⊎ (lists_as cap object is ≡ true) →
          (lists_as cap object is ≡ true → made_for object d ms ≡ eqb e d) → made_for object d ms ≡ eqb e d
      go (inl q) k = ap (λ j. made_for j d ms) (sym (eqb-true i.id object q)) ∙ w.owner
      go (inr q) k = k q

module _ {P : Type 0} (d : ℕ) where
  -- ---- a call that is no timed request

  quiet-took : (e : Edit) (p : P) (s : Session P) → allows false e ≡ true → took d e p s ≡ []
  unfolding allows took
  quiet-took (Edit.raise n) p s h = refl
  quiet-took (Edit.add_seat caps) p s h = refl
  quiet-took (Edit.remove_seat seat) p s h = refl
  quiet-took (Edit.add_device seat caps) p s h = refl
  quiet-took (Edit.remove_device k) p s h = refl
  quiet-took (Edit.remove_devices_of seat) p s h = refl
  quiet-took (Edit.amend k a) p s h = refl
  quiet-took (Edit.pend k x) p s h = absurd (false≢true h)
  quiet-took (Edit.frame k serial time) p s h = refl
  quiet-took (Edit.queue r) p s h = refl
  quiet-took Edit.deliver p s h = refl
  quiet-took (Edit.peer_object id) p s h = refl
  quiet-took Edit.end_connection p s h = refl

  quiet-took_all : (es : List Edit) (p : P) (s : Session P) → allows_all false es ≡ true → took_all d es p s ≡ []
  unfolding took_all
  quiet-took_all [] p s h = refl
  quiet-took_all (e ∷ es) p s h =
      let a = allows-cons false e es h in
      rw (quiet-took e p s a.0) (quiet-took_all es p (enact e p s) a.1)

  plain-took : {next : ℕ} (plan : Plan) (p : P) (s : Session P) → Formed false next plan → took_all d plan.edits p s ≡ []
  unfolding took_all
  plain-took plan p s (answers o) = refl
  plain-took plan p s (acts o events edits r m a) = quiet-took_all edits p s a
  plain-took plan p s (adds events seat caps m) = refl

  -- ---- the device found for an interface is the one that it was told for

  module _ (ms : List MadeInterface) (next cap object : ℕ) (i : Item P) where
    found-takes : (ds : List (Device P)) (f : Found) → All (Stands d next ms) ds → find (λ x. lists_as cap object x.interfaces) (map (map_device blank) ds) ≡ some f →
        taken_at d i f.slot ds ≡ cond (made_for object d ms) (i ∷ []) []
    unfolding taken_at map_device
    found-takes ds f a e =
        found-holds (λ x. lists_as cap object x.interfaces) (λ xs g. All (Stands d next ms) xs → taken_at d i g.slot xs ≡ cond (made_for object d ms) (i ∷ []) [])
        here past ds f e a
      where
        here : (x : Device P) (xs : List (Device P)) → lists_as cap object x.interfaces ≡ true → All (Stands d next ms) (x ∷ xs) →
            cond (eqb x.id d) (i ∷ []) [] ≡ cond (made_for object d ms) (i ∷ []) []
        here x xs t (All.more w a) = ap (λ b. cond b (i ∷ []) []) (sym (lists-owner d ms next cap object x.id w t))

        past : (x : Device P) (xs : List (Device P)) (g : Found) → (All (Stands d next ms) xs → taken_at d i g.slot xs ≡ cond (made_for object d ms) (i ∷ []) []) →
            All (Stands d next ms) (x ∷ xs) → taken_at d i g.slot xs ≡ cond (made_for object d ms) (i ∷ []) []
        past x xs g h (All.more w a) = h a

  -- ---- a timed request

  amended-taken : (i : Item P) (a : Amend) (j k : ℕ) (ds : List (Device P)) → taken_at d i k (at (amended a) j ds) ≡ taken_at d i k ds
  unfolding taken_at at
  amended-taken i a j k [] = refl
  amended-taken i a zero zero (x ∷ ds) = rw (amended_keeps a x).0
  amended-taken i a zero (suc k) (x ∷ ds) = refl
  amended-taken i a (suc j) zero (x ∷ ds) = refl
  amended-taken i a (suc j) (suc k) (x ∷ ds) = amended-taken i a j k ds

  pend-took : (k : ℕ) (x : Sight) (p : P) (amends : List Amend) (s : Session P) →
      took_all d (map (λ a. Edit.amend k a) amends ++ (Edit.pend k x ∷ [])) p s ≡ taken_at d (item x p) k s.devices
  unfolding took_all
  pend-took k x p [] s = append-nil _
  pend-took k x p (a ∷ more) s = pend-took k x p more (enact (Edit.amend k a) p s) ∙ amended-taken (item x p) a k k s.devices

  -- the scope's words for a request of sight x on interface i, with what a plan takes
  leaf_took : {now i ver : ℕ} {x : Sight} {plan : Plan} (p : P) (s : Session P) (ms : List MadeInterface) → Owned d s ms → Leaf (view s) now (Call.timed i ver x) plan →
      took_all d plan.edits p s ≡ cond (not (refuses plan.outcome) && (not (ignored (view s) i x) && made_for i d ms)) (item x p ∷ []) []
  unfolding answer ignore pend_after edit refuses took_all view device_for_interface
  leaf_took p s ms o (Leaf.turned out h m) = rw h
  leaf_took p s ms o (Leaf.passed h) = rw h
  leaf_took p s ms o (Leaf.pended {i = i} {x = x} f amends e g t) =
      let cap = capability_index (handler x.kind).capability in
      rw g (pend-took f.slot x p amends s ∙ found-takes ms s.connection.next_id cap i (item x p) s.devices f o.told e)

-- ---- every call

pub turn-took : (d : ℕ) (now : ℕ) (c : Call Input) (s : Session Load) (ms : List MadeInterface) → Owned d s ms →
    took_all d (decide (view s) now (map_call sight c)).edits (load_of c) s ≡ taken_of d ms (view s) (decide (view s) now (map_call sight c)).outcome c
unfolding map_call load_of taken_of is_timed
turn-took d now (Call.timed i ver a) s ms o = leaf_took d (load a) s ms o (walk (view s) now (Call.timed i ver (sight a)))
turn-took d now (Call.plain c) s ms o = plain-took d (decide (view s) now (Call.plain c)) Load.None s (decide_formed (view s) now (Call.plain c))
