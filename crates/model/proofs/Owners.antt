-- The device whose `add_device` made an interface, told from the answers, is the device that lists it: every interface that a standing device lists was
-- told for that device and for no other. It holds since ids come from the next id up, and each new device is told by its plan. Assumes nothing.
use Prim.Native.Nat.{ℕ, ◌+◌, ◌≤◌, ◌<◌}
use mathlib.Core.Path.{◌≡◌, refl, sym, ◌∙◌}
use mathlib.Core.Logic.{◌⊎◌, inl, inr}
use mathlib.Core.Bool.{Bool, true, false, ◌&&◌, ◌||◌, false≢true, or_assoc, or-false}
use mathlib.Core.List.{List, [], ◌∷◌, ◌++◌, append-nil}
use mathlib.Core.Option.{Option}
use native.Mathlib.Omega.{arith}
use lib.Dec.{eqb}
use lib.ListN.{length}
use borrow.Author.Tests.{eq-eqb, ne_eqb}
use Rattle.eiproto.specs.Bits.{bits_of}
use Rattle.model.specs.Session.{Interface, Device, Session, fresh}
use Rattle.model.specs.Edit.{Amend, Edit, interfaces_from, new_interfaces, interfaces_without, amended, item, pended, emptied, enact, enact_all}
use Rattle.model.specs.Plan.{Result, Plan}
use Rattle.model.specs.Demand3.{MadeInterface, made, made_for}
use Rattle.model.proofs.All.{All, none, more, all_map, all_append, all_kept, all_at, all_without_slot, all_without_seat}
use Rattle.model.proofs.Plans.{allows, allows_all, allows-cons, made_with, Formed, answers, acts, adds}

pub nothing-made : (o : Result) → made o [] ≡ []
unfolding made
nothing-made Result.accepted = refl
nothing-made (Result.refused n) = refl
nothing-made (Result.refused_version i v) = refl
nothing-made (Result.seat id) = refl
nothing-made (Result.device id) = refl
nothing-made (Result.value n) = refl
nothing-made (Result.truth b) = refl
nothing-made Result.none = refl
nothing-made Result.given = refl

module _ (d : ℕ) where
  -- ---- what is told of new interfaces

  made_for-append : (j : ℕ) (ms ns : List MadeInterface) → made_for j d (ms ++ ns) ≡ (made_for j d ms || made_for j d ns)
  unfolding made_for
  made_for-append j [] ns = refl
  made_for-append j (m ∷ ms) ns =
      rw (made_for-append j ms ns) (sym (or_assoc (eqb m.interface j && eqb m.device d) (made_for j d ms) (made_for j d ns)))

  -- an id below them, or above, is none of theirs
  new_others : (e low j : ℕ) (bs : List ℕ) → (j < low) ⊎ (low + length (interfaces_from low bs) ≤ j) →
      made_for j d (made_with e (interfaces_from low bs)) ≡ false
  unfolding interfaces_from made_with made_for
  new_others e low j [] h = refl
  new_others e low j (b ∷ bs) (inl h) = rw (ne_eqb low j (λ q. omega arith)) (new_others e (low + 1) j bs (inl (omega arith)))
  new_others e low j (b ∷ bs) (inr h) = rw (ne_eqb low j (λ q. omega arith)) (new_others e (low + 1) j bs (inr (omega arith)))

  -- each of them is its device's
  record New (e low : ℕ) (is : List Interface) (i : Interface) : Type 0 where
    least : low ≤ i.id
    most : i.id < low + length is
    owner : made_for i.id d (made_with e is) ≡ eqb e d

  new_told : (e low : ℕ) (bs : List ℕ) → All (New e low (interfaces_from low bs)) (interfaces_from low bs)
  unfolding interfaces_from made_with made_for
  new_told e low [] = none
  new_told e low (b ∷ bs) =
      more {x = record { capability = b; id = low }}
      (record {
        least = omega arith;
        most = omega arith;
        owner = rw (eq-eqb low low refl, new_others e (low + 1) low bs (inl (omega arith))) (or-false (eqb e d));
      })
      (all_map (λ i w. record { least = omega arith; most = omega arith; owner = rw (ne_eqb low i.id (λ q. omega arith)) w.owner }) (new_told e (low + 1) bs))

  -- ---- what is told of the devices that stand

  -- an interface of device `e`: its id was given, and it was told for d just where e is d
  pub record Told (next : ℕ) (ms : List MadeInterface) (e : ℕ) (i : Interface) : Type 0 where
    given : i.id < next
    pub owner : made_for i.id d ms ≡ eqb e d

  unlisted-told : {next : ℕ} {ms : List MadeInterface} {e : ℕ} (cap : ℕ) {is : List Interface} → All (Told next ms e) is → All (Told next ms e) (interfaces_without cap is)
  unfolding interfaces_without
  unlisted-told cap none = none
  unlisted-told cap (more {x = i} w a) = all_kept (eqb i.capability cap) i w (unlisted-told cap a)

  module _ {P : Type 0} where
    abbrev pub Stands : (next : ℕ) → List MadeInterface → Device P → Type 0
    Stands next ms x = All (Told next ms x.id) x.interfaces

    pub record Owned (s : Session P) (ms : List MadeInterface) : Type 0 where
      pub told : All (Stands s.connection.next_id ms) s.devices
      ahead : (j : ℕ) → s.connection.next_id ≤ j → made_for j d ms ≡ false

    -- other devices, of which no more is told
    others : (s s' : Session P) (ms : List MadeInterface) → s.connection.next_id ≤ s'.connection.next_id → Owned s ms →
        All (Stands s.connection.next_id ms) s'.devices → Owned s' ms
    others s s' ms l o a =
        record {
          told = all_map (λ x. all_map λ i w. record { given = omega arith; owner = w.owner }) a;
          ahead = λ j h. o.ahead j (omega arith);
        }

    amended-stands : {next : ℕ} {ms : List MadeInterface} (a : Amend) (x : Device P) → Stands next ms x → Stands next ms (amended a x)
    unfolding amended
    amended-stands (Amend.touch_down t) x h = h
    amended-stands (Amend.touch_up t) x h = h
    amended-stands Amend.clear_touches x h = h
    amended-stands (Amend.unlist cap) x h = unlisted-told cap h

    edit_owned : (timed : Bool) (e : Edit) (p : P) (s : Session P) (ms : List MadeInterface) → allows timed e ≡ true → Owned s ms → Owned (enact e p s) ms
    unfolding enact allows
    edit_owned timed (Edit.raise n) p s ms h o = others s _ ms (omega arith) o o.told
    edit_owned timed (Edit.add_seat caps) p s ms h o = others s _ ms (omega arith) o o.told
    edit_owned timed (Edit.remove_seat seat) p s ms h o = others s _ ms (omega arith) o o.told
    edit_owned timed (Edit.add_device seat caps) p s ms h o = absurd (false≢true h)
    edit_owned timed (Edit.remove_device k) p s ms h o = others s _ ms (omega arith) o (all_without_slot k o.told)
    edit_owned timed (Edit.remove_devices_of seat) p s ms h o = others s _ ms (omega arith) o (all_without_seat seat o.told)
    edit_owned timed (Edit.amend k a) p s ms h o = others s _ ms (omega arith) o (all_at (amended a) (amended-stands a) k o.told)
    edit_owned timed (Edit.pend k sight) p s ms h o = others s _ ms (omega arith) o (all_at (pended (item sight p)) (λ x w. w) k o.told)
    edit_owned timed (Edit.frame k serial time) p s ms h o = others s _ ms (omega arith) o (all_at emptied (λ x w. w) k o.told)
    edit_owned timed (Edit.queue r) p s ms h o = others s _ ms (omega arith) o o.told
    edit_owned timed Edit.deliver p s ms h o = others s _ ms (omega arith) o o.told
    edit_owned timed (Edit.peer_object id) p s ms h o = others s _ ms (omega arith) o o.told
    edit_owned timed Edit.end_connection p s ms h o = others s _ ms (omega arith) o o.told

    edits_owned : (timed : Bool) (es : List Edit) (p : P) (s : Session P) (ms : List MadeInterface) → allows_all timed es ≡ true → Owned s ms → Owned (enact_all es p s) ms
    unfolding enact_all
    edits_owned timed [] p s ms h o = o
    edits_owned timed (e ∷ es) p s ms h o =
        let a = allows-cons timed e es h in
        edits_owned timed es p (enact e p s) ms a.1 (edit_owned timed e p s ms a.0 o)

    -- a new device, with what is told of it
    added_owned : (seat caps : ℕ) (p : P) (s : Session P) (ms : List MadeInterface) → Owned s ms →
        Owned (enact (Edit.add_device seat caps) p s) (ms ++ made_with s.connection.next_id (new_interfaces s.connection.next_id caps))
    unfolding enact
    added_owned seat caps p s ms o =
        record {
          told = all_append (all_map (λ x. all_map (λ i w. record { given = omega arith; owner = old i.id (omega arith) ∙ w.owner })) o.told)
              (more (all_map (λ i w. record { given = omega arith; owner = new i.id (omega arith) ∙ w.owner }) (new_told n (n + 1) (bits_of caps))) none);
          ahead = λ j h. new j (omega arith) ∙ new_others n (n + 1) j (bits_of caps) (inr (omega arith));
        }
      where
        n : ℕ
        n = s.connection.next_id

        ns : List MadeInterface
        ns = made_with n (interfaces_from (n + 1) (bits_of caps))

        old : (j : ℕ) → j < n → made_for j d (ms ++ ns) ≡ made_for j d ms
        old j h = rw (made_for-append j ms ns, new_others n (n + 1) j (bits_of caps) (inl (omega arith))) (or-false (made_for j d ms))

        new : (j : ℕ) → n ≤ j → made_for j d (ms ++ ns) ≡ made_for j d ns
        new j h = rw (made_for-append j ms ns, o.ahead j h)

    -- a plan carried out, with what its answer tells
    pub plan_owned : {timed : Bool} (plan : Plan) (p : P) (s : Session P) (ms : List MadeInterface) → Formed timed s.connection.next_id plan → Owned s ms →
        Owned (enact_all plan.edits p s) (ms ++ made plan.outcome plan.events)
    unfolding enact_all made
    plan_owned plan p s ms (answers o) h = rw (nothing-made o, append-nil ms) h
    plan_owned {timed} plan p s ms (acts o events edits r m a) h = rw (m, append-nil ms) (edits_owned timed edits p s ms a h)
    plan_owned plan p s ms (adds events seat caps m) h = rw m (added_owned seat caps p s ms h)

    pub fresh_owned : (c s n : ℕ) (vs : List (Option ℕ)) → Owned (fresh c s n vs) []
    unfolding fresh made_for
    fresh_owned c s n vs = record { told = none; ahead = λ j h. refl }
