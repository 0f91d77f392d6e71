-- Nothing overtakes: for one device, what edits have taken is what they have given, then what is queued, then what is pending or was lost with the
-- device, in this order. By cases on the edits. Assumes nothing.
use Prim.Native.Nat.{ℕ, ◌+◌, ◌≤◌, ◌<◌}
use mathlib.Core.Path.{◌≡◌, refl, ap, sym, ◌∙◌}
use mathlib.Core.Bool.{Bool, true, false, cond, false≢true}
use mathlib.Core.List.{List, [], ◌∷◌, ◌++◌, append-nil, append_assoc}
use mathlib.Core.Option.{Option}
use native.Mathlib.Omega.{arith}
use native.Mathlib.Decide.{dec_le}
use lib.Dec.{eqb}
use borrow.Author.Tests.{eqb-true, le-ltb}
use Rattle.model.specs.Call.{Sight, Call}
use Rattle.model.specs.Session.{Item, Queued, Device, Connection, Session, View, fresh}
use Rattle.model.specs.Edit.{Edit, amended, item, pended, emptied, at, framed_at, rest, with_devices, with_requests, enact, enact_all}
use Rattle.model.specs.Step.{oldest, gave, gave_all}
use Rattle.model.specs.Demand3.{items_of}
use Rattle.model.specs.Reachable.{count_of}
use Rattle.model.specs.Kept.{pending_of}
use Rattle.model.specs.Framed.{stands, gone_from}
use Rattle.model.proofs.Lists.{same, fewer, idle_sum, pend-sum, frame-sum, deliver-sum, clear_sum}
use Rattle.model.proofs.All.{All, none, more}
use Rattle.model.proofs.OneDevice.{taken_at, took, took_all, standing, none-pending, none-taken, items_append, at_count, amended-pending, pended-pending, framed-pending, FewerStand, sub-fewer, standing-append, pending-append, added-count, added-pending, items_parted, amended_keeps}
use Rattle.model.proofs.Sorted.{stays, Stays, Sorted, staying, clearing}
use Rattle.model.proofs.Gone.{stands-not, gone-pending, gone-count, staying-none, Cleared, clearing-clears, clearing-gave, clearing-took}

module _ {P : Type 0} (d : ℕ) where
  -- the sum, and what it needs: the device stands or was removed, once, and neither before its id is given
  pub record Keeps (s : Session P) (taken given : List (Item P)) (removed : List (Device P)) : Type 0 where
    pub sum : taken ≡ given ++ (items_of d s.requests ++ (pending_of d s.devices ++ pending_of d removed))
    pub once : standing d s.devices + standing d removed ≤ 1
    early : s.connection.next_id ≤ d → standing d s.devices + standing d removed ≡ 0

  module _ (s : Session P) (T G : List (Item P)) (R : List (Device P)) (k : Keeps s T G R) where
    abbrev queued : List (Item P)
    queued = items_of d s.requests

    abbrev pending : List (Item P)
    pending = pending_of d s.devices

    abbrev lost : List (Item P)
    lost = pending_of d R

    few : standing d s.devices ≤ 1
    few = omega (arith, k.once)

    -- while it stands nothing is lost
    pub standing_keeps : 0 < standing d s.devices → lost ≡ []
    standing_keeps h = none-pending d R (omega (arith, k.once))

    idle : T ++ [] ≡ (G ++ []) ++ (queued ++ (pending ++ lost))
    idle = idle_sum T G queued pending lost k.sum

    -- nothing changes that the sum sees
    calm : (s' : Session P) → items_of d s'.requests ≡ queued → standing d s'.devices ≡ standing d s.devices → pending_of d s'.devices ≡ pending →
        s.connection.next_id ≤ s'.connection.next_id → Keeps s' (T ++ []) (G ++ []) R
    calm s' q c p n = record { sum = rw (q, p) idle; once = rw c k.once; early = λ h. rw c (k.early (omega arith)) }

    pend : (i : Item P) (j : ℕ) → Keeps (with_devices (at (pended i) j s.devices) s) (T ++ taken_at d i j s.devices) (G ++ []) R
    unfolding with_devices pended
    pend i j =
        let c : standing d (at (pended i) j s.devices) ≡ standing d s.devices = at_count d (pended i) (λ x. refl) j s.devices in
        record {
          sum =
              rw (pended-pending d i j s.devices few)
              (elim (dec_le 1 (standing d s.devices)) [
                | yes h ↦ pend-sum T G queued pending lost k.sum (taken_at d i j s.devices) (standing_keeps h)
                | no h ↦ rw (none-taken d i j s.devices (omega arith), append-nil pending) idle
              ]);
          once = rw c k.once;
          early = λ h. rw c (k.early h);
        }

    frame : (j serial time : ℕ) →
        Keeps
        (record { connection = s.connection; devices = at emptied j s.devices; requests = s.requests ++ framed_at j serial time s.devices })
        (T ++ [])
        (G ++ [])
        R
    unfolding emptied
    frame j serial time =
        let c : standing d (at emptied j s.devices) ≡ standing d s.devices = at_count d emptied (λ x. refl) j s.devices in
        let new : List (Item P) = items_of d (framed_at j serial time s.devices) in
        let left : List (Item P) = pending_of d (at emptied j s.devices) in
        record {
          sum =
              rw (items_append d s.requests (framed_at j serial time s.devices))
              (frame-sum T G queued pending lost k.sum new left (framed-pending d j serial time s.devices few));
          once = rw c k.once;
          early = λ h. rw c (k.early h);
        }

    deliver : Keeps (with_requests (rest s.requests) s) (T ++ []) (G ++ items_of d (oldest s.requests)) R
    unfolding with_requests
    deliver =
        let first : List (Item P) = items_of d (oldest s.requests) in
        let left : List (Item P) = items_of d (rest s.requests) in
        record { sum = deliver-sum T G queued pending lost k.sum first left (items_parted d s.requests); once = k.once; early = k.early }

    -- a new device, whose id is the next, with nothing pending
    module _ (x : Device P) (c : Connection) (a : x.id ≡ s.connection.next_id) (z : x.pending ≡ []) (l : s.connection.next_id < c.next_id) where
      abbrev grown : Session P
      grown = record { connection = c; devices = s.devices ++ (x ∷ []); requests = s.requests }

      add : Keeps grown (T ++ []) (G ++ []) R
      add = go (eqb x.id d) refl
        where
          sum' : T ++ [] ≡ (G ++ []) ++ (queued ++ (pending_of d (s.devices ++ (x ∷ [])) ++ lost))
          sum' = rw (added-pending d s.devices x z) idle

          count : (b : Bool) → eqb x.id d ≡ b → standing d (s.devices ++ (x ∷ [])) ≡ standing d s.devices + cond b 1 0
          count b e = added-count d s.devices x ∙ ap (λ b. standing d s.devices + cond b 1 0) e

          go : (b : Bool) → eqb x.id d ≡ b → Keeps grown (T ++ []) (G ++ []) R
          go true e =
              let n = count true e in
              let q : x.id ≡ d = eqb-true x.id d e in
              record { sum = sum'; once = omega (arith, k.early (omega arith)); early = λ h. omega arith }
          go false e =
              let n = count false e in
              record { sum = sum'; once = omega (arith, k.once); early = λ h. omega (arith, k.early (omega arith)) }

    -- devices go, with what is pending on them
    clear : (s' : Session P) → Cleared s s' → Keeps s' T G (R ++ gone_from s'.devices s.devices)
    unfolding stands
    clear s' c = go (sub-fewer d c.devices)
      where
        gone : List (Device P)
        gone = gone_from s'.devices s.devices

        -- by what they have of it
        with_gone : items_of d s'.requests ≡ queued → (ps ls : List (Item P)) → pending_of d s'.devices ≡ ps → pending_of d gone ≡ ls →
            T ≡ G ++ (queued ++ (ps ++ (lost ++ ls))) → standing d s'.devices + standing d gone ≡ standing d s.devices →
            Keeps s' T G (R ++ gone)
        with_gone q ps ls p g e n =
            let m : standing d (R ++ gone) ≡ standing d R + standing d gone = standing-append d R gone in
            record {
              sum = rw (q, p, pending-append d R gone, g) e;
              once = omega (arith, k.once);
              early = λ h. omega (arith, k.early (rw (← c.next_id) h));
            }

        counted : (b : Bool) → stands d s'.devices ≡ b → standing d gone ≡ cond b 0 (standing d s.devices)
        counted b e = gone-count d s'.devices s.devices ∙ ap (λ b. cond b 0 (standing d s.devices)) e

        had : (b : Bool) → stands d s'.devices ≡ b → pending_of d gone ≡ cond b [] pending
        had b e = gone-pending d s'.devices s.devices ∙ ap (λ b. cond b [] pending) e

        stays_same : standing d s'.devices ≡ standing d s.devices → (b : Bool) → stands d s'.devices ≡ b → (standing d gone ≡ 0) × (pending_of d gone ≡ [])
        stays_same h true e = (counted true e, had true e)
        stays_same h false e = let z : standing d s.devices ≡ 0 = sym h ∙ stands-not d s'.devices e in (counted false e ∙ z, had false e ∙ none-pending d s.devices z)

        go : FewerStand d s.devices s'.devices → Keeps s' T G (R ++ gone)
        go (same h p) =
            let z = stays_same h (stands d s'.devices) refl in
            with_gone (ap (items_of d) c.requests) pending [] p z.1 (rw (append-nil lost) k.sum) (omega (arith, z.0))
        go (fewer h) =
            let z : standing d s'.devices ≡ 0 = omega (arith, few) in
            let e : stands d s'.devices ≡ false = le-ltb 0 (standing d s'.devices) (omega arith) in
            with_gone (ap (items_of d) c.requests) [] pending (none-pending d s'.devices z) (had false e) (clear_sum T G queued pending lost k.sum (standing_keeps (omega arith)))
            (omega (arith, counted false e))

  edit_keeps : (frames : Bool) (e : Edit) (p : P) (s : Session P) (T G : List (Item P)) (R : List (Device P)) → stays frames e ≡ true → Keeps s T G R →
      Keeps (enact e p s) (T ++ took d e p s) (G ++ items_of d (gave e s)) R
  unfolding enact took gave items_of stays
  edit_keeps frames (Edit.raise n) p s T G R h k = calm s T G R k (enact (Edit.raise n) p s) refl refl refl (omega arith)
  edit_keeps frames (Edit.add_seat caps) p s T G R h k = calm s T G R k (enact (Edit.add_seat caps) p s) refl refl refl (omega arith)
  edit_keeps frames (Edit.remove_seat seat) p s T G R h k = calm s T G R k (enact (Edit.remove_seat seat) p s) refl refl refl (omega arith)
  edit_keeps frames (Edit.add_device seat caps) p s T G R h k = add s T G R k _ _ refl refl (omega arith)
  edit_keeps frames (Edit.remove_device j) p s T G R h k = absurd (false≢true h)
  edit_keeps frames (Edit.remove_devices_of seat) p s T G R h k = absurd (false≢true h)
  edit_keeps frames (Edit.amend j a) p s T G R h k =
      calm s T G R k (enact (Edit.amend j a) p s) refl (at_count d (amended a) (λ x. (amended_keeps a x).0) j s.devices) (amended-pending d a j s.devices) (omega arith)
  edit_keeps frames (Edit.pend j sight) p s T G R h k = pend s T G R k (item sight p) j
  edit_keeps frames (Edit.frame j serial time) p s T G R h k = frame s T G R k j serial time
  edit_keeps frames (Edit.queue r) p s T G R h k =
      calm s T G R k (enact (Edit.queue r) p s) (items_append d s.requests (Queued.untimed r ∷ []) ∙ append-nil (items_of d s.requests)) refl refl (omega arith)
  edit_keeps frames Edit.deliver p s T G R h k = deliver s T G R k
  edit_keeps frames (Edit.peer_object id) p s T G R h k = calm s T G R k (enact (Edit.peer_object id) p s) refl refl refl (omega arith)
  edit_keeps frames Edit.end_connection p s T G R h k = calm s T G R k (enact Edit.end_connection p s) refl refl refl (omega arith)

  edits_keep : (frames : Bool) {es : List Edit} (p : P) (s : Session P) (T G : List (Item P)) (R : List (Device P)) → All (Stays frames) es → Keeps s T G R →
      Keeps (enact_all es p s) (T ++ took_all d es p s) (G ++ items_of d (gave_all es p s)) R
  unfolding enact_all took_all gave_all items_of
  edits_keep frames p s T G R none k = rw (append-nil T, append-nil G) k
  edits_keep frames p s T G R (more {x = e} {xs = es} h a) k =
      rw (
        items_append d (gave e s) (gave_all es p (enact e p s)),
        ← append_assoc T (took d e p s) (took_all d es p (enact e p s)),
        ← append_assoc G (items_of d (gave e s)) (items_of d (gave_all es p (enact e p s))),
      )
      (edits_keep frames p (enact e p s) _ _ R a (edit_keeps frames e p s T G R h k))

  -- a plan carried out
  pub plan_keeps : {v : View} {now : ℕ} {c : Call Sight} {es : List Edit} (p : P) (s : Session P) (T G : List (Item P)) (R : List (Device P)) → Sorted v now es c → Keeps s T G R →
      Keeps (enact_all es p s) (T ++ took_all d es p s) (G ++ items_of d (gave_all es p s)) (R ++ gone_from (enact_all es p s).devices s.devices)
  unfolding items_of
  plan_keeps p s T G R (staying frames w a one) k = rw (staying-none frames p s a, append-nil R) (edits_keep frames p s T G R a k)
  plan_keeps {es = es} p s T G R (clearing r a) k =
      rw (clearing-took d p s a, clearing-gave p s a, append-nil T, append-nil G) (clear s T G R k (enact_all es p s) (clearing-clears p s a))

  pub fresh_keeps : (c s n : ℕ) (vs : List (Option ℕ)) → Keeps (fresh c s n vs) [] [] []
  unfolding fresh count_of pending_of items_of
  fresh_keeps c s n vs = record { sum = refl; once = omega arith; early = λ _. refl }
