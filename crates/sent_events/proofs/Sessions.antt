-- The theorems of specs/Sendable: every plan's events have messages (Plans), every session that calls lead to lists known capabilities alone, and the records are in bytes
-- what the events are. Assumes nothing.
use Prim.Native.Nat.{ℕ}
use mathlib.Core.Path.{◌≡◌, refl, ap, ◌∙◌}
use mathlib.Core.Bool.{Bool, true, false, ◌&&◌, cond}
use mathlib.Core.List.{List, [], ◌∷◌, ◌++◌, map, Memᴰ}
use lib.Dec.{ltb, eqb}
use Rattle.eiproto.specs.Bits.{every}
use Rattle.wire.specs.Record.{event_record}
use Rattle.event_messages.specs.Message.{arguments, message}
use Rattle.event_messages.specs.Stands.{zero_free, Stands}
use Rattle.model.specs.Call.{Sight, Call, Split, split}
use Rattle.model.specs.Session.{Interface, Device, Session, View, fresh, map_device, blank, view}
use Rattle.model.specs.Edit.{Amend, Edit, interfaces_without, amended, item, pended, emptied, enact, enact_all}
use Rattle.model.specs.Plan.{Sent, records}
use Rattle.model.specs.Decide.{decide}
use Rattle.model.specs.Step.{carried_out, source, unchanged, step}
use Rattle.model.specs.Reachable.{session_after}
use Rattle.model.proofs.All.{All, none as nil, more, all_append, all_at, all_without_slot, all_without_seat}
use Rattle.model.proofs.ReachableHeld.{both}
use Rattle.model.proofs.Within.{step_by}
use Rattle.sent_events.specs.Sendable.{Maker, HasMessage, known, SentIsSendable, ReachedIsKnown, Sendable, WrittenIsSendable}
use Rattle.sent_events.proofs.Plans.{lists_known, new_known, adds_known, Fine, decide-fine}

-- ---- members

pub all_mem : {A : Type 0} {Q : A → Type 0} {x : A} {xs : List A} → All Q xs → Memᴰ x xs → Q x
all_mem {A = A} {Q = Q} nil m = elim m [ ]
all_mem (more q a) (Memᴰ.head e) = rw e q
all_mem (more q a) (Memᴰ.tail m) = all_mem a m

pub sent_is_sendable : SentIsSendable
unfolding SentIsSendable
sent_is_sendable v now c e h m = all_mem (decide-fine v now c h).events m

-- ---- capabilities stay known

without-known : (cap : ℕ) (is : List Interface) → lists_known is ≡ true → lists_known (interfaces_without cap is) ≡ true
unfolding interfaces_without every
without-known cap [] h = refl
without-known cap (i ∷ is) h = let q = both (ltb i.capability 7) (lists_known is) h in go (eqb i.capability cap) q.0 (without-known cap is q.1)
  where
    go : (b : Bool) → ltb i.capability 7 ≡ true → lists_known (interfaces_without cap is) ≡ true →
        lists_known (cond b [] (i ∷ []) ++ interfaces_without cap is) ≡ true
    go true p h = h
    go false p h = rw p h

module _ {P : Type 0} where
  abbrev Knows : Device P → Type 0
  Knows d = lists_known d.interfaces ≡ true

  amended-knows : (a : Amend) (d : Device P) → Knows d → Knows (amended a d)
  unfolding amended
  amended-knows (Amend.touch_down t) d h = h
  amended-knows (Amend.touch_up t) d h = h
  amended-knows Amend.clear_touches d h = h
  amended-knows (Amend.unlist cap) d h = without-known cap d.interfaces h

  edit-knows : (e : Edit) (p : P) (s : Session P) → adds_known e ≡ true → All Knows s.devices → All Knows (enact e p s).devices
  unfolding enact adds_known
  edit-knows (Edit.raise n) p s k h = h
  edit-knows (Edit.add_seat caps) p s k h = h
  edit-knows (Edit.remove_seat seat) p s k h = h
  edit-knows (Edit.add_device seat caps) p s k h = all_append h (more (new_known s.connection.next_id caps k) nil)
  edit-knows (Edit.remove_device i) p s k h = all_without_slot i h
  edit-knows (Edit.remove_devices_of seat) p s k h = all_without_seat seat h
  edit-knows (Edit.amend i a) p s k h = all_at (amended a) (amended-knows a) i h
  edit-knows (Edit.pend i sight) p s k h = all_at (pended (item sight p)) (λ d w. w) i h
  edit-knows (Edit.frame i serial time) p s k h = all_at emptied (λ d w. w) i h
  edit-knows (Edit.queue r) p s k h = h
  edit-knows Edit.deliver p s k h = h
  edit-knows (Edit.peer_object id) p s k h = h
  edit-knows Edit.end_connection p s k h = h

  edits_know : (es : List Edit) (p : P) (s : Session P) → every adds_known es ≡ true → All Knows s.devices → All Knows (enact_all es p s).devices
  unfolding enact_all every
  edits_know [] p s k h = h
  edits_know (e ∷ es) p s k h = let q = both (adds_known e) (every adds_known es) k in edits_know es p (enact e p s) q.1 (edit-knows e p s q.0 h)

  all_known : (ds : List (Device P)) → All Knows ds → every (λ d. lists_known d.interfaces) ds ≡ true
  unfolding every
  all_known [] nil = refl
  all_known (d ∷ ds) (more q a) = rw q (all_known ds a)

  -- payload unseen
  viewed_known : (ds : List (Device P)) → every (λ d. lists_known d.interfaces) (map (map_device blank) ds) ≡ every (λ d. lists_known d.interfaces) ds
  unfolding map_device every
  viewed_known [] = refl
  viewed_known (d ∷ ds) = ap (λ b. lists_known d.interfaces && b) (viewed_known ds)

  decide-known : (t : Split P) (s : Session P) → known s ≡ true → Fine (view s) t.call (decide (view s) t.now t.call)
  unfolding known view
  decide-known t s h = decide-fine (view s) t.now t.call (viewed_known s.devices ∙ h)

  after-knows : (ts : List (Split P)) (s : Session P) → All Knows s.devices → All Knows (session_after ts s).devices
  unfolding session_after known source carried_out unchanged
  after-knows [] s h = h
  after-knows (t ∷ ts) s h =
      after-knows ts (step t s).session
      (step_by t s (λ r. All Knows r.session.devices) (λ o e. h)
      (edits_know (decide (view s) t.now t.call).edits t.load s (decide-known t s (all_known s.devices h)).edits h))

pub reached_is_known : ReachedIsKnown
unfolding ReachedIsKnown known fresh
reached_is_known c s n vs ts = all_known _ (after-knows (map split ts) (fresh c s n vs) nil)

-- ---- in bytes

stands : {v : View} {c : Call Sight} {e : Sent} (x : HasMessage v c e) → zero_free e.text ≡ true →
    Stands x.interface (event_record e.object e.event e.text) (message e.object x.opcode (arguments e.event e.text))
stands {e = e} x z =
    record { object = e.object; opcode = x.opcode; event = e.event; text = e.text; has = x.has; fits = x.fits ∙ z; laid = refl; told = refl }

all_stand : {v : View} {c : Call Sight} {es : List Sent} → All (HasMessage v c) es → every (λ e. zero_free e.text) es ≡ true → Sendable (Maker v c) (records es)
unfolding records every stands
all_stand nil z = Sendable.none
all_stand (more {x = e} {xs = es} x a) z =
    let q = both (zero_free e.text) (every (λ y. zero_free y.text) es) z in Sendable.more (stands x q.0) x.maker (all_stand a q.1)

pub written_is_sendable : WrittenIsSendable
unfolding WrittenIsSendable records every source carried_out unchanged
written_is_sendable P t s h =
    step_by t s (λ r. every (λ e. zero_free e.text) r.events ≡ true → Sendable (Maker (view s) t.call) (records r.events)) (λ o e z. Sendable.none)
    (λ z. all_stand (decide-known t s h).events z)
