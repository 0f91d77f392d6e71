-- Every session that calls lead to is orderly, and the ids that it gives ascend: a step keeps the order as every edit does, and the held touches as
-- every plan does; then by induction on the calls. Assumes nothing.
use Prim.Native.Nat.{ℕ, zero-le}
use mathlib.Core.Path.{◌≡◌, refl}
use mathlib.Core.Bool.{true, false≢true}
use mathlib.Core.List.{List, [], ◌∷◌, map}
use mathlib.Core.Option.{Option}
use native.Mathlib.Nat.{le_refl}
use Rattle.eiproto.specs.Bits.{every}
use Rattle.model.specs.Call.{Split, split}
use Rattle.model.specs.Session.{Session, fresh, view}
use Rattle.model.specs.Plan.{Result}
use Rattle.model.specs.Decide.{decide}
use Rattle.model.specs.Step.{refuses, carried_out, source, unchanged, step, run}
use Rattle.model.specs.Demand3.{trail}
use Rattle.model.specs.Reachable.{seat_ids, device_ids, Orderly, session_after, ReachableOrderly, new_ids, ids_in, IdsAscend}
use Rattle.model.proofs.All.{All, none}
use Rattle.model.proofs.Cut.{Negotiated, decided-negotiated}
use Rattle.model.proofs.Ascending.{Between, end, joined, left_out, ascends, below, once}
use Rattle.model.proofs.ReachableOrder.{object_ids, Ordered, device_ids-sub, interface_ids-sub, edits-ordered}
use Rattle.model.proofs.ReachableBits.{ByBit, edits_by_bit, by_bit_ascends}
use Rattle.model.proofs.ReachableHeld.{Held, held_within_lem}
use Rattle.model.proofs.ReachablePlans.{decide-fits}
use Rattle.model.proofs.Within.{step_by}

-- a refusal tells no id
pub refusal-ids : (o : Result) → refuses o ≡ true → new_ids o [] ≡ []
unfolding refuses new_ids
refusal-ids Result.accepted e = refl
refusal-ids (Result.refused n) e = refl
refusal-ids (Result.refused_version i v) e = refl
refusal-ids (Result.seat id) e = absurd (false≢true e)
refusal-ids (Result.device id) e = absurd (false≢true e)
refusal-ids (Result.value n) e = refl
refusal-ids (Result.truth b) e = refl
refusal-ids Result.none e = refl
refusal-ids Result.given e = refl

module _ {P : Type 0} where
  -- what every step keeps
  pub record Sound (s : Session P) : Type 0 where
    pub ordered : Ordered s
    pub bits : All ByBit s.devices
    pub held : Held s.devices
    pub negotiated : Negotiated s

  pub step-sound : (t : Split P) (s : Session P) → Sound s → Sound (step t s).session
  unfolding source carried_out unchanged
  step-sound t s h =
      let plan = decide (view s) t.now t.call in
      step_by t s (λ r. Sound r.session) (λ o e. h)
      (record {
        ordered = edits-ordered plan.edits t.load s h.ordered;
        bits = edits_by_bit plan.edits t.load s h.bits;
        held = (decide-fits s t.load t.now t.call).held h.held;
        negotiated = decided-negotiated t.now t.call t.load s h.negotiated;
      })

  pub after-sound : (ts : List (Split P)) (s : Session P) → Sound s → Sound (session_after ts s)
  unfolding session_after
  after-sound [] s h = h
  after-sound (t ∷ ts) s h = after-sound ts (step t s).session (step-sound t s h)

  step-ids : (t : Split P) (s : Session P) → Between s.connection.next_id (new_ids (step t s).outcome (step t s).events) (step t s).session.connection.next_id
  unfolding source carried_out unchanged
  step-ids t s =
      step_by t s (λ r. Between s.connection.next_id (new_ids r.outcome r.events) r.session.connection.next_id)
      (λ o e. rw (refusal-ids o e) (end (le_refl s.connection.next_id)))
      (decide-fits s t.load t.now t.call).ids

  pub run-ids : (ts : List (Split P)) (s : Session P) → Between s.connection.next_id (ids_in (run ts s)) (session_after ts s).connection.next_id
  unfolding run ids_in session_after
  run-ids [] s = end (le_refl s.connection.next_id)
  run-ids (t ∷ ts) s = joined (step-ids t s) (run-ids ts (step t s).session)

  orderly : (s : Session P) → Sound s → Orderly s
  unfolding device_ids
  orderly s h =
      let seats = h.ordered.seats in
      let devices = left_out (device_ids-sub s.devices) h.ordered.objects in
      let interfaces = left_out (interface_ids-sub s.devices) h.ordered.objects in
      record {
        seats = ascends seats;
        devices = ascends devices;
        seat_once = λ id. once id seats;
        device_once = λ id. once id devices;
        interfaces = by_bit_ascends h.bits;
        interface_once = λ id. once id interfaces;
        seats_given = below seats;
        devices_given = below devices;
        interfaces_given = below interfaces;
        held = held_within_lem s.devices h.held;
      }

pub fresh-sound : {P : Type 0} (c s n : ℕ) (vs : List (Option ℕ)) → Sound (fresh {P = P} c s n vs)
unfolding fresh seat_ids object_ids Held every
fresh-sound c s n vs = record { ordered = record { seats = end zero-le; objects = end zero-le }; bits = none; held = tt; negotiated = record { seats = refl; devices = refl } }

pub reachable_orderly : ReachableOrderly
unfolding ReachableOrderly
reachable_orderly c s n vs ts = orderly _ (after-sound (map split ts) (fresh c s n vs) (fresh-sound c s n vs))

pub ids_ascend : IdsAscend
unfolding IdsAscend trail fresh
ids_ascend c s n vs ts = ascends (run-ids (map split ts) (fresh c s n vs))
