-- How a request that is not timed meets the step of the model, by what was found and what was tested. Assumes nothing.
use Rattle.std.specs.Prelude.{Result}
use Prim.Native.Nat.{ℕ, zero, suc, ◌+◌, ◌≤◌, ◌<◌}
use mathlib.Core.Path.{◌≡◌, refl, sym, ap, ◌∙◌}
use mathlib.Core.Bool.{true, false}
use mathlib.Core.List.{List, [], ◌∷◌}
use mathlib.Core.Option.{none, some}
use native.Mathlib.Nat.{zero-add}
use native.Mathlib.Omega.{arith}
use borrow.Author.Tests.{leb-true, leb-false, eq-eqb, ne_eqb}
use lib.Ieee.{Float}
use lib.Dec.{eqb}
use lib.ListN.{length, get_or}
use Rattle.eiproto.specs.Bits.{contains, bits_from, bits_of, lowest_bit}
use Rattle.eiproto.specs.Capability.{capability_index, capability_mask, unknown_bits}
use Rattle.eiproto.specs.Interface.{ei_callback}
use Rattle.eiproto.specs.declared.event.DeviceCapability.{DeviceCapability}
use Rattle.wire.specs.declared.event.Event.{Event}
use Rattle.wire.specs.Bits.{splice}
use Rattle.wire.specs.Record.{fixed_length, record_length, text_of, layout}
use Rattle.wire.proofs.Splices.{splice-none}
use Rattle.model.specs.Call.{Input, sight, Load, load_of, Plain, Call, map_call, split}
use Rattle.model.specs.Session.{Untimed, Connection, Session, View, view}
use Rattle.model.specs.Edit.{Amend, Edit, next_serial, with_connection, with_devices, enact, enact_all}
use Rattle.model.specs.Plan as plan
use Rattle.model.specs.Plan.{Sent, on, records, answer, refuse, ignore, edit, send, refusal}
use Rattle.model.specs.Decide.{lists_as, on_found, send_next, handle_sync, handle_seat, handle_device, handle_frame, handle_release, handle_seat_release, retire_seat, destroyed, decide_plain, decide}
use Rattle.model.specs.Step.{Counts, counts, refuses}
use Rattle.model_steps.proofs.Counted.{framed_length, after_frame, counts-frame, quiet_all, quiet_none}
use Rattle.model_steps.proofs.Steps.{step-answer, step-sent, step-sent-short, step-queue, step_queue_full, step-frame, step_frame_full, step_flush, step_flush_full}
use Rattle.control.specs.Table.{first}
use Rattle.control.specs.Control.{device_count, queue_length, seat_at, connection_of, pending_at, core_at, cores_of}
use Rattle.session.specs.View.{Store, store, session, Whole}
use Rattle.session.specs.Enact.{Enacted, EnactedControl}
use Rattle.session.proofs.Views.{connection_is, view-connection, requests-length, pending-count, enacted-none, enacted_join, found-device, no_device, found-seat, no_seat, found-interface, no_interface}
use Rattle.queue.specs.Queue.{frame_entries, has_room}
use Rattle.events.specs.Events.{Sends, Destroys}
use Rattle.events.specs.declared.Mark.{Mark}
use Rattle.events.proofs.Writes.{one_length, destroyed-length}
use Rattle.answers.specs.Answer.{error_of, Tells}
use Rattle.answers.specs.Texts.{TextsAfter}
use Rattle.answers.specs.Meets.{turn, Handled}
use Rattle.answers.specs.declared.Error.{Error}
use Rattle.answers.specs.declared.Answer.{Answer}
use Rattle.answers.proofs.Meetings.{meets-unchanged, meets-done, whole-after}

entries_are : (n : ℕ) → framed_length n ≡ frame_entries n
unfolding framed_length frame_entries
entries_are zero = refl
entries_are (suc n) = refl

-- none are needed where nothing is pending
entries-some : (n : ℕ) → 0 < frame_entries n → (0 < n) × (frame_entries n ≡ n + 1)
unfolding frame_entries
entries-some zero h = absurd (omega arith)
entries-some (suc n) h = (omega arith, refl)

-- ---- room

pub room_one : (c : List ℕ) → has_room c 1 ≡ true → queue_length c < 256
unfolding has_room
room_one c h = omega (arith, leb-true (queue_length c + 1) 256 h)

module _ (c : List ℕ) (k : ℕ) {n : ℕ} (m : n ≡ frame_entries (core_at c k).pending) where
  pub room-frame : has_room c n ≡ true → queue_length c + frame_entries (pending_at c k) ≤ 256
  unfolding has_room core_at
  room-frame h = omega (arith, m, leb-true (queue_length c + n) 256 h)

  pub room_flush : has_room c (n + 1) ≡ true → queue_length c + frame_entries (pending_at c k) ≤ 256
  unfolding has_room core_at
  room_flush h = omega (arith, m, leb-true (queue_length c + (n + 1)) 256 h)

-- once the frame is queued, there is room for one more
pub room-behind : (s e : Store) {load : Load} (k serial time : ℕ) {n : ℕ} → k < device_count s.control → n ≡ frame_entries (core_at s.control k).pending
    → has_room s.control (n + 1) ≡ true → Enacted s e (Edit.frame k serial time ∷ []) load → queue_length e.control < 256
unfolding has_room enact_all counts after_frame
room-behind s e {load} k serial time {n} l m h o =
    omega (
      arith,
      leb-true (queue_length s.control + (n + 1)) 256 h,
      m,
      ap (λ (x : Session Load). length x.requests) o.view,
      ap (λ (x : Counts). x.queued) (counts-frame k serial time load (session s)),
      requests-length s,
      requests-length e,
      ap framed_length (pending-count s k l),
      entries_are (core_at s.control k).pending,
    )

-- ---- the slices after it

pub whole-rows : {c w d v texts : List ℕ} {r q : List Float} {edits : List Edit} {load : Load} → Whole (store c w r texts)
    → Enacted (store c w r texts) (store d v q texts) edits load → length v ≡ length w → length q ≡ length r → Whole (store d v q texts)
whole-rows {c = c} {w = w} {texts = texts} {r = r} whole o x y = whole-after (store c w r texts) whole o.sound x y

-- ---- what is queued

module _ (s : Store) (out : List ℕ) (call : Call Input) (clock : ℕ) (r : Result Answer Error) where
  -- an answer and nothing else
  pub handled-answer : {o : plan.Result} → Whole s → decide (view (session s)) clock (map_call sight call) ≡ answer o → Tells r o 0
      → Handled s s out out call clock r
  unfolding split
  handled-answer {o} w e a =
      meets-unchanged s out _ o r w (step-answer (split (turn call clock out)) (session s) o e) a.0 a.1

  module _ (u : Untimed) (p : decide (view (session s)) clock (map_call sight call) ≡ edit (Edit.queue u ∷ [])) where
    pub queue_full : Whole s → has_room s.control 1 ≡ false → Tells r (error_of Error.FullQueue) 0 → Handled s s out out call clock r
    unfolding split has_room
    queue_full w full a =
        meets-unchanged s out _ (error_of Error.FullQueue) r w
        (step_queue_full (split (turn call clock out)) (session s) u p (omega (arith, leb-false (queue_length s.control + 1) 256 full, requests-length s)))
        a.0 a.1

    pub queue-done : {d v : List ℕ} {q : List Float} → has_room s.control 1 ≡ true → Whole (store d v q s.texts)
        → Enacted s (store d v q s.texts) (Edit.queue u ∷ []) (load_of call) → Tells r plan.Result.accepted 0 → Handled s (store d v q s.texts) out out call clock r
    unfolding split has_room edit records refuses refusal
    queue-done fits w done a =
        meets-done s _ out out _ (edit (Edit.queue u ∷ [])) (load_of call) r w
        (step-queue (split (turn call clock out)) (session s) u p (omega (arith, leb-true (queue_length s.control + 1) 256 fits, requests-length s)))
        done refl a.0 a.1 (sym (splice-none out 0)) (TextsAfter.kept refl)

  -- behind the frame of the device in slot k
  module _ (k serial time : ℕ) (l : k < device_count s.control) where
    abbrev waits : ℕ
    waits = (core_at s.control k).pending

    needs_are : framed_length (get_or (counts (session s)).pending k 0) ≡ frame_entries waits
    needs_are = ap framed_length (pending-count s k l) ∙ entries_are waits

    module _ (u : Untimed) (p : decide (view (session s)) clock (map_call sight call) ≡ edit (Edit.frame k serial time ∷ Edit.queue u ∷ [])) where
      pub flush_full : {n : ℕ} → n ≡ frame_entries waits → Whole s → has_room s.control (n + 1) ≡ false → Tells r (error_of Error.FullQueue) 0 → Handled s s out out call clock r
      unfolding split has_room
      flush_full {n} m w full a =
          meets-unchanged s out _ (error_of Error.FullQueue) r w
          (step_flush_full (split (turn call clock out)) (session s) k serial time u p
          (omega (arith, leb-false (queue_length s.control + (n + 1)) 256 full, m, requests-length s, needs_are)))
          a.0 a.1

      pub flush_done : {d v : List ℕ} {q : List Float} {n : ℕ} → n ≡ frame_entries waits → has_room s.control (n + 1) ≡ true → Whole (store d v q s.texts)
          → Enacted s (store d v q s.texts) (Edit.frame k serial time ∷ Edit.queue u ∷ []) (load_of call) → Tells r plan.Result.accepted 0
          → Handled s (store d v q s.texts) out out call clock r
      unfolding split has_room edit records refuses refusal
      flush_done {n = n} m fits w done a =
          meets-done s _ out out _ (edit (Edit.frame k serial time ∷ Edit.queue u ∷ [])) (load_of call) r w
          (step_flush (split (turn call clock out)) (session s) k serial time u p
          (omega (arith, leb-true (queue_length s.control + (n + 1)) 256 fits, m, requests-length s, needs_are)))
          done refl a.0 a.1 (sym (splice-none out 0)) (TextsAfter.kept refl)

    module _ (p : decide (view (session s)) clock (map_call sight call) ≡ edit (Edit.frame k serial time ∷ [])) where
      -- a queue that is sound has room for nothing
      pub frame_full : {n : ℕ} → n ≡ frame_entries waits → Whole s → has_room s.control n ≡ false → Tells r (error_of Error.FullQueue) 0 → Handled s s out out call clock r
      unfolding split has_room
      frame_full {n} m w full a =
          let q = leb-false (queue_length s.control + n) 256 full in
          let some = entries-some waits (omega (arith, q, m, w.sound.queued)) in
          meets-unchanged s out _ (error_of Error.FullQueue) r w
          (step_frame_full (split (turn call clock out)) (session s) k serial time p (omega (arith, some.0, pending-count s k l))
          (omega (arith, q, m, some.1, requests-length s, pending-count s k l)))
          a.0 a.1

      pub frame-done : {d v : List ℕ} {q : List Float} {n : ℕ} → n ≡ frame_entries waits → has_room s.control n ≡ true → Whole (store d v q s.texts)
          → Enacted s (store d v q s.texts) (Edit.frame k serial time ∷ []) (load_of call) → Tells r plan.Result.accepted 0
          → Handled s (store d v q s.texts) out out call clock r
      unfolding split has_room edit records refuses refusal
      frame-done {n = n} m fits w done a =
          meets-done s _ out out _ (edit (Edit.frame k serial time ∷ [])) (load_of call) r w
          (step-frame (split (turn call clock out)) (session s) k serial time p
          (omega (arith, leb-true (queue_length s.control + n) 256 fits, m, requests-length s, needs_are)))
          done refl a.0 a.1 (sym (splice-none out 0)) (TextsAfter.kept refl)

-- ---- what is found

module _ (s : Store) (seat caps : ℕ) (u : Untimed) where
  pub seat-none : first (λ t. eqb t.id seat) (connection_of s.control).seats ≡ none → handle_seat (view (session s)) seat caps u ≡ answer plan.Result.accepted
  unfolding handle_seat on_found ignore
  seat-none e = rw (no_seat s seat e)

  module _ {k : ℕ} (e : first (λ t. eqb t.id seat) (connection_of s.control).seats ≡ some k) where
    pub seat_strange : unknown_bits caps ≡ true → handle_seat (view (session s)) seat caps u ≡ answer (plan.Result.refused 3)
    unfolding handle_seat on_found refuse
    seat_strange h = rw (found-seat s seat e, h)

    pub seat_lacks : unknown_bits caps ≡ false → contains (seat_at s.control k).capabilities caps ≡ false → handle_seat (view (session s)) seat caps u ≡ answer (plan.Result.refused 3)
    unfolding handle_seat on_found refuse
    seat_lacks h x = rw (found-seat s seat e, h, x)

    pub seat-has : unknown_bits caps ≡ false → contains (seat_at s.control k).capabilities caps ≡ true → handle_seat (view (session s)) seat caps u ≡ edit (Edit.queue u ∷ [])
    unfolding handle_seat on_found
    seat-has h x = rw (found-seat s seat e, h, x)

module _ (s : Store) (device : ℕ) where
  module _ (e : first (λ d. eqb d.id device) (cores_of s.control) ≡ none) where
    pub device-none : (clock : ℕ) (u : Untimed) → handle_device (view (session s)) clock device u ≡ answer plan.Result.accepted
    unfolding handle_device on_found ignore
    device-none clock u = rw (no_device s device e)

    pub frame-none : (serial time : ℕ) → handle_frame (view (session s)) device serial time ≡ answer plan.Result.accepted
    unfolding handle_frame on_found ignore
    frame-none serial time = rw (no_device s device e)

  module _ {k : ℕ} (e : first (λ d. eqb d.id device) (cores_of s.control) ≡ some k) where
    pub device_flush : (clock : ℕ) (u : Untimed) {serial : ℕ} → serial ≡ (connection_of s.control).last_serial
        → handle_device (view (session s)) clock device u ≡ edit (Edit.frame k serial clock ∷ Edit.queue u ∷ [])
    unfolding handle_device on_found
    device_flush clock u q = rw (found-device s device e, view-connection s, q)

    pub device_frame_lem : (serial time : ℕ) → handle_frame (view (session s)) device serial time ≡ edit (Edit.frame k serial time ∷ [])
    unfolding handle_frame on_found
    device_frame_lem serial time = rw (found-device s device e)

-- ---- what is answered at once

-- "Sync whose callback version is not 1" is 2
pub sync-version : (v : View) (clock callback version : ℕ) → (version ≡ 1 → ⊥)
    → decide v clock (map_call sight (Call.plain (Plain.sync callback version))) ≡ answer (plan.Result.refused_version ei_callback version)
unfolding map_call decide decide_plain handle_sync
sync-version v clock callback version h = rw (ne_eqb version 1 h)

pub done-room : {n m : ℕ} → n ≡ fixed_length (Event.CallbackDone 0) → n ≤ m → 0 + record_length (Event.CallbackDone 0) [] ≤ m
unfolding record_length text_of layout
done-room e l = omega arith

module _ (s : Store) (out : List ℕ) (callback version clock : ℕ) (r : Result Answer Error) (h : version ≡ 1) where
  abbrev done : List Sent
  done = on callback (Event.CallbackDone 0) ∷ []

  sync-plan : handle_sync callback version ≡ send done []
  unfolding handle_sync
  sync-plan = rw (eq-eqb version 1 h)

  done-length : {n : ℕ} → n ≡ fixed_length (Event.CallbackDone 0) → length (records done) ≡ n
  unfolding record_length text_of layout
  done-length q = omega (arith, one_length callback (Event.CallbackDone 0) [])

  pub sync-short : {n : ℕ} → n ≡ fixed_length (Event.CallbackDone 0) → Whole s → length out < n → Tells r (error_of Error.ShortOut) 0
      → Handled s s out out (Call.plain (Plain.sync callback version)) clock r
  unfolding split map_call decide decide_plain
  sync-short q w l a =
      meets-unchanged s out _ (error_of Error.ShortOut) r w
      (step-sent-short (split (turn (Call.plain (Plain.sync callback version)) clock out)) (session s) done [] sync-plan quiet_none (omega (arith, done-length q)))
      a.0 a.1

  pub sync-done : {n m : ℕ} {later : List ℕ} → n ≡ fixed_length (Event.CallbackDone 0) → Whole s → n ≤ length out → Sends out later 0 done m → Tells r plan.Result.accepted m
      → Handled s s out later (Call.plain (Plain.sync callback version)) clock r
  unfolding split map_call decide decide_plain send refuses refusal
  sync-done q w l d a =
      meets-done s s out _ _ (send done []) (load_of (Call.plain (Plain.sync callback version))) r w
      (step-sent (split (turn (Call.plain (Plain.sync callback version)) clock out)) (session s) done [] sync-plan quiet_none (omega (arith, done-length q)))
      (enacted-none s _ w.sound) refl a.0 (a.1 ∙ d.next ∙ zero-add (length (records done))) d.bytes (TextsAfter.kept refl)

-- ---- destroyed

module _ (v : View) (clock : ℕ) where
  pub interface-plan : (cap : DeviceCapability) (id : ℕ) → decide v clock (map_call sight (Call.plain (Plain.interface_release cap id))) ≡ handle_release v (capability_index cap) id
  unfolding map_call decide decide_plain
  interface-plan cap id = refl

  pub frame-plan : (device serial time : ℕ) → decide v clock (map_call sight (Call.plain (Plain.device_frame device serial time))) ≡ handle_frame v device serial time
  unfolding map_call decide decide_plain
  frame-plan device serial time = refl

sent-next : (s : Store) (object : ℕ) (edits : List Edit)
    → send_next (view (session s)) object (λ n. Event.Destroyed n) edits ≡ send (destroyed (connection_of s.control).last_serial (object ∷ [])) (Edit.raise 1 ∷ edits)
unfolding send_next destroyed
sent-next s object edits =
    ap (λ (n : Connection). send (on object (Event.Destroyed (next_serial n.last_serial)) ∷ []) (Edit.raise 1 ∷ edits)) (view-connection s)

module _ (s : Store) (out : List ℕ) (call : Call Input) (clock object : ℕ) (edits : List Edit) (quiet : quiet_all (Edit.raise 1 ∷ edits) ≡ true)
    (p : decide (view (session s)) clock (map_call sight call) ≡ send_next (view (session s)) object (λ n. Event.Destroyed n) edits) (r : Result Answer Error) where
  abbrev last : ℕ
  last = (connection_of s.control).last_serial

  pub destroyed-short : Whole s → length out < 14 → Tells r (error_of Error.ShortOut) 0 → Handled s s out out call clock r
  unfolding split
  destroyed-short w l a =
      meets-unchanged s out _ (error_of Error.ShortOut) r w
      (step-sent-short (split (turn call clock out)) (session s) (destroyed last (object ∷ [])) (Edit.raise 1 ∷ edits) (p ∙ sent-next s object edits) quiet
      (omega (arith, destroyed-length last (object ∷ []))))
      a.0 a.1

  pub destroyed-done : {d v later : List ℕ} {f : List Float} {serial : ℕ} {m : Mark} → Whole (store d v f s.texts) → 14 ≤ length out → serial ≡ last
      → Destroys out later (record { at = 0; serial = serial }) (object ∷ []) m → Enacted s (store d v f s.texts) (Edit.raise 1 ∷ edits) (load_of call)
      → Tells r plan.Result.accepted m.at → Handled s (store d v f s.texts) out later call clock r
  unfolding split send refuses refusal
  destroyed-done {later = later} w l q d done a =
      meets-done s _ out later _ (send (destroyed last (object ∷ [])) (Edit.raise 1 ∷ edits)) (load_of call) r w
      (step-sent (split (turn call clock out)) (session s) (destroyed last (object ∷ [])) (Edit.raise 1 ∷ edits) (p ∙ sent-next s object edits) quiet
      (omega (arith, destroyed-length last (object ∷ []))))
      done refl a.0 (a.1 ∙ omega (arith, d.at, destroyed-length last (object ∷ [])))
      (d.bytes ∙ ap (λ (n : ℕ). splice out 0 (records (destroyed n (object ∷ [])))) q) (TextsAfter.kept refl)

-- ---- Release of a seat

module _ (s : Store) (seat clock : ℕ) where
  pub seat_unknown : first (λ x. eqb x.id seat) (connection_of s.control).seats ≡ none
      → decide (view (session s)) clock (map_call sight (Call.plain (Plain.seat_release seat))) ≡ answer plan.Result.accepted
  unfolding map_call decide decide_plain handle_seat_release on_found ignore
  seat_unknown e = rw (no_seat s seat e)

  pub seat_plan_lem : {k : ℕ} → first (λ x. eqb x.id seat) (connection_of s.control).seats ≡ some k
      → decide_plain (view (session s)) clock (Plain.seat_release seat) ≡ retire_seat (view (session s)) seat
  unfolding decide_plain handle_seat_release on_found
  seat_plan_lem e = rw (found-seat s seat e)

-- ---- Release of an interface

-- a capability's number is its bit
pub index_is : (cap : DeviceCapability) {m b : ℕ} → m ≡ capability_mask cap → b ≡ lowest_bit m → b ≡ capability_index cap
unfolding lowest_bit bits_of bits_from
index_is DeviceCapability.Pointer e q = q ∙ ap lowest_bit e
index_is DeviceCapability.PointerAbsolute e q = q ∙ ap lowest_bit e
index_is DeviceCapability.Keyboard e q = q ∙ ap lowest_bit e
index_is DeviceCapability.Touch e q = q ∙ ap lowest_bit e
index_is DeviceCapability.Scroll e q = q ∙ ap lowest_bit e
index_is DeviceCapability.Button e q = q ∙ ap lowest_bit e
index_is DeviceCapability.Text e q = q ∙ ap lowest_bit e

module _ (s : Store) (cap : DeviceCapability) (id : ℕ) {b : ℕ} (q : b ≡ capability_index cap) where
  pub release-none : first (λ d. lists_as b id d.interfaces) (cores_of s.control) ≡ none → handle_release (view (session s)) (capability_index cap) id ≡ answer plan.Result.accepted
  unfolding handle_release on_found ignore
  release-none e = rw (← q, no_interface s b id e)

  pub release-found : {k : ℕ} → first (λ d. lists_as b id d.interfaces) (cores_of s.control) ≡ some k
      → handle_release (view (session s)) (capability_index cap) id ≡ send_next (view (session s)) id (λ n. Event.Destroyed n) (Edit.amend k (Amend.unlist b) ∷ [])
  unfolding handle_release on_found
  release-found e = rw (← q, found-interface s b id e)

-- the connection is as it was
pub amended-connection : {c e : List ℕ} {k : ℕ} {a : Amend} → EnactedControl c e (Edit.amend k a ∷ []) → connection_of e ≡ connection_of c
unfolding enact_all enact with_devices
amended-connection {c} {e} {k} {a} x =
    let d = x [] [] [] Load.None in
    sym (connection_is (store e [] [] [])) ∙ ap (λ (y : Session Load). y.connection) d.view ∙ connection_is (store c [] [] [])

-- a device amended and then the serial raised, or the other way round
pub amend-raise : {s m e : Store} {k n : ℕ} {a : Amend} {load : Load} → Enacted s m (Edit.amend k a ∷ []) load → Enacted m e (Edit.raise n ∷ []) load
    → Enacted s e (Edit.raise n ∷ Edit.amend k a ∷ []) load
unfolding enact_all enact with_connection with_devices
amend-raise x y = let j = enacted_join x y in record { sound = j.sound; view = j.view }
