-- A new device: the call by its tests and by its limits. Assumes nothing.
use Rattle.answers.specs.Answer.{error_of, Tells}
use Rattle.std.specs.Prelude.{Result, Ok, Err}
use Prim.Native.Nat.{ℕ, ◌+◌, ◌≤◌, ◌<◌}
use mathlib.Core.Path.{◌≡◌, refl, sym, ap, ap₂, ◌∙◌}
use mathlib.Core.Bool.{true}
use mathlib.Core.List.{List, [], ◌∷◌}
use mathlib.Core.Option.{Option, none, some}
use native.Mathlib.Omega.{arith}
use borrow.Author.Tests.{lt-leb}
use lib.Dec.{eqb}
use lib.ListN.{length}
use Rattle.eiproto.specs.Bits.{bits_of, common}
use Rattle.eiproto.specs.Capability.{unknown_bits}
use Rattle.eiproto.specs.Enum.{device_type_number}
use Rattle.eiproto.proofs.Bits.{common-le}
use Rattle.eiproto.specs.declared.eiproto_enum.DeviceType.{DeviceType}
use Rattle.model.specs.Call.{Load, Plain, Call, Split, map_call, split}
use Rattle.model.specs.Session.{Seat, Connection, View, view}
use Rattle.model.specs.Edit.{Edit}
use Rattle.model.specs.Plan.{Sent, records, refusal, refuse}
use Rattle.model.specs.Decide.{on_found, seat_of, negotiated_capabilities, device_version, check_capabilities, device_events, device_plan, device_added, add_device, decide_plain, decide}
use Rattle.model.proofs.Cut.{cut_within}
use Rattle.model.specs.Step.{refuses, step}
use Rattle.model_steps.proofs.Steps.{step_device_full, step_device_spent, step-device-short, step-device}
use Rattle.control.specs.Table.{first}
use Rattle.control.specs.Control.{device_count, seat_at, connection_of}
use Rattle.session.specs.View.{Store, store, session, Whole}
use Rattle.session.specs.Enact.{EnactedControl}
use Rattle.session.proofs.Views.{connection_is, view-connection, devices-length, found-seat, no_seat}
use Rattle.events.specs.Events.{Sends}
use Rattle.answers.specs.declared.Error.{Error}
use Rattle.answers.specs.declared.Outcome.{Outcome}
use Rattle.answers.specs.declared.Answer.{Answer}
use Rattle.answers.specs.Check.{Checks}
use Rattle.answers.specs.Texts.{TextsAfter}
use Rattle.answers.specs.Meets.{turn, Handled}
use Rattle.answers.proofs.Meetings.{meets-done, whole-after, over-handled, told-handled}
use Rattle.seat.specs.Seat.{made_with, Tested}

-- ---- what the device is made with

-- it is a part of what is given
pub made-small : (c : List ℕ) (k caps : ℕ) {made : ℕ} → caps < 128 → made ≡ made_with c k caps → made < 128
made-small c k caps h e =
    let shared = common caps (seat_at c k).capabilities in
    let l = common-le caps (seat_at c k).capabilities (omega arith) in
    omega (arith, common-le shared (negotiated_capabilities (connection_of c)) (omega arith))

-- and of what was negotiated
pub made-part : (c : List ℕ) (k caps : ℕ) {made : ℕ} → made ≡ made_with c k caps → common made (negotiated_capabilities (connection_of c)) ≡ made
made-part c k caps e = rw e (cut_within (connection_of c) (common caps (seat_at c k).capabilities))

-- ---- the plan

device_plan_lem : (v : View) (seat : ℕ) (name : Option (List ℕ)) (kind caps : ℕ) {t : Seat} → Checks name (Ok tt) → caps < 128 → seat_of seat v ≡ some t
    → add_device v seat name kind caps
    ≡ device_added v seat name kind (common caps t.capabilities)
unfolding add_device check_capabilities on_found
device_plan_lem v seat name kind caps fine small e = fine _ ∙ rw (lt-leb 128 caps small, e)

-- ---- the call

module _ (s : Store) (w : Whole s) (out : List ℕ) (clock seat : ℕ) (name : Option (List ℕ)) (kind : DeviceType) (caps : ℕ) where
  abbrev call : Plain
  call = Plain.add_device seat name kind caps

  -- 10 or 11, 13, 12
  pub added_checked : (e : Error) {r : Result Answer Error} → Checks name (Err e) → Tells r (error_of e) 0
      → Handled s s out out (Call.plain call) clock r
  unfolding decide_plain add_device
  added_checked e {r} checked a = told-handled s out call clock (error_of e) r w (checked _) a

  pub added_unknown : {r : Result Answer Error} → Checks name (Ok tt) → unknown_bits caps ≡ true → Tells r (error_of Error.BadCapabilities) 0
      → Handled s s out out (Call.plain call) clock r
  unfolding decide_plain add_device check_capabilities refuse
  added_unknown {r} fine unknown a = told-handled s out call clock (error_of Error.BadCapabilities) r w (fine _ ∙ rw unknown) a

  pub added_seatless : {r : Result Answer Error} → Checks name (Ok tt) → caps < 128 → first (λ t. eqb t.id seat) (connection_of s.control).seats ≡ none
      → Tells r (error_of Error.UnknownHandle) 0 → Handled s s out out (Call.plain call) clock r
  unfolding decide_plain add_device check_capabilities on_found refuse
  added_seatless {r} fine small e a =
      told-handled s out call clock (error_of Error.UnknownHandle) r w (fine _ ∙ rw (lt-leb 128 caps small, no_seat s seat e)) a

  -- where these are fine, by the limits. The id, the version, the type's number and the capabilities that it is made with are the code's
  module _ {k : ℕ} (tested : Tested s.control k seat name caps)
      (made id ver number : ℕ) (m : made ≡ made_with s.control k caps) (i : id ≡ (connection_of s.control).next_id)
      (v : ver ≡ device_version (connection_of s.control)) (y : number ≡ device_type_number kind) where
    abbrev told : List Sent
    told = device_events (connection_of s.control) seat id ver name number made

    abbrev t : Split Load
    t = split (turn (Call.plain call) clock out)

    planned : decide (view (session s)) t.now t.call ≡ device_plan id seat made told
    unfolding split map_call decide decide_plain
    planned =
        device_plan_lem (view (session s)) seat name (device_type_number kind) caps tested.fine tested.known (found-seat s seat tested.found)
        ∙ ap
        (λ (c : Connection).
        let cut = common (common caps (seat_at s.control k).capabilities) (negotiated_capabilities c) in
        device_plan c.next_id seat cut (device_events c seat c.next_id (device_version c) name (device_type_number kind) cut))
        (view-connection s)
        ∙ sym
        (ap₂ (λ (x z : ℕ). device_plan x seat made (device_events (connection_of s.control) seat x z name number made)) i v
        ∙ ap₂ (λ (x z : ℕ).
        device_plan (connection_of s.control).next_id seat z
        (device_events (connection_of s.control) seat (connection_of s.control).next_id (device_version (connection_of s.control)) name x z)) y m)

    pub added_full : {r : Result Answer Error} → 8 ≤ device_count s.control → Tells r (error_of Error.FullDevices) 0
        → Handled s s out out (Call.plain call) clock r
    added_full {r} h = over-handled s out (Call.plain call) clock (error_of Error.FullDevices) r w (step_device_full t (session s) planned (omega (arith, devices-length s)))

    module _ (fewer : device_count s.control < 8) where
      next_is : (session s).connection.next_id ≡ id
      next_is = ap (λ (c : Connection). c.next_id) (connection_is s) ∙ sym i

      pub added_spent : {r : Result Answer Error} → 0xffff_ffff_ffff_ffff < id + 1 + length (bits_of made) → Tells r (error_of Error.IdsSpent) 0
          → Handled s s out out (Call.plain call) clock r
      added_spent {r} h =
          over-handled s out (Call.plain call) clock (error_of Error.IdsSpent) r w (step_device_spent t (session s) planned (omega (arith, devices-length s)) (omega (arith, next_is)))

      module _ (left : id + 1 + length (bits_of made) ≤ 0xffff_ffff_ffff_ffff) where
        pub added-short : {r : Result Answer Error} → length out < length (records told) → Tells r (error_of Error.ShortOut) 0
            → Handled s s out out (Call.plain call) clock r
        unfolding split
        added-short {r} h =
            over-handled s out (Call.plain call) clock (error_of Error.ShortOut) r w
            (step-device-short t (session s) planned (omega (arith, devices-length s)) (omega (arith, next_is)) h)

        pub added-done : {d later : List ℕ} {n : ℕ} → EnactedControl s.control d (Edit.add_device seat made ∷ []) → length (records told) ≤ length out → Sends out later 0 told n
            → Handled s (store d s.words s.reals s.texts) out later (Call.plain call) clock (Ok (record { outcome = Outcome.Device id; count = n }))
        unfolding split refuses refusal
        added-done {d} {later} done room sends =
            let e : Store = store d s.words s.reals s.texts in
            let enacted = done s.words s.reals s.texts t.load in
            meets-done s e out later (step t (session s)) (device_plan id seat made told) t.load _
            (whole-after s w enacted.sound refl refl)
            (step-device t (session s) planned (omega (arith, devices-length s)) (omega (arith, next_is)) room)
            enacted refl refl (omega (arith, sends.next)) sends.bytes (TextsAfter.kept refl)
