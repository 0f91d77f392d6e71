-- A new seat: the call by its tests and by its limits. Assumes nothing.
use Rattle.answers.specs.Answer.{error_of, Tells}
use Rattle.std.specs.Prelude.{Result, Ok, Err}
use Prim.Native.Nat.{ℕ, ◌+◌, ◌≤◌, ◌<◌}
use mathlib.Core.Path.{◌≡◌, refl, ap, ap₂, sym, ◌∙◌}
use mathlib.Core.Bool.{true}
use mathlib.Core.List.{List, [], ◌∷◌}
use mathlib.Core.Option.{Option}
use native.Mathlib.Omega.{arith}
use borrow.Author.Tests.{lt-leb}
use lib.ListN.{length}
use Rattle.eiproto.specs.Capability.{unknown_bits}
use Rattle.eiproto.specs.Bits.{common}
use Rattle.model.specs.Call.{Input, Load, Plain, Call, Split, map_call, split}
use Rattle.model.specs.Session.{Connection, View, view}
use Rattle.model.specs.Edit.{Edit}
use Rattle.model.specs.Plan.{Sent, records, refusal, refuse}
use Rattle.model.specs.Decide.{negotiated_capabilities, seat_version, check_capabilities, seat_events, seat_plan, seat_added, add_seat, decide_plain, decide}
use Rattle.model.specs.Step.{refuses, step}
use Rattle.model_steps.proofs.Steps.{step_seat_full, step_seat_spent, step-seat-short, step-seat}
use Rattle.control.specs.Control.{seat_count, connection_of}
use Rattle.session.specs.View.{Store, store, session, Whole}
use Rattle.session.specs.Enact.{EnactedControl}
use Rattle.session.proofs.Views.{connection_is, view-connection, seats-length}
use Rattle.events.specs.Events.{Sends}
use Rattle.answers.specs.declared.Error.{Error}
use Rattle.answers.specs.declared.Outcome.{Outcome}
use Rattle.answers.specs.declared.Answer.{Answer}
use Rattle.answers.specs.Check.{Checks}
use Rattle.answers.specs.Texts.{TextsAfter}
use Rattle.answers.specs.Meets.{turn, Handled}
use Rattle.answers.proofs.Meetings.{meets-done, whole-after, over-handled, told-handled}
use Rattle.connection.specs.Seat.{Tested}

seat_plan_lem : (v : View) (name : Option (List ℕ)) (caps : ℕ) → Checks name (Ok tt) → caps < 128
    → add_seat v name caps ≡ seat_added v name caps
unfolding add_seat check_capabilities
seat_plan_lem v name caps fine small = fine _ ∙ rw (lt-leb 128 caps small)

module _ (s : Store) (w : Whole s) (out : List ℕ) (clock : ℕ) (name : Option (List ℕ)) (caps : ℕ) where
  abbrev call : Call Input
  call = Call.plain (Plain.add_seat name caps)

  -- 10 or 11, then 13
  pub seat-refused : (e : Error) {r : Result Answer Error} → Checks name (Err e) → Tells r (error_of e) 0
      → Handled s s out out call clock r
  unfolding decide_plain add_seat
  seat-refused e {r} checked told = told-handled s out (Plain.add_seat name caps) clock (error_of e) r w (checked _) told

  pub seat_unknown : {r : Result Answer Error} → Checks name (Ok tt) → unknown_bits caps ≡ true → Tells r (error_of Error.BadCapabilities) 0
      → Handled s s out out call clock r
  unfolding decide_plain add_seat check_capabilities refuse
  seat_unknown {r} fine unknown told =
      told-handled s out (Plain.add_seat name caps) clock (error_of Error.BadCapabilities) r w (fine _ ∙ rw unknown) told

  -- where both are fine, by the limits. The id, the version and the set are the code's
  module _ (tested : Tested s.control name caps) (id ver set : ℕ) (i : id ≡ (connection_of s.control).next_id)
      (v : ver ≡ seat_version (connection_of s.control)) (c : set ≡ common caps (negotiated_capabilities (connection_of s.control))) where
    abbrev told : List Sent
    told = seat_events (connection_of s.control) id ver name set

    abbrev t : Split Load
    t = split (turn call clock out)

    planned : decide (view (session s)) t.now t.call ≡ seat_plan id set told
    unfolding split map_call decide decide_plain
    planned =
        seat_plan_lem (view (session s)) name caps tested.fine tested.known
        ∙ ap
        (λ (n : Connection).
        let cut = common caps (negotiated_capabilities n) in
        seat_plan n.next_id cut (seat_events n n.next_id (seat_version n) name cut))
        (view-connection s)
        ∙ sym
        (ap₂ (λ (x y : ℕ). seat_plan x set (seat_events (connection_of s.control) x y name set)) i v
        ∙ ap (λ (z : ℕ).
        seat_plan (connection_of s.control).next_id z
        (seat_events (connection_of s.control) (connection_of s.control).next_id (seat_version (connection_of s.control)) name z)) c)

    pub seat_full : {r : Result Answer Error} → 4 ≤ seat_count s.control → Tells r (error_of Error.FullSeats) 0 → Handled s s out out call clock r
    seat_full {r} h = over-handled s out call clock (error_of Error.FullSeats) r w (step_seat_full t (session s) planned (omega (arith, seats-length s)))

    module _ (fewer : seat_count s.control < 4) where
      pub seat_spent : {r : Result Answer Error} → 0xffff_ffff_ffff_ffff < id + 1 → Tells r (error_of Error.IdsSpent) 0 → Handled s s out out call clock r
      seat_spent {r} h =
          let n = ap (λ (c : Connection). c.next_id) (connection_is s) in
          over-handled s out call clock (error_of Error.IdsSpent) r w
          (step_seat_spent t (session s) planned (omega (arith, seats-length s)) (omega arith))

      module _ (left : id + 1 ≤ 0xffff_ffff_ffff_ffff) where
        pub seat-short : {r : Result Answer Error} → length out < length (records told) → Tells r (error_of Error.ShortOut) 0
            → Handled s s out out call clock r
        unfolding split
        seat-short {r} h =
            let n = ap (λ (c : Connection). c.next_id) (connection_is s) in
            over-handled s out call clock (error_of Error.ShortOut) r w
            (step-seat-short t (session s) planned (omega (arith, seats-length s)) (omega arith) h)

        pub seat-done : {d later : List ℕ} {n : ℕ} → EnactedControl s.control d (Edit.add_seat set ∷ []) → length (records told) ≤ length out → Sends out later 0 told n
            → Handled s (store d s.words s.reals s.texts) out later call clock (Ok (record { outcome = Outcome.Seat id; count = n }))
        unfolding split refuses refusal
        seat-done {d} {later} {n} done room sends =
            let e : Store = store d s.words s.reals s.texts in
            let k = ap (λ (c : Connection). c.next_id) (connection_is s) in
            let enacted = done s.words s.reals s.texts t.load in
            meets-done s e out later (step t (session s)) (seat_plan id set told) t.load _
            (whole-after s w enacted.sound refl refl)
            (step-seat t (session s) planned (omega (arith, seats-length s)) (omega arith) room)
            enacted refl refl (omega (arith, sends.next)) sends.bytes (TextsAfter.kept refl)
