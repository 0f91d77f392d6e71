-- Objects that go: destroyed is sent for each, the last serial is raised, and the rows behind them are taken out. Assumes nothing.
use Rattle.std.specs.Prelude.{Result}
use Rattle.model.specs.Plan as plan
use Prim.Native.Nat.{ℕ, ◌*◌, ◌≤◌, ◌<◌}
use mathlib.Core.Path.{◌≡◌, refl, sym, ap, ap₂, ◌∙◌}
use mathlib.Core.Bool.{true}
use mathlib.Core.List.{List, [], ◌∷◌}
use native.Mathlib.Omega.{arith}
use lib.Ieee.{Float}
use lib.ListN.{length}
use Rattle.model.specs.Call.{Load, Plain, Call, Split, map_call, split}
use Rattle.model.specs.Session.{Connection, Session, view}
use Rattle.model.specs.Edit.{Edit, raised, with_connection, enact, enact_all}
use Rattle.model.specs.Plan.{Sent, records, send}
use Rattle.model.specs.Decide.{destroyed, send_destroyed, decide_plain, decide}
use Rattle.model.specs.Step.{refuses, step}
use Rattle.model_steps.proofs.Counted.{removes_all}
use Rattle.model_steps.proofs.Steps.{step-remove, step-remove-short}
use Rattle.control.specs.Control.{device_count, connection_of}
use Rattle.session.specs.View.{Store, store, session, Whole}
use Rattle.session.specs.Enact.{EnactedControl, EnactedRows}
use Rattle.session.proofs.Views.{enacted_join, view-connection, devices-length, pending-few}
use Rattle.events.specs.declared.Mark.{Mark}
use Rattle.events.specs.Events.{Destroys}
use Rattle.events.proofs.Writes.{destroyed-length, last_is, destroys-sends}
use Rattle.answers.specs.Answer.{error_of, Tells}
use Rattle.answers.specs.declared.Error.{Error}
use Rattle.answers.specs.declared.Answer.{Answer}
use Rattle.answers.specs.Texts.{TextsAfter}
use Rattle.answers.specs.Meets.{turn, Handled}
use Rattle.answers.proofs.Meetings.{meets-done, whole-after, over-handled}
use Rattle.removal.specs.Retire.{Retired}

-- serials are no device's
pub raise-count : {c d : List ℕ} {n : ℕ} → EnactedControl c d (Edit.raise n ∷ []) → device_count d ≡ device_count c
unfolding enact_all enact with_connection
raise-count {c} {d} h =
    sym (devices-length (store d [] [] []))
    ∙ ap (λ (x : Session Load). length x.devices) (h [] [] [] Load.None).view
    ∙ devices-length (store c [] [] [])

-- the events, the serial and the edits in turn
pub retired : {c e d w v out later objects : List ℕ} {r q : List Float} {edits : List Edit} {mark m : Mark} → mark.at ≡ 0
    → mark.serial ≡ (connection_of c).last_serial → Destroys out later mark objects m
    → ((i : ℕ) → m.serial ≡ raised i (connection_of c).last_serial → EnactedControl c e (Edit.raise i ∷ [])) → EnactedRows e w r d v q edits
    → Retired c w r d v q out later objects edits m.at
retired {w = w} {objects = objects} {r = r} start serial b raises removes =
    record {
      sent = rw (← start, ← serial) (destroys-sends b);
      enacted = λ texts load. enacted_join (raises (length objects) (last_is b serial) w r texts load) (removes texts load);
    }

-- A call that takes out objects and nothing else: `os` as the model lists them, `objects` as the control words tell them
module _ (s : Store) (w : Whole s) (out : List ℕ) (call : Plain) (clock : ℕ) {os objects : List ℕ} (edits : List Edit)
    (p : decide_plain (view (session s)) clock call ≡ send_destroyed (view (session s)) os edits) (seen : os ≡ objects)
    (q : removes_all (Edit.raise (length objects) ∷ edits) ≡ true) where
  abbrev told : List Sent
  told = destroyed (connection_of s.control).last_serial objects

  abbrev all : List Edit
  all = Edit.raise (length objects) ∷ edits

  abbrev t : Split Load
  t = split (turn (Call.plain call) clock out)

  told-length : length (records told) ≡ 14 * length objects
  told-length = destroyed-length (connection_of s.control).last_serial objects

  planned : decide (view (session s)) t.now t.call ≡ send told all
  unfolding split map_call decide send_destroyed
  planned =
      p
      ∙ ap₂ (λ (c : Connection) (o : List ℕ). send (destroyed c.last_serial o) (Edit.raise (length o) ∷ edits)) (view-connection s) seen

  pub retired_short : {n : ℕ} {r : Result Answer Error} → n ≡ length objects → length out < 14 * n → Tells r (error_of Error.ShortOut) 0
      → Handled s s out out (Call.plain call) clock r
  unfolding split
  retired_short {r = r} e h a =
      over-handled s out (Call.plain call) clock (error_of Error.ShortOut) r w
      (step-remove-short t (session s) told all planned q (pending-few s w) (omega (arith, told-length))) a

  pub retired_handled : {d v later : List ℕ} {f : List Float} {n m : ℕ} {r : Result Answer Error} → n ≡ length objects → 14 * n ≤ length out
      → Retired s.control s.words s.reals d v f out later objects edits m → length v ≡ length s.words → length f ≡ length s.reals
      → Tells r plan.Result.accepted m → Handled s (store d v f s.texts) out later (Call.plain call) clock r
  unfolding split send refuses
  retired_handled {d} {v} {later} {f} {r = r} e room gone words reals a =
      let done = gone.enacted s.texts t.load in
      meets-done s (store d v f s.texts) out later (step t (session s)) (send told all) t.load r
      (whole-after s w done.sound words reals)
      (step-remove t (session s) told all planned q (pending-few s w) (omega (arith, told-length)))
      done refl a.0 (omega (arith, a.1, gone.sent.next)) gone.sent.bytes (TextsAfter.kept refl)
