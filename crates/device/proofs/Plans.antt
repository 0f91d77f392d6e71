-- What the model plans for the calls on a device, by what is found in the slices. Assumes nothing.
use Prim.Native.Nat.{ℕ}
use mathlib.Core.Path.{◌≡◌, refl, ◌∙◌}
use mathlib.Core.Bool.{true}
use mathlib.Core.List.{List, [], ◌∷◌}
use mathlib.Core.Option.{none, some}
use native.Mathlib.Omega.{arith}
use lib.Dec.{eqb}
use Rattle.eiproto.specs.Capability.{capability_index}
use Rattle.eiproto.specs.declared.event.DeviceCapability.{DeviceCapability}
use Rattle.wire.specs.Record.{layout, text_of, fixed_length, record_length}
use Rattle.model.specs.Call.{Plain}
use Rattle.model.specs.Session.{View, view}
use Rattle.model.specs.Edit.{Edit, next_serial}
use Rattle.model.specs.Plan.{on, answer, refuse, send, Result}
use Rattle.model.specs.Decide.{on_found, send_next, notify, objects_of, send_destroyed, remove_device, lists, decide_plain}
use Rattle.model_steps.proofs.Counted.{quiet_all, quiet-raise, quiet-amend}
use Rattle.control.specs.Table.{first}
use Rattle.control.specs.Control.{connection_of, core_at, cores_of}
use Rattle.session.specs.View.{Store, session}
use Rattle.session.proofs.Views.{device_seen, view-connection, device-interfaces, found-device, no_device}
use Rattle.device.specs.declared.Notice.{Notice}
use Rattle.device.specs.Notice.{notice_call, notice_event, notice_edits}

notice_is : (v : View) (clock device : ℕ) (n : Notice) → decide_plain v clock (notice_call n device) ≡ notify v device (notice_event n) (notice_edits n)
unfolding decide_plain
notice_is v clock device Notice.Resumed = refl
notice_is v clock device Notice.Paused = refl
notice_is v clock device (Notice.StartEmulating sequence) = refl
notice_is v clock device Notice.StopEmulating = refl
notice_is v clock device (Notice.Frame time) = refl

module _ (s : Store) (device clock : ℕ) where
  -- ---- unknown

  module _ (e : first (λ d. eqb d.id device) (cores_of s.control) ≡ none) where
    pub remove_unknown : decide_plain (view (session s)) clock (Plain.remove_device device) ≡ answer (Result.refused 12)
    unfolding decide_plain remove_device on_found refuse
    remove_unknown = rw (no_device s device e)

    pub notice_unknown : (n : Notice) → decide_plain (view (session s)) clock (notice_call n device) ≡ answer (Result.refused 12)
    unfolding notify on_found refuse
    notice_unknown n = notice_is (view (session s)) clock device n ∙ rw (no_device s device e)

    pub capability_unknown : (capability : DeviceCapability) → decide_plain (view (session s)) clock (Plain.has_capability device capability) ≡ answer (Result.refused 12)
    unfolding decide_plain on_found refuse
    capability_unknown capability = rw (no_device s device e)

  -- ---- found

  module _ {k : ℕ} (e : first (λ d. eqb d.id device) (cores_of s.control) ≡ some k) where
    pub remove-plan : decide_plain (view (session s)) clock (Plain.remove_device device)
        ≡ send_destroyed (view (session s)) (objects_of (device_seen s k)) (Edit.remove_device k ∷ [])
    unfolding decide_plain remove_device on_found
    remove-plan = rw (found-device s device e)

    pub notice_plan : (n : Notice) → decide_plain (view (session s)) clock (notice_call n device)
        ≡ send (on device (notice_event n (next_serial (connection_of s.control).last_serial)) ∷ []) (Edit.raise 1 ∷ notice_edits n k)
    unfolding notify on_found send_next
    notice_plan n = notice_is (view (session s)) clock device n ∙ rw (found-device s device e, view-connection s)

    pub capability-plan : (capability : DeviceCapability) → decide_plain (view (session s)) clock (Plain.has_capability device capability)
        ≡ answer (Result.truth (lists (capability_index capability) (core_at s.control k).interfaces))
    unfolding decide_plain on_found
    capability-plan capability = rw (found-device s device e, device-interfaces s k)

-- a notice changes nothing that is counted
pub notice_quiet : (n : Notice) (k : ℕ) → quiet_all (Edit.raise 1 ∷ notice_edits n k) ≡ true
notice_quiet Notice.Resumed k = quiet-raise 1
notice_quiet Notice.Paused k = quiet-amend 1 k _
notice_quiet (Notice.StartEmulating sequence) k = quiet-raise 1
notice_quiet Notice.StopEmulating k = quiet-raise 1
notice_quiet (Notice.Frame time) k = quiet-raise 1

-- its event has no text
pub notice_length : (n : Notice) (serial : ℕ) (text : List ℕ) → record_length (notice_event n serial) text ≡ fixed_length (notice_event n serial)
unfolding record_length text_of layout
notice_length Notice.Resumed serial text = omega arith
notice_length Notice.Paused serial text = omega arith
notice_length (Notice.StartEmulating sequence) serial text = omega arith
notice_length Notice.StopEmulating serial text = omega arith
notice_length (Notice.Frame time) serial text = omega arith
