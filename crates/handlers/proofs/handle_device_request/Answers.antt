-- A Frame by itself; each other arm is the call of its request, queued behind what the device has pending. Assumes nothing.
use mathlib.Core.Path.{refl, ap}
use mathlib.Core.List.{[]}
use Rattle.model.specs.Call.{Plain, Call, map_call}
use Rattle.model.specs.Decide.{decide_plain, decide}
use Rattle.session.specs.View.{request_in}
use Rattle.model.specs.Session.{Untimed}
use Rattle.requests.specs.declared.request.EisRequest.{EisRequest}
use Rattle.handlers.specs.Call.{device_call}
use Rattle.requests.specs.declared.eis.DeviceRequest.{DeviceRequest}
use Rattle.handlers.proofs.Plain.{for_call}
use Rattle.handlers.proofs.handle_device_request.Goals.{in-Release, in-StartEmulating, in-StopEmulating, in-Ready}
use Rattle.handlers.proofs.handle_device_request.Goals as goal

pub returns-in-Frame-clause-step : goal.returns-in-Frame-clause-step
returns-in-Frame-clause-step c =
    let a = c.args in
    λ out texts whole.
    for_call a.clock (ap (λ (x : DeviceRequest). device_call x a.device) c.in-Frame.is) (c.queue_frame.ensures.step a.clock out texts whole)

pub returns-clause-step : goal.returns-clause-step
unfolding map_call decide decide_plain request_in
returns-clause-step c =
    let a = c.args in
    λ out texts whole.
    elim c.match-request.branch [
      | in-Release w ↦
          for_call a.clock (ap (λ (x : DeviceRequest). device_call x a.device) w.in-Release.is)
          (c.queue_for_device.ensures.step (Call.plain (Plain.device_release a.device))
          (record { untimed = Untimed.DeviceClosed a.device; is = ap (λ (x : EisRequest). request_in x []) w.queued-is; plan = λ v. refl }) out texts whole)
      | in-StartEmulating w ↦
          for_call a.clock (ap (λ (x : DeviceRequest). device_call x a.device) w.in-StartEmulating.is)
          (c.queue_for_device.ensures.step (Call.plain (Plain.device_start_emulating a.device _ _))
          (record { untimed = Untimed.DeviceStartEmulating a.device _ _; is = ap (λ (x : EisRequest). request_in x []) w.queued-is; plan = λ v. refl }) out texts whole)
      | in-StopEmulating w ↦
          for_call a.clock (ap (λ (x : DeviceRequest). device_call x a.device) w.in-StopEmulating.is)
          (c.queue_for_device.ensures.step (Call.plain (Plain.device_stop_emulating a.device _))
          (record { untimed = Untimed.DeviceStopEmulating a.device _; is = ap (λ (x : EisRequest). request_in x []) w.queued-is; plan = λ v. refl }) out texts whole)
      | in-Ready w ↦
          for_call a.clock (ap (λ (x : DeviceRequest). device_call x a.device) w.in-Ready.is)
          (c.queue_for_device.ensures.step (Call.plain (Plain.device_ready a.device))
          (record { untimed = Untimed.Ready a.device; is = ap (λ (x : EisRequest). request_in x []) w.queued-is; plan = λ v. refl }) out texts whole)
    ]
