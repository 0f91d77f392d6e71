-- Each arm is a decision on the request's call. Assumes nothing.
use mathlib.Core.Path.{refl, ap}
use Rattle.requests.specs.Row.{entry}
use Rattle.requests.specs.declared.request.EisRequest.{EisRequest}
use Rattle.requests.specs.declared.eis.TouchscreenRequest.{TouchscreenRequest}
use Rattle.model.specs.Call.{Kind, Input, sight, load}
use Rattle.model.specs.Edit.{item}
use Rattle.model.specs.Decide.{handler, handle}
use Rattle.session.specs.View.{request_in, item_in, request_at, item_at}
use Rattle.handlers.specs.Call.{touchscreen_call}
use Rattle.handlers.proofs.Timed.{row-waits}
use Rattle.handlers.proofs.decide_touchscreen.Goals as goal

pub returns-in-Down : goal.returns-in-Down
unfolding handler handle sight load item item_at request_at request_in item_in entry
returns-in-Down c =
    let a = c.args in
    record {
      input = Input.Down _ _ _;
      cell = _;
      call = ap (λ (x : TouchscreenRequest). touchscreen_call x a.touchscreen a.version) c.in-Down.is;
      decided = c.decide_down.ensures a.version;
      waits = row-waits (Input.Down _ _ _) (EisRequest.TouchDown 0 0 _ _ _) c.touch_down-down.ensures (λ t. refl);
    }

pub returns-in-Motion : goal.returns-in-Motion
unfolding handler handle sight load item item_at request_at request_in item_in entry
returns-in-Motion c =
    let a = c.args in
    record {
      input = Input.Motion _ _ _;
      cell = _;
      call = ap (λ (x : TouchscreenRequest). touchscreen_call x a.touchscreen a.version) c.in-Motion.is;
      decided = c.decide_held.ensures Kind.TouchMotion a.version (record { by = refl; asks = λ f. refl });
      waits = row-waits (Input.Motion _ _ _) (EisRequest.TouchMotion 0 0 _ _ _) c.touch_motion-motion.ensures (λ t. refl);
    }

pub returns-in-Up : goal.returns-in-Up
unfolding handler handle sight load item item_at request_at request_in item_in entry
returns-in-Up c =
    let a = c.args in
    record {
      input = Input.Up _;
      cell = _;
      call = ap (λ (x : TouchscreenRequest). touchscreen_call x a.touchscreen a.version) c.in-Up.is;
      decided = c.decide_held-in-Up.ensures Kind.TouchUp a.version (record { by = refl; asks = λ f. refl });
      waits = row-waits (Input.Up _) (EisRequest.TouchUp 0 0 _) c.touch_up-up.ensures (λ t. refl);
    }

pub returns-in-Cancel : goal.returns-in-Cancel
unfolding handler handle sight load item item_at request_at request_in item_in entry
returns-in-Cancel c =
    let a = c.args in
    record {
      input = Input.Cancel _;
      cell = _;
      call = ap (λ (x : TouchscreenRequest). touchscreen_call x a.touchscreen a.version) c.in-Cancel.is;
      decided = c.decide_cancel.ensures;
      waits = row-waits (Input.Cancel _) (EisRequest.TouchCancel 0 0 _) c.touch_cancel-cancel.ensures (λ t. refl);
    }
