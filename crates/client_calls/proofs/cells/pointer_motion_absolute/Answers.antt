-- The cell is the request's, as it came. Assumes nothing.
use mathlib.Core.Path.{refl}
use Rattle.requests.specs.Row.{entry}
use Rattle.requests.specs.declared.request.EisRequest.{EisRequest}
use Rattle.model.specs.Call.{Input, sight, load}
use Rattle.model.specs.Edit.{item}
use Rattle.session.specs.View.{request_in, item_in, request_at, item_at}
use Rattle.handlers.proofs.Timed.{row-waits}
use Rattle.client_calls.proofs.cells.pointer_motion_absolute.Goals as goal

pub returns : goal.returns
unfolding sight load item item_at request_at request_in item_in entry
returns c = row-waits (Input.MotionAbsolute _ _) (EisRequest.PointerMotionAbsolute 0 0 _ _) c.pointer_motion_absolute.ensures (λ t. refl)
