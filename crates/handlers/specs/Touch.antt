-- What a request on a touchscreen asks for. Assumes nothing.
use Rattle.std.specs.Prelude.{ℕ, ◌≡◌, List}
use Rattle.eiproto.specs.declared.event.DeviceCapability.{DeviceCapability}
use Rattle.requests.specs.declared.cell.Cell.{Cell}
use Rattle.requests.specs.declared.eis.TouchscreenRequest.{TouchscreenRequest}
use Rattle.model.specs.Call.{Input, sight, Call}
use Rattle.client_requests.specs.Decision.{Decision, Decided, Waits}
use Rattle.handlers.specs.Call.{release, touchscreen_call}
use Rattle.handlers.specs.declared.TouchAction.{TouchAction}

-- it is timed, and this was decided on it; c are the control words
pub record TimedTouch (c : List ℕ) (request : TouchscreenRequest) (touchscreen version : ℕ) (d : Decision) : Type 0 where
  pub input : Input
  pub cell : Cell
  pub call : touchscreen_call request touchscreen version ≡ Call.timed touchscreen version input
  pub decided : Decided c touchscreen version (sight input) cell d
  pub waits : Waits input cell

abbrev pub TouchActs : (c : List ℕ) (request : TouchscreenRequest) (touchscreen version : ℕ) → TouchAction → Type 0
TouchActs c request t v TouchAction.Release = touchscreen_call request t v ≡ release DeviceCapability.Touch t
TouchActs c request t v (TouchAction.Timed d) = TimedTouch c request t v d
