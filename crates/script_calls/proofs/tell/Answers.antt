-- Each call as its own contract has it. Assumes nothing.
use mathlib.Core.Path.{ap}
use Rattle.script_calls.proofs.Stations.{for_plain}
use Rattle.script_calls.specs.Station.{tell_call}
use Rattle.script_calls.proofs.tell.Goals as goal

pub returns-in-Resumed : goal.returns-in-Resumed
returns-in-Resumed c =
    λ clock w r t. for_plain clock (ap tell_call c.in-Resumed.is) (c.resumed.ensures clock w r t)

pub returns-in-Paused : goal.returns-in-Paused
returns-in-Paused c =
    λ clock w r t. for_plain clock (ap tell_call c.in-Paused.is) (c.paused.ensures clock w r t)

pub returns-in-StartEmulating : goal.returns-in-StartEmulating
returns-in-StartEmulating c =
    λ clock w r t. for_plain clock (ap tell_call c.in-StartEmulating.is) (c.start_emulating.ensures clock w r t)

pub returns-in-StopEmulating : goal.returns-in-StopEmulating
returns-in-StopEmulating c =
    λ clock w r t. for_plain clock (ap tell_call c.in-StopEmulating.is) (c.stop_emulating.ensures clock w r t)

pub returns-in-Frame : goal.returns-in-Frame
returns-in-Frame c =
    λ clock w r t. for_plain clock (ap tell_call c.in-Frame.is) (c.frame.ensures clock w r t)
