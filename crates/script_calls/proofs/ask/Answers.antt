-- Each call as its own contract has it. Assumes nothing.
use mathlib.Core.Path.{ap}
use Rattle.script_calls.proofs.Stations.{for_plain}
use Rattle.script_asked.specs.declared.Ask.{Ask}
use Rattle.script_calls.specs.Station.{ask_call}
use Rattle.script_calls.proofs.ask.Goals as goal

pub returns-in-LastSerial : goal.returns-in-LastSerial
returns-in-LastSerial c =
    let a = c.args in
    λ clock out w r t. for_plain clock (ap (λ (x : Ask). ask_call x a.name.now) c.in-LastSerial.is) (c.last_serial.ensures clock out w r t)

pub returns-in-HasInterface : goal.returns-in-HasInterface
returns-in-HasInterface c =
    let a = c.args in
    λ clock out w r t. for_plain clock (ap (λ (x : Ask). ask_call x a.name.now) c.in-HasInterface.is) (c.has_interface.ensures clock out w r t)

pub returns-in-InterfaceVersion : goal.returns-in-InterfaceVersion
returns-in-InterfaceVersion c =
    let a = c.args in
    λ clock out w r t. for_plain clock (ap (λ (x : Ask). ask_call x a.name.now) c.in-InterfaceVersion.is) (c.interface_version.ensures clock out w r t)

pub returns-in-HasCapability : goal.returns-in-HasCapability
returns-in-HasCapability c =
    let a = c.args in
    λ clock out w r t. for_plain clock (ap (λ (x : Ask). ask_call x a.name.now) c.in-HasCapability.is) (c.has_capability.ensures clock out w r t)
