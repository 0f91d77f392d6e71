-- Each call as its own contract has it. Assumes nothing.
use mathlib.Core.Path.{ap, ◌∙◌}
use mathlib.Core.List.{List}
use mathlib.Core.Option.{Option}
use Prim.Native.Nat.{ℕ}
use Rattle.model.specs.Call.{Plain}
use Rattle.script_calls.proofs.Stations.{given-lent, for_plain}
use Rattle.script_asked.specs.declared.Add.{Add}
use Rattle.script_calls.specs.Station.{is_lent, lent_bytes, add_call}
use Rattle.script_calls.proofs.add.Goals as goal

pub returns-in-Seat : goal.returns-in-Seat
returns-in-Seat c =
    let t = c.args.name in
    λ clock w r u. for_plain clock (ap (λ (x : Add). add_call x (is_lent t) (lent_bytes t)) c.in-Seat.is ∙ ap (λ (n : Option (List ℕ)). Plain.add_seat n c.in-Seat.capabilities) (given-lent t)) (c.add_seat.ensures clock w r u)

pub returns-in-Device : goal.returns-in-Device
returns-in-Device c =
    let t = c.args.name in
    λ clock w r u. for_plain clock (ap (λ (x : Add). add_call x (is_lent t) (lent_bytes t)) c.in-Device.is ∙ ap (λ (n : Option (List ℕ)). Plain.add_device c.in-Device.seat n c.in-Device.kind c.in-Device.capabilities) (given-lent t)) (c.add_device.ensures clock w r u)
