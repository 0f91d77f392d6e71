-- Each call as its own contract has it. Assumes nothing.
use mathlib.Core.Path.{ap, ◌∙◌}
use mathlib.Core.List.{List}
use mathlib.Core.Option.{Option}
use Prim.Native.Nat.{ℕ}
use Rattle.model.specs.Call.{Plain}
use Rattle.script_calls.proofs.Stations.{given-lent, for_plain}
use Rattle.script_asked.specs.declared.Remove.{Remove}
use Rattle.script_calls.specs.Station.{is_lent, lent_bytes, remove_call}
use Rattle.script_calls.proofs.remove.Goals as goal

pub returns-in-Seat : goal.returns-in-Seat
returns-in-Seat c =
    let t = c.args.explanation in
    λ clock u. for_plain clock (ap (λ (x : Remove). remove_call x (is_lent t) (lent_bytes t)) c.in-Seat.is) (c.remove_seat.ensures clock u)

pub returns-in-Device : goal.returns-in-Device
returns-in-Device c =
    let t = c.args.explanation in
    λ clock u. for_plain clock (ap (λ (x : Remove). remove_call x (is_lent t) (lent_bytes t)) c.in-Device.is) (c.remove_device.ensures clock u)

pub returns-in-All : goal.returns-in-All
returns-in-All c =
    let t = c.args.explanation in
    λ clock u. for_plain clock (ap (λ (x : Remove). remove_call x (is_lent t) (lent_bytes t)) c.in-All.is ∙ ap (λ (n : Option (List ℕ)). Plain.disconnected c.in-All.reason n) (given-lent t)) (c.disconnected.ensures clock u)
