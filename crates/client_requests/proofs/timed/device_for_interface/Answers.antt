-- A capability's bit is the lowest, and the only one, of its mask. Assumes nothing.
use mathlib.Core.Path.{ap, ◌∙◌}
use Rattle.eiproto.specs.Bits.{lowest_bit}
use Rattle.control.specs.Control.{cores_of}
use Rattle.control.specs.Table.{first}
use Rattle.model.specs.Decide.{lists_as}
use Rattle.client_requests.proofs.Decisions.{bit_is}
use Prim.Native.Nat.{ℕ}
use Rattle.client_requests.proofs.timed.device_for_interface.Goals as goal

pub returns : goal.returns
returns c =
    let a = c.args in
    let bit = c.lowest.ensures ∙ ap lowest_bit c.mask.ensures ∙ bit_is a.capability in
    c.find_interface.ensures ∙ ap (λ (b : ℕ). first (λ d. lists_as b a.interface d.interfaces) (cores_of a.control.now)) bit
