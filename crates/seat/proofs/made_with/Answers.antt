-- Cut down twice. Assumes nothing.
use mathlib.Core.Path.{ap, ap₂, ◌∙◌}
use Rattle.eiproto.specs.Bits.{common}
use Rattle.seat.proofs.made_with.Goals as goal

pub returns : goal.returns
returns c =
    let a = c.args in
    c.common.ensures
    ∙ ap₂ common (c.common-both.ensures ∙ ap (common a.capabilities) c.seat_capabilities.ensures)
    c.negotiated_capabilities.ensures
