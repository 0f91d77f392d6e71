-- The device comes last, then the next id is raised by it and its interfaces. Assumes nothing.
use Rattle.session.proofs.Edits.{device_added_lem}
use mathlib.Core.Path.{◌∙◌}
use Rattle.session.proofs.add_device.Goals as goal

pub returns : goal.returns
returns c =
    let a = c.args in
    device_added_lem _ a.seat a.capabilities c.next_id-id.ensures (c.from-interfaces.ensures ∙ c.count.ensures) c.requires.1.1.0 c.requires.1.1.1 c.append_device.ensures c.set_next_id.ensures
