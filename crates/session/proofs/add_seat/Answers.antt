-- The seat comes last, then the next id is raised. Assumes nothing.
use Rattle.session.proofs.Edits.{seat_added_lem}
use Rattle.session.proofs.add_seat.Goals as goal

pub returns : goal.returns
returns c =
    let a = c.args in
    seat_added_lem _ a.capabilities c.next_id-id.ensures c.requires.1.1.0 c.append_seat.ensures c.set_next_id.ensures
