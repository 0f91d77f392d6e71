-- The parts that are lent come back as their call left them. Assumes nothing.
use mathlib.Core.Path.{refl}
use Rattle.script_session.proofs.Rooms.{in_part}
use Rattle.script_read.proofs.Gathering.{entries_same, handed_as}
use Rattle.script_read.proofs.hand_over.Goals as goal

pub returns : goal.returns
returns c =
    let a = c.args in
    in_part _ c.room-n.ensures (handed_as (entries_same a.reading a.records.now a.points.now a.lent.now) c.handle_requests.ensures) refl
