-- The words behind the last seat, then the count. Assumes nothing.
use Rattle.std.proofs.Common.{refl, arith, length-set}
use Rattle.control.proofs.Changes.{wrote_none, wrote_one, seat_appended}
use Rattle.control.proofs.edits.append_seat.Goals as goal

pub bounds-control-at-2 : goal.bounds-control-at-2
bounds-control-at-2 c =
    simp length-set (omega arith)

pub returns : goal.returns
returns c =
    let a = c.args in
    seat_appended a.control.now _ c.requires.0 a.id a.capabilities c.requires.1
    (wrote_one _ a.capabilities refl refl (omega arith) (wrote_one _ a.id (omega arith) refl (omega arith) (wrote_none a.control.now _ _)))
