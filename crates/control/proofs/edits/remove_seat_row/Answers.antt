-- The rows behind are moved down, then the count. Assumes nothing.
use Rattle.control.proofs.Rows.{seat-removed}
use Rattle.std.proofs.Common.{arith}
use Rattle.control.proofs.edits.remove_seat_row.Goals as goal

pub returns : goal.returns
returns c =
    let a = c.args in
    seat-removed a.control.now c.cut_row.new.control c.requires.0 c.cut_row.auto.control a.k _ (omega arith) c.cut_row.ensures
