-- `wire_cases::record` is safe: no more bytes are put than the buffer has. Assumes nothing.
use mathlib.Core.Path.{sym}
use native.Mathlib.Omega.{arith}
use lib.Seq.{length-take-le}
use Rattle.wire.proofs.Splices.{put_le}
use Rattle.wire_cases.proofs.record.Goals as goal

pub slice_bounds-out-end : goal.slice_bounds-out-end
slice_bounds-out-end g c = omega (arith, put_le c.put_record-n.ensures)

pub slice_bounds-show-end : goal.slice_bounds-show-end
slice_bounds-show-end g c =
    sym (length-take-le c.put_record-n.result c.put_record-n.new.out (omega (arith, put_le c.put_record-n.ensures, c.put_record-n.auto.out)))
