-- `wire_cases::row` is safe: places in a buffer do not overflow. Assumes nothing.
use native.Mathlib.Omega.{arith}
use Rattle.wire.proofs.Splices.{put_le}
use Rattle.wire_cases.proofs.row.Goals as goal

pub overflow_add-a : goal.overflow_add-a
overflow_add-a g c =
    omega (arith, put_le c.put_record-b.ensures, put_le c.put_record-a.ensures)
