-- The records that were looked at are requests'. Assumes nothing.
use mathlib.Core.Path.{◌≡◌}
use mathlib.Core.Bool.{true}
use Rattle.eiproto.specs.Bits.{every}
use Rattle.control.specs.Table.{tab}
use Rattle.lent_read.specs.Numbers.{is_request, cell_at}
use Rattle.lent_read.proofs.are_requests.Given as goal

abbrev pub invariant-loop-i : goal.invariant-loop-i
invariant-loop-i l = every is_request (tab l.i (cell_at l.records l.points)) ≡ true
