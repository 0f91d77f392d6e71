-- What stands below the bit, and what is left. Assumes nothing.
use Rattle.std.proofs.Common.{◌≡◌, ◌+◌, ◌*◌, ◌^◌}
use Rattle.control.proofs.Versions.{negotiated_from}
use Rattle.control.proofs.negotiated_capabilities.Given as goal

abbrev pub invariant-loop-bit : goal.invariant-loop-bit
invariant-loop-bit l = l.mask + 2 ^ l.bit * negotiated_from l.control l.bit ≡ negotiated_from l.control 0
