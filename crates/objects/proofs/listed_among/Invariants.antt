-- The loop passes bits whose interface has another id. Assumes nothing.
use Rattle.std.proofs.Common.{◌≡◌}
use Rattle.model.specs.Live.{listed_as}
use Rattle.control.specs.Control.{interfaces_on}
use Rattle.objects.proofs.listed_among.Given as goal

abbrev pub invariant-loop-bit : goal.invariant-loop-bit
invariant-loop-bit l =
    listed_as l.id (interfaces_on l.device l.capabilities l.listed) ≡ listed_as l.id (interfaces_on l.device l.capabilities l.bit-iterator.0)
