-- The loop's invariant: the rows made so far are what the words say. Assumes nothing.
use mathlib.Core.Path.{◌≡◌}
use lib.ListN.{length, take}
use Rattle.handshake.specs.View.{versions_of}
use Rattle.control.specs.Table.{tab}
use Rattle.lent_handshake.proofs.Words.{versions_in}
use Rattle.lent_handshake.proofs.load_versions.Given as goal

abbrev pub invariant-loop-i : goal.invariant-loop-i
invariant-loop-i l =
    (length l.versions ≡ 12) × (take l.i (versions_of l.versions) ≡ tab l.i (versions_in l.words))
