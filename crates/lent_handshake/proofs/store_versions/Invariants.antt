-- The loop's invariant: the words stored so far say what the rows do. Assumes nothing.
use mathlib.Core.Path.{◌≡◌}
use lib.ListN.{take}
use Rattle.handshake.specs.View.{versions_of}
use Rattle.control.specs.Table.{tab}
use Rattle.lent_handshake.proofs.Words.{versions_in}
use Rattle.lent_handshake.proofs.store_versions.Given as goal

abbrev pub invariant-loop-i : goal.invariant-loop-i
invariant-loop-i l =
    tab l.i (versions_in l.words) ≡ take l.i (versions_of l.fn.versions)
