-- `utf8_cases::bytes_of` meets its contract: the bytes of the line are those in the text, and then those of what is left. Assumes nothing.
use Prim.Native.Nat.{◌-◌, ◌≤◌}
use mathlib.Core.Path.{◌≡◌}
use lib.ListN.{length, take, drop}
use Rattle.utf8_cases.specs.Hex.{behind, bytes_of}
use Rattle.utf8_cases.proofs.bytes_of.Given as goal

abbrev pub invariant-loop-i : goal.invariant-loop-i
invariant-loop-i l = (l.n ≤ l.i) × (l.i ≤ length l.line) × (length l.text ≡ length l.initial.text) × (bytes_of l.line ≡ behind (take l.n l.text) (bytes_of (drop l.i l.line)))

abbrev pub decreases-loop-i : goal.decreases-loop-i
decreases-loop-i l = length l.line - l.i
