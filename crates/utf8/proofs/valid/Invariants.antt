-- `utf8::valid` meets its contract: what is left to test is told by the place in the text and, within a character, by the octets that
-- are left of it. Assumes nothing.
use Prim.Native.Nat.{◌-◌, ◌≤◌}
use mathlib.Core.Path.{◌≡◌}
use lib.ListN.{length, drop, replicate}
use Rattle.utf8.specs.Rfc3629.{utf8_tail, goes_on, is_utf8}
use Rattle.utf8.proofs.valid.Given as goal

abbrev pub invariant-loop-tail : goal.invariant-loop-tail
invariant-loop-tail l = (l.initial.i ≤ l.i) × (l.i ≤ length l.text) × (is_utf8 l.text ≡ goes_on (replicate (l.tails - l.tail) utf8_tail) (drop l.i l.text))

abbrev pub invariant-loop-i : goal.invariant-loop-i
invariant-loop-i l = (l.i ≤ length l.text) × (is_utf8 l.text ≡ is_utf8 (drop l.i l.text))

abbrev pub decreases-loop-i : goal.decreases-loop-i
decreases-loop-i l = length l.text - l.i
