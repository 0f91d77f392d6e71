-- `utf8::ascii_eights` meets its contract: behind whole characters another begins, and each octet of ASCII is one. Assumes nothing.
use Prim.Native.Nat.{◌*◌}
use mathlib.Core.Path.{◌≡◌}
use lib.ListN.{drop}
use Rattle.utf8.specs.Rfc3629.{is_utf8}
use Rattle.utf8.proofs.ascii_eights.Given as goal

abbrev pub invariant-loop-eight : goal.invariant-loop-eight
invariant-loop-eight l = is_utf8 l.text ≡ is_utf8 (drop (8 * l.eight) l.text)
