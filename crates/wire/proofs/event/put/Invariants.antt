-- `wire::event::put` meets its contract. The loop's invariant: the bytes from `i` on stand, and what is left of the number has the `i` bytes before them. Assumes nothing.
use Prim.Native.Nat.{ℕ, ◌+◌}
use mathlib.Core.Path.{◌≡◌}
use mathlib.Core.List.{List, ◌++◌}
use lib.ListN.{length}
use Rattle.wire.specs.Bits.{be, splice}
use Rattle.wire.proofs.event.put.Given as goal

abbrev pub invariant-loop-i : goal.invariant-loop-i
invariant-loop-i l =
    (t : List ℕ) × ((l.i + length t ≡ l.fn.number.bytes) × ((be l.fn.number.bytes l.fn.number.value ≡ be l.i l.rest ++ t) × (l.out ≡ splice l.initial.out (l.at + l.i) t)))
