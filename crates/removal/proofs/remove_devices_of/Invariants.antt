-- What is left to do from slot k on, done, is the whole. Assumes nothing.
use Prim.Native.Nat.{ℕ, ◌-◌, ◌≤◌}
use mathlib.Core.List.{List}
use Rattle.control.specs.Control.{device_count}
use Rattle.session.specs.Loan.{SameLoan, store_of}
use Rattle.removal.proofs.Loops.{Dropping}
use Rattle.removal.proofs.remove_devices_of.Given as goal

abbrev pub invariant-loop-k : goal.invariant-loop-k
invariant-loop-k l =
    (l.k ≤ device_count l.session.control.now)
    × (SameLoan l.initial.session l.session × ((texts : List ℕ) → Dropping (store_of l.initial.session texts) (store_of l.session texts) l.seat l.k))

abbrev pub decreases-loop-k : goal.decreases-loop-k
decreases-loop-k l =
    device_count l.session.control.now - l.k
