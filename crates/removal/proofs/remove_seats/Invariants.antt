-- What is left to do with the seats that stand, done, is the whole. Assumes nothing.
use Prim.Native.Nat.{ℕ}
use mathlib.Core.List.{List}
use Rattle.model.specs.Call.{Load}
use Rattle.control.specs.Control.{seat_count}
use Rattle.session.specs.Loan.{SameLoan, store_of}
use Rattle.removal.proofs.Loops.{Emptying}
use Rattle.removal.proofs.remove_seats.Given as goal

abbrev pub invariant-loop-session : goal.invariant-loop-session
invariant-loop-session l =
    SameLoan l.initial.session l.session × ((texts : List ℕ) (load : Load) → Emptying (store_of l.initial.session texts) (store_of l.session texts) load)

abbrev pub decreases-loop-session : goal.decreases-loop-session
decreases-loop-session l =
    seat_count l.session.control.now
