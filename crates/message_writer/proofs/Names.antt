-- Interfaces that can be sent by name. Assumes nothing.
use Prim.Native.Nat.{ℕ, ◌≤◌}
use mathlib.Core.Bool.{true}
use mathlib.Core.Logic.{dite}
use mathlib.Core.Path.{◌≡◌, refl, ap}
use native.Mathlib.Decide.{dec_lt}
use native.Mathlib.Omega.{arith}
use borrow.Author.Tests.{leb-true}
use lib.Dec.{leb}
use lib.ListN.{length, get_or-eq_default}
use Rattle.eiproto.specs.Interface.{Row, row, table, row_of, interface_name}
use Rattle.event_messages.specs.Stands.{between}
use Rattle.event_messages.specs.Shape.{allowed}
use Rattle.event_messages.specs.declared.EventArgument.{EventArgument}
use Rattle.event_messages.proofs.Tests.{both_hold}
use Rattle.event_messages.proofs.Tables.{at}

-- the longest name has 19 bytes
pub name-short : (i : ℕ) → length (interface_name i) ≤ 19
unfolding interface_name row_of
name-short i =
    dite (dec_lt i 13)
    (λ l. leb-true (length (interface_name i)) 19 (at (λ i. leb (length (interface_name i)) 19) 13 refl i l))
    (λ m. let e : row_of i ≡ row "" 0 = get_or-eq_default table (row "" 0) {n = i} (omega arith) in omega (arith, ap (λ (r : Row). length r.name) e))

pub named : {a : EventArgument} (x n : ℕ) → a ≡ EventArgument.Interface → allowed a x n ≡ true → x ≤ 12
named x n e h =
    let q : between 1 12 x ≡ true = rw e at h in
    let two : (leb 1 x ≡ true) × (leb x 12 ≡ true) = both_hold q in
    leb-true x 12 two.1
