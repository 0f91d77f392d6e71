-- A part of a buffer that was lent, and has come back. Assumes nothing.
use Prim.Native.Nat.{ℕ, ◌-◌}
use mathlib.Core.Path.{◌≡◌}
use mathlib.Core.List.{List, ◌++◌}
use native.Mathlib.Omega.{arith}
use lib.ListN.{take, drop}
use Rattle.script_session.specs.Lent.{room, InRoom}

-- the code lends the first n bytes
pub in_part : {said n : ℕ} {out exit : List ℕ} {Holds : (lent later : List ℕ) → Type 0} (later : List ℕ) → n ≡ room said out → Holds (take n out) later
    → exit ≡ later ++ drop n out → InRoom said out exit Holds
in_part later e h x = record { later = later; holds = rw e at h; rest = rw e at x }

-- the same, lent from 0 to n
pub in_room : {said n : ℕ} {out exit : List ℕ} {Holds : (lent later : List ℕ) → Type 0} (later : List ℕ) → n ≡ room said out → Holds (take (n - 0) out) later
    → exit ≡ later ++ drop (n - 0) out → InRoom said out exit Holds
in_room {said} {n} {out} later e h x = let f : n - 0 ≡ room said out = omega (arith, e) in in_part later f h x
