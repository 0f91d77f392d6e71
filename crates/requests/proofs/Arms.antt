-- The numbers of a `match`'s arms, where they follow each other. Assumes nothing.
use Prim.Native.Nat.{ℕ, zero, suc, ◌+◌, ◌≤◌, ◌<◌}
use mathlib.Core.Path.{◌≡◌}
use mathlib.Core.List.{List, [], ◌∷◌}
use mathlib.Core.Logic.{inl, inr}
use native.Mathlib.Omega.{arith}
use types.Run.{OneOf}

-- the n numbers from a on
abbrev pub run : ℕ → ℕ → List ℕ
run a zero = []
run a (suc n) = a ∷ run (suc a) n

-- in an arm with these numbers, k lies between its ends
pub among : (a n k : ℕ) → OneOf (run a n) k → (a ≤ k) × (k < a + n)
among a zero k o = absurd o
among a (suc zero) k e = (omega arith, omega arith)
among a (suc (suc n)) k (inl e) = (omega arith, omega arith)
among a (suc (suc n)) k (inr o) = let m = among (suc a) (suc n) k o in (omega (arith, m.0), omega (arith, m.1))

-- k is none of these numbers, in the form in which the last arm knows it
abbrev pub Missed : ℕ → ℕ → ℕ → Type 0 → Type 0
Missed a zero k N = N
Missed a (suc n) k N = Missed (suc a) n k (N × (k ≡ a → ⊥))

-- where k is none of them and not below, it lies past them
pub past : (a n k : ℕ) (N : Type 0) → (N → a ≤ k) → Missed a n k N → a + n ≤ k
past a zero k N f m = let h : a ≤ k = f m in omega arith
past a (suc n) k N f m =
    let h : suc a + n ≤ k = past (suc a) n k (N × (k ≡ a → ⊥)) (λ p. let l : a ≤ k = f p.0 in let e : k ≡ a → ⊥ = p.1 in omega arith) m in
    omega arith
