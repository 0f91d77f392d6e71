-- A mark takes one value, and any other byte none. Assumes nothing.
use Rattle.std.proofs.Common.{arith, ◌≡◌, ◌≤◌, ◌<◌, ℕ, sym, ap, ◌⊎◌, inl, inr}
use mathlib.Core.Logic.{dite}
use native.Mathlib.Decide.{ℕ_discrete}
use Rattle.script_pattern.specs.Pattern.{marks, takes}
use Rattle.script_pattern.proofs.Patterns.{no_mark_takes}
use Rattle.script_pattern.proofs.mark.takes.Goals as goal

-- the marks that stand alone
abbrev Others : ℕ → Type 0
Others n = (n ≡ 33) ⊎ ((n ≡ 46) ⊎ ((n ≡ 59) ⊎ ((n ≡ 63) ⊎ ((n ≡ 94) ⊎ (n ≡ 126)))))

other : (n : ℕ) → Others n → 1 ≡ takes n
unfolding takes
other n (inl e) = sym (ap takes e)
other n (inr (inl e)) = sym (ap takes e)
other n (inr (inr (inl e))) = sym (ap takes e)
other n (inr (inr (inr (inl e)))) = sym (ap takes e)
other n (inr (inr (inr (inr (inl e))))) = sym (ap takes e)
other n (inr (inr (inr (inr (inr e))))) = sym (ap takes e)

pub returns-in_default : goal.returns-in_default
unfolding marks
returns-in_default c =
    let k : Others c.args.c → ⊥ = omega arith in
    no_mark_takes c.args.c ((((((((((((tt, λ e. omega arith), λ e. omega arith), λ e. k (inr (inr (inr (inr (inr e)))))), λ e. omega arith), λ e. k (inr (inr (inr (inl e))))), λ e. omega arith), λ e. k (inr (inr (inr (inr (inl e)))))), λ e. k (inl e)), λ e. omega arith), λ e. omega arith), λ e. k (inr (inr (inl e)))), λ e. k (inr (inl e)))

pub returns-in_default-2 : goal.returns-in_default-2
unfolding marks
returns-in_default-2 c =
    let k : Others c.args.c → ⊥ = omega arith in
    no_mark_takes c.args.c ((((((((((((tt, λ e. omega arith), λ e. omega arith), λ e. k (inr (inr (inr (inr (inr e)))))), λ e. omega arith), λ e. k (inr (inr (inr (inl e))))), λ e. omega arith), λ e. k (inr (inr (inr (inr (inl e)))))), λ e. k (inl e)), λ e. omega arith), λ e. omega arith), λ e. k (inr (inr (inl e)))), λ e. k (inr (inl e)))

pub returns-in_default-3 : goal.returns-in_default-3
unfolding marks
returns-in_default-3 c =
    let k : Others c.args.c → ⊥ = omega arith in
    no_mark_takes c.args.c ((((((((((((tt, λ e. omega arith), λ e. omega arith), λ e. k (inr (inr (inr (inr (inr e)))))), λ e. omega arith), λ e. k (inr (inr (inr (inl e))))), λ e. omega arith), λ e. k (inr (inr (inr (inr (inl e)))))), λ e. k (inl e)), λ e. omega arith), λ e. omega arith), λ e. k (inr (inr (inl e)))), λ e. k (inr (inl e)))

pub returns-in-35 : goal.returns-in-35
returns-in-35 c = other c.args.c c.in-35.is

four : (n : ℕ) → 35 ≤ n → n < 39 → 1 ≡ takes n
unfolding takes
four n h k =
    dite (ℕ_discrete n 35) (λ e. sym (ap takes e))
    (λ a. dite (ℕ_discrete n 36) (λ e. sym (ap takes e))
    (λ b. dite (ℕ_discrete n 37) (λ e. sym (ap takes e)) (λ d. let e : n ≡ 38 = omega arith in sym (ap takes e))))

two : (n : ℕ) → 42 ≤ n → n < 44 → 1 ≡ takes n
unfolding takes
two n h k = dite (ℕ_discrete n 42) (λ e. sym (ap takes e)) (λ a. let e : n ≡ 43 = omega arith in sym (ap takes e))

pub returns-in-35-2 : goal.returns-in-35-2
returns-in-35-2 c = four c.args.c (omega arith) (omega arith)

pub returns-in-35-3 : goal.returns-in-35-3
returns-in-35-3 c = two c.args.c (omega arith) (omega arith)
