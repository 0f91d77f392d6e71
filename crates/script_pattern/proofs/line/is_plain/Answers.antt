-- The two bytes that are none, and those outside of the letters. Assumes nothing.
use Rattle.std.proofs.Common.{arith, ◌≡◌, ◌≤◌, ◌<◌, ℕ, sym, ap, ◌⊎◌, inl, inr, false}
use mathlib.Core.Logic.{dite}
use native.Mathlib.Decide.{dec_le}
use borrow.Author.Tests.{lt-ltb, le-ltb, le-leb, lt-leb, ne_eqb}
use lib.Dec.{leb}
use Rattle.script_pattern.specs.Digits.{is_plain}
use Rattle.script_pattern.proofs.line.is_plain.Goals as goal

quoted : (b : ℕ) → (b ≡ 34) ⊎ (b ≡ 92) → false ≡ is_plain b
unfolding is_plain
quoted b (inl e) = sym (ap is_plain e)
quoted b (inr e) = sym (ap is_plain e)

above : (b : ℕ) → 32 ≤ b → (b ≡ 34 → ⊥) → (b ≡ 92 → ⊥) → leb b 126 ≡ is_plain b
unfolding is_plain
above b h m n =
    dite (dec_le b 126)
    (λ k. rw (le-leb b 126 k, le-ltb b 0x20 h, le-ltb 0x7e b k, ne_eqb b 0x22 m, ne_eqb b 0x5c n))
    (λ k. rw (lt-leb b 126 (omega arith), le-ltb b 0x20 h, lt-ltb 0x7e b (omega arith)))

below : (b : ℕ) → b < 32 → leb 32 b ≡ is_plain b
unfolding is_plain
below b h = rw (lt-leb 32 b h, lt-ltb b 0x20 h)

pub returns-in-34 : goal.returns-in-34
returns-in-34 c = quoted c.args.b c.in-34.is

pub returns-then-b-ge32 : goal.returns-then-b-ge32
returns-then-b-ge32 c =
    let k : (c.args.b ≡ 34) ⊎ (c.args.b ≡ 92) → ⊥ = omega arith in
    above c.args.b c.if-b-ge32.true (λ e. k (inl e)) (λ e. k (inr e))

pub returns-else-b-ge32 : goal.returns-else-b-ge32
returns-else-b-ge32 c = below c.args.b c.if-b-ge32.false
