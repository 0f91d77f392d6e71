-- A pattern above that of infinity, its sign left out, is a NaN's. Assumes nothing.
use Prim.Native.Nat.{ℕ, ◌%◌, ◌<◌, ◌≤◌}
use mathlib.Core.Path.{◌≡◌, refl, sym, ◌∙◌}
use mathlib.Core.Bool.{not, true}
use native.Mathlib.Omega.{arith}
use borrow.Author.Tests.{lt-ltb, le-ltb}
use lib.Dec.{T}
use lib.Ieee.{Float, nan, inf, fin, is_nan, of_bits, nan_bits, binary32, div}
use lib.Ieee.Bits.{nan_bits_is, nan_bits_above}
use Rattle.script.proofs.word.of_bits.Goals as goal

is_nan_lem : (x : Float) → is_nan x ≡ true → nan ≡ x
unfolding is_nan
is_nan_lem nan e = refl
is_nan_lem (inf s) e = absurd (let z : ◌≡◌ {A = ℕ} 0 1 = cc in omega arith)
is_nan_lem (fin s m e) f = absurd (let z : ◌≡◌ {A = ℕ} 0 1 = cc in omega arith)

above : (n : ℕ) → 0x7f800000 < n % 0x80000000 → nan ≡ of_bits binary32 n
above n h = is_nan_lem (of_bits binary32 n) (sym (nan_bits_is binary32 n) ∙ nan_bits_above binary32 n ∙ lt-ltb 0x7f800000 (n % 0x80000000) h)

below : (n : ℕ) → n % 0x80000000 ≤ 0x7f800000 → T (not (nan_bits binary32 n))
below n h = rw (nan_bits_above binary32 n, le-ltb 0x7f800000 (n % 0x80000000) h) tt

pub returns-then-bits-gt2139095040 : goal.returns-then-bits-gt2139095040
unfolding div of_bits
returns-then-bits-gt2139095040 c = above c.args.bits c.if-bits-gt2139095040.true

pub float_from_bits-result : goal.float_from_bits-result
float_from_bits-result c = below c.args.bits c.if-bits-gt2139095040.false
