-- A number's bytes in hexadecimal. Assumes nothing.
use Prim.Native.Nat.{ℕ, ◌*◌, ◌/◌, ◌%◌}
use mathlib.Core.Path.{◌≡◌, refl, sym, ap}
use mathlib.Core.List.{◌++◌}
use Rattle.std.proofs.Math.Nat.{div-div-eq-div-mul}
use Rattle.std.specs.Int.{w32, w64, to_be_bytes}
use Rattle.script_pattern.specs.Digits.{eight, hexadecimal, each, pair}

-- a byte of the upper four: by its place in eight bytes, and by that in four
upper : (n d : ℕ) → n / (4294967296 * d) % 256 ≡ n / 4294967296 / d % 256
upper n d = ap (λ (m : ℕ). m % 256) (sym (div-div-eq-div-mul n 4294967296 d))

pub in_eight : (n : ℕ) → hexadecimal (to_be_bytes w32 n) ≡ eight n
unfolding hexadecimal each eight pair
in_eight n = refl

pub in_sixteen : (n : ℕ) → hexadecimal (to_be_bytes w64 n) ≡ eight (n / 4294967296) ++ eight n
unfolding hexadecimal each eight pair
in_sixteen n =
    let a : n / 72057594037927936 % 256 ≡ n / 4294967296 / 16777216 % 256 = upper n 16777216 in
    let b : n / 281474976710656 % 256 ≡ n / 4294967296 / 65536 % 256 = upper n 65536 in
    let c : n / 1099511627776 % 256 ≡ n / 4294967296 / 256 % 256 = upper n 256 in
    rw (a, b, c)
