-- Laws of `be` and `pack`: a field of whole bytes is those bytes, at every width. Assumes nothing.
use Prim.Native.Nat.{ℕ, zero, suc, ◌+◌, ◌*◌, ◌/◌, ◌%◌, ◌^◌, ◌<◌}
use mathlib.Core.Path.{◌≡◌, refl, sym, ap, ap₂, ◌∙◌}
use mathlib.Core.List.{List, [], ◌∷◌, ◌++◌, append_assoc, append-nil}
use native.Mathlib.Nat.{add_assoc, add-suc, add-zero, add-mul, mul_assoc, mul-suc, mod-lt}
use native.Mathlib.Numerals.{add-one}
use native.Mathlib.Omega.{arith}
use lib.Arith.{digits_lt}
use lib.ListN.{length, length-append}
use lib.Pow.{pow_pos, pow-add, split, high, low, mod-pow-add}
use Rattle.std.specs.Int.{byte_at, bytes_high_first}
use Rattle.wire.specs.Bits.{Field, ◌bits◌, widths, packed, be, pack}

pub length-be : (k n : ℕ) → length (be k n) ≡ k
unfolding be
length-be zero n = refl
length-be (suc k) n = rw (length-append, length-be k (n / 256)) (add-one k)

-- the last of some bytes, before what stands behind them
pub be-last : (i j v : ℕ) (behind : List ℕ) → i ≡ j + 1 → be i v ++ behind ≡ be j (v / 256) ++ (v % 256 ∷ behind)
unfolding be
be-last i j v behind e = rw (e, add-one, append_assoc (be j (v / 256)) (v % 256 ∷ []) behind)

-- a number above suc m bytes, without the last of them; and the last
module _ (m x y : ℕ) where
  shifted : x * 2 ^ (8 * suc m) + y ≡ x * 2 ^ (8 * m) * 256 + y
  shifted = rw (mul-suc 8 m, pow-add 2 (8 * m) 8, mul_assoc)

  above-div : (x * 2 ^ (8 * suc m) + y) / 256 ≡ x * 2 ^ (8 * m) + y / 256
  above-div = rw shifted (omega arith)

  above-mod : (x * 2 ^ (8 * suc m) + y) % 256 ≡ y % 256
  above-mod = rw shifted (omega arith)

-- a number above m bytes: its bytes, then those
pub be-append : (k m x y : ℕ) → y < 2 ^ (8 * m) → be (k + m) (x * 2 ^ (8 * m) + y) ≡ be k x ++ be m y
unfolding be
be-append k zero x y h =
    let e : x * 2 ^ (8 * 0) + y ≡ x = omega arith in
    rw (add-zero, e, append-nil)
be-append k (suc m) x y h =
    let l : y / 256 < 2 ^ (8 * m) = omega (arith, shifted m 1 0) in
    rw (add-suc, above-div m x y, above-mod m x y, be-append k m x (y / 256) l, append_assoc)

-- what stands above k bytes does not show in them
pub be-above : (k q y : ℕ) → be k (q * 2 ^ (8 * k) + y) ≡ be k y
unfolding be
be-above zero q y = refl
be-above (suc k) q y = rw (above-div k q y, above-mod k q y, be-above k q (y / 256))

pub be-mod : (k x : ℕ) → be k (x % 2 ^ (8 * k)) ≡ be k x
be-mod k x = sym (be-above k (x / 2 ^ (8 * k)) (x % 2 ^ (8 * k))) ∙ ap (be k) (split x (8 * k))

pub packed_lt : (fs : List Field) → packed fs < 2 ^ widths fs
unfolding packed widths
packed_lt [] = omega arith
packed_lt (f ∷ fs) = rw pow-add (digits_lt (mod-lt f.value (pow_pos f.width)) (packed_lt fs))

-- a field of k bytes before others that are whole bytes together
pub pack-bytes : (k x m : ℕ) (fs : List Field) → widths fs ≡ 8 * m → pack ((8 * k) bits x ∷ fs) ≡ be k x ++ pack fs
unfolding pack packed widths
pack-bytes k x m fs w =
    let a : (8 * k + widths fs) / 8 ≡ k + m = omega arith in
    let b : widths fs / 8 ≡ m = omega arith in
    rw (a, b, w) (be-append k m (x % 2 ^ (8 * k)) (packed fs) (rw w at (packed_lt fs)) ∙ ap (λ (l : List ℕ). l ++ be m (packed fs)) (be-mod k x))

-- two neighbouring fields are one
pub pack_join : (v w x y : ℕ) (fs : List Field) → pack (v bits x ∷ w bits y ∷ fs) ≡ pack ((v + w) bits (x * 2 ^ w + y % 2 ^ w) ∷ fs)
unfolding pack packed widths
pack_join v w x y fs =
    let l = mod-lt y (pow_pos w) in
    rw (mod-pow-add (x * 2 ^ w + y % 2 ^ w) v w, high x w l, low x w l, pow-add 2 w (widths fs), add-mul, mul_assoc, add_assoc v w (widths fs), add_assoc (x % 2 ^ v * (2 ^ w * 2 ^ widths fs)) (y % 2 ^ w * 2 ^ widths fs) (packed fs))

-- ---- the library's bytes of a number, the most significant first

pow_bytes : (k : ℕ) → 256 ^ k ≡ 2 ^ (8 * k)
pow_bytes zero = refl
pow_bytes (suc k) = rw (mul-suc 8 k, pow-add 2 (8 * k) 8, ← pow_bytes k) (omega arith)

byte_at-is : (k n : ℕ) → byte_at k n ≡ n / 2 ^ (8 * k) % 256
byte_at-is zero n = omega arith
byte_at-is (suc k) n = rw (pow_bytes (suc k)) refl

-- all but the first k of some bytes are those of the number without what stands above
drop-be : (k m x : ℕ) → be (k + m) x ≡ be k (x / 2 ^ (8 * m)) ++ be m x
drop-be k m x =
    rw (split x (8 * m), be-mod m x) at (be-append k m (x / 2 ^ (8 * m)) (x % 2 ^ (8 * m)) (mod-lt x (pow_pos (8 * m))))

high_first : (k n : ℕ) → bytes_high_first k n ≡ be k n
unfolding be
high_first zero n = refl
high_first (suc k) n =
    let e : suc k ≡ 1 + k = omega arith in
    ap₂ (λ (b : ℕ) (l : List ℕ). b ∷ l) (byte_at-is k n) (high_first k n) ∙ sym (ap (λ (j : ℕ). be j n) e ∙ drop-be 1 k n)

-- the low k bytes of a number
pub low_bytes : (k x : ℕ) → bytes_high_first k (x % 2 ^ (8 * k)) ≡ be k x
low_bytes k x = high_first k (x % 2 ^ (8 * k)) ∙ be-mod k x
