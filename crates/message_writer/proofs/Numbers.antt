-- Numbers of bytes, most and least significant first. Assumes nothing.
use Prim.Native.Nat.{ℕ, zero, suc, ◌+◌, ◌-◌, ◌*◌, ◌/◌, ◌%◌, ◌^◌, ◌≤◌, ◌<◌}
use mathlib.Core.List.{List, [], ◌∷◌, ◌++◌, append-nil}
use mathlib.Core.Path.{◌≡◌, refl, sym, ◌∙◌}
use native.Mathlib.Nat.{mul-suc, lt_of_lt_of_le}
use native.Mathlib.Numerals.{add-one}
use native.Mathlib.Omega.{arith}
use borrow.Rule.Slice.PartMut.{put_mid}
use Rattle.std.specs.Int.{w64, from_be_bytes}
use lib.ListN.{length, get_or, take, drop, replicate, length-drop, length-append, length-replicate}
use Rattle.std.proofs.lemmas.List.{take-replicate, drop_all}
use lib.Arith.{digits_lt}
use lib.Pow.{pow_mono, pow-add, mod-pow-add}
use lib.Seq.{take-suc, get_or-drop}
use Rattle.wire.specs.Bits.{be}
use Rattle.message_writer.specs.Number.{joined, big_at}

-- one byte more behind
pub joined_snoc : (n : ℕ) (l : List ℕ) (x : ℕ) → joined n (l ++ (x ∷ [])) ≡ joined n l * 256 + x
unfolding joined
joined_snoc n [] x = refl
joined_snoc n (y ∷ l) x = joined_snoc (n * 256 + y) l x

-- the number of the k low bytes of a number
pub joined-be : (k x : ℕ) → joined 0 (be k x) ≡ x % 2 ^ (8 * k)
unfolding joined be
joined-be zero x = omega arith
joined-be (suc k) x = joined_snoc 0 (be k (x / 256)) (x % 256) ∙ rw (joined-be k (x / 256), mul-suc 8 k) (sym (mod-pow-add x (8 * k) 8))

-- one byte more of a number at a place, and how large it is
module _ (l : List ℕ) (at i : ℕ) (h : at + i < length l) where
  pub big_more : big_at l at (i + 1) ≡ big_at l at i * 256 + get_or l (at + i) 0
  unfolding big_at
  big_more =
      let m : i < length (drop at l) = omega (arith, length-drop at l) in
      rw (add-one, take-suc (drop at l) i 0 m, joined_snoc 0 (take i (drop at l)) (get_or (drop at l) i 0), get_or-drop at l i 0)

pub byte_more : (n b i : ℕ) → n < 2 ^ (8 * i) → b < 256 → n * 256 + b < 2 ^ (8 * (i + 1))
byte_more n b i h g =
    let e : 2 ^ (8 * (i + 1)) ≡ 2 ^ (8 * i) * 256 = rw (add-one, mul-suc 8 i) (pow-add 2 (8 * i) 8) in
    rw e (digits_lt h g)

-- up to eight bytes are a u64
pub fits_below : (n b i : ℕ) → n < 2 ^ (8 * i) → b < 256 → i < 8 → n * 256 + b < 2 ^ 64
fits_below n b i h g l = lt_of_lt_of_le (byte_more n b i h g) (pow_mono {i = 8 * (i + 1)} {j = 64} (omega arith))

-- ---- the library's number of eight bytes, the most significant first

eight : (l : List ℕ) → length l ≡ 8 → from_be_bytes w64 l ≡ joined 0 l
unfolding joined
eight [] q = absurd (omega arith)
eight (a ∷ []) q = absurd (omega arith)
eight (a ∷ b ∷ []) q = absurd (omega arith)
eight (a ∷ b ∷ c ∷ []) q = absurd (omega arith)
eight (a ∷ b ∷ c ∷ d ∷ []) q = absurd (omega arith)
eight (a ∷ b ∷ c ∷ d ∷ e ∷ []) q = absurd (omega arith)
eight (a ∷ b ∷ c ∷ d ∷ e ∷ f ∷ []) q = absurd (omega arith)
eight (a ∷ b ∷ c ∷ d ∷ e ∷ f ∷ g ∷ []) q = absurd (omega arith)
eight (a ∷ b ∷ c ∷ d ∷ e ∷ f ∷ g ∷ h ∷ []) q = omega arith
eight (a ∷ b ∷ c ∷ d ∷ e ∷ f ∷ g ∷ h ∷ i ∷ l) q = absurd (omega arith)

-- zeros in front leave it
zeros-joined : (n : ℕ) (l : List ℕ) → joined 0 (replicate n 0 ++ l) ≡ joined 0 l
unfolding joined
zeros-joined zero l = refl
zeros-joined (suc n) l = zeros-joined n l

-- bytes that are the last of eight, behind zeros
pub last_bytes : (k : ℕ) (xs ys : List ℕ) → ys ≡ xs → length xs ≡ k → k ≤ 8 → from_be_bytes w64 (put_mid (8 - k) (8 - (8 - k)) (replicate {A = ℕ} 8 0) ys) ≡ joined 0 xs
last_bytes k xs ys e n h =
    let a : take {A = ℕ} (8 - k) (replicate {A = ℕ} 8 0) ≡ replicate {A = ℕ} (8 - k) 0 = take-replicate {X = ℕ} (8 - k) 8 0 (omega arith) in
    let b : drop {A = ℕ} (8 - (8 - k)) (drop {A = ℕ} (8 - k) (replicate {A = ℕ} 8 0)) ≡ [] =
    drop_all (8 - (8 - k)) (drop {A = ℕ} (8 - k) (replicate {A = ℕ} 8 0)) (omega (arith, length-drop (8 - k) (replicate {A = ℕ} 8 0))) in
    let whole : put_mid (8 - k) (8 - (8 - k)) (replicate {A = ℕ} 8 0) ys ≡ replicate {A = ℕ} (8 - k) 0 ++ xs = rw (e, a, b, append-nil) in
    rw whole (eight (replicate {A = ℕ} (8 - k) 0 ++ xs) (simp (length-append, length-replicate) (omega arith)) ∙ zeros-joined (8 - k) xs)

module _ (l : List ℕ) (octets : (i : ℕ) → get_or l i 0 < 256) where
  -- a number of k bytes has those bytes
  pub be-joined : (k : ℕ) → k ≤ length l → be k (joined 0 (take k l)) ≡ take k l
  unfolding be joined
  be-joined zero h = refl
  be-joined (suc k) h =
      let n = joined 0 (take k l) in
      let b = get_or l k 0 in
      let lt = octets k in
      let q : (n * 256 + b) / 256 ≡ n = omega arith in
      let r : (n * 256 + b) % 256 ≡ b = omega arith in
      rw (take-suc l k 0 (omega arith), joined_snoc 0 (take k l) b, q, r, be-joined k (omega arith))
