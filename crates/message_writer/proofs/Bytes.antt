-- Bytes written from the first to the last. Assumes nothing.
use Prim.Native.Nat.{ℕ, zero, suc, ◌+◌, ◌-◌, ◌*◌, ◌/◌, ◌%◌, ◌^◌, ◌≤◌, ◌<◌}
use mathlib.Core.List.{List, [], ◌∷◌, ◌++◌}
use mathlib.Core.Path.{◌≡◌, refl, sym, ap, ap₂, ◌∙◌}
use native.Mathlib.Numerals.{add-one}
use native.Mathlib.Omega.{arith}
use lib.ListN.{length, set, take, replicate, length-append, length-replicate}
use lib.Seq.{set_split, append_snoc}
use Rattle.std.proofs.Math.Nat.{div-div-eq-div-mul}
use Rattle.std.specs.Int.{byte_at, bytes_low_first}
use Rattle.wire.specs.Bits.{splice}
use Rattle.wire.specs.Put.{Wrote}
use Rattle.wire.proofs.Splices.{length-splice, splice-splice}
use mathlib.Core.Logic.{◌⊎◌, inl, inr}
use Rattle.event_messages.specs.Message.{le, padded, string}
use Rattle.event_messages.specs.Shape.{sent}
use Rattle.event_messages.specs.declared.EventArgument.{EventArgument}

pub length-le : (k n : ℕ) → length (le k n) ≡ k
unfolding le
length-le zero n = refl
length-le (suc k) n = ap suc (length-le k (n / 256))

-- the first of some bytes, behind what stands before them
pub le_next : (j k v : ℕ) (t : List ℕ) → j ≡ k + 1 → t ++ le j v ≡ t ++ (v % 256 ∷ []) ++ le k (v / 256)
unfolding le
le_next j k v t e = rw (e, add-one) (sym (append_snoc t (v % 256) (le k (v / 256))))

byte_at-is : (i n : ℕ) → byte_at i n ≡ n / 256 ^ i % 256
byte_at-is zero n = omega arith
byte_at-is (suc i) n = refl

-- the library's bytes of a number, the least significant first
low_first : (i k n : ℕ) → bytes_low_first i k n ≡ le k (n / 256 ^ i)
unfolding le
low_first i zero n = refl
low_first i (suc k) n =
    let b : byte_at i n ≡ n / 256 ^ i % 256 = byte_at-is i n in
    let p : 256 ^ suc i ≡ 256 ^ i * 256 = omega arith in
    let e : n / 256 ^ suc i ≡ n / 256 ^ i / 256 = ap (λ (d : ℕ). n / d) p ∙ sym (div-div-eq-div-mul n (256 ^ i) 256) in
    ap₂ (λ (x : ℕ) (l : List ℕ). x ∷ l) b (low_first (suc i) k n ∙ ap (le k) e)

take-le : (k m n : ℕ) → take k (le (k + m) n) ≡ le k n
unfolding le
take-le zero m n = refl
take-le (suc k) m n =
    let e : suc k + m ≡ suc (k + m) = omega arith in
    ap (λ (j : ℕ). take (suc k) (le j n)) e ∙ ap (λ (l : List ℕ). n % 256 ∷ l) (take-le k m (n / 256))

-- its k low bytes
pub low_bytes : (k x : ℕ) → k ≤ 8 → take k (bytes_low_first 0 8 x) ≡ le k x
low_bytes k x h =
    let e : 8 ≡ k + (8 - k) = omega arith in
    let d : x / 256 ^ 0 ≡ x = omega arith in
    rw (low_first 0 8 x, d) (ap (λ (n : ℕ). take k (le n x)) e ∙ take-le k (8 - k) x)

pub zeros : (k : ℕ) → le k 0 ≡ replicate k 0
unfolding le
zeros zero = refl
zeros (suc k) = ap (λ (l : List ℕ). 0 ∷ l) (zeros k)

set-splice : (l : List ℕ) (n b : ℕ) → n < length l → set l n b ≡ splice l n (b ∷ [])
unfolding splice
set-splice l n b h = rw add-one (set_split l n b h)

-- one byte more behind
pub splice_back : (out : List ℕ) (at i b : ℕ) (ys : List ℕ) → length ys ≡ i → at + i < length out → set (splice out at ys) (at + i) b ≡ splice out at (ys ++ (b ∷ []))
splice_back out at i b ys e h =
    let n : at + length ys < length (splice out at ys) = rw (length-splice out at ys (omega arith)) (omega arith) in
    rw (← e) (set-splice (splice out at ys) (at + length ys) b n ∙ splice-splice out at ys (b ∷ []) (omega arith))

pub length-string : (t : List ℕ) → length (string t) ≡ 4 + padded (length t + 1)
unfolding string le
length-string t = simp (length-append, length-replicate) (omega arith)

-- a string as it is written
pub string_is : (t : List ℕ) → le 4 (length t + 1) ++ (t ++ le ((length t + 4) / 4 * 4 - length t) 0) ≡ string t
unfolding string
string_is t =
    let e : (length t + 4) / 4 * 4 - length t ≡ padded (length t + 1) - length t = omega arith in
    rw (e, zeros)

-- bytes that were written, under another name
pub puts : {out later : List ℕ} {at n r : ℕ} {xs ys : List ℕ} → Wrote out later at n xs r → xs ≡ ys → Wrote out later at (length ys) ys r
puts {out} {at = at} {n = n} {ys = ys} w e =
    let l : length ys ≡ n = rw e at w.long in
    record { buffer = w.buffer ∙ ap (λ (l : List ℕ). splice out at l) e; long = refl; next = rw l w.next }

-- the values that are four bytes in a message
pub word_sent : {a : EventArgument} (x : ℕ) (t : List ℕ) → (a ≡ EventArgument.Uint32) ⊎ ((a ≡ EventArgument.Reason) ⊎ (a ≡ EventArgument.DeviceType)) → sent a x t ≡ le 4 x
unfolding sent
word_sent x t (inl e) = rw e
word_sent x t (inr (inl e)) = rw e
word_sent x t (inr (inr e)) = rw e

pub word_length : {a : EventArgument} (x : ℕ) (t : List ℕ) → (a ≡ EventArgument.Uint32) ⊎ ((a ≡ EventArgument.Reason) ⊎ (a ≡ EventArgument.DeviceType)) → length (sent a x t) ≡ 4
word_length x t e = ap (λ (l : List ℕ). length l) (word_sent x t e) ∙ length-le 4 x
