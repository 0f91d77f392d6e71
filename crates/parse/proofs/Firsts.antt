-- A first message that was read: its length, and that its text lies within it. Assumes nothing.
use Prim.Native.Nat.{ℕ, ◌+◌, ◌≤◌}
use mathlib.Core.Path.{◌≡◌, refl, sym, ap}
use mathlib.Core.Bool.{Bool, true, false, ◌||◌, cond, false≢true}
use mathlib.Core.List.{List}
use native.Mathlib.Omega.{arith}
use borrow.Author.Tests.{ltb-false}
use lib.Dec.{ltb}
use lib.ListN.{length, take}
use Rattle.parse.specs.declared.Arguments.{Arguments}
use Rattle.parse.specs.declared.First.{First}
use Rattle.parse.specs.Parse.{Parsed, le32, parsed}
use Rattle.std.specs.Prelude.{Ok, Err}
use Rattle.parse.specs.First.{ReadFirst, read, first_as, first_of}
use Rattle.parse.proofs.Parts.{text-within}

pub record IsFirst (bytes : List ℕ) (a : Arguments) (n : ℕ) : Type 0 where
  pub least : 16 ≤ n
  pub most : n ≤ 1024
  pub room : n ≤ length bytes
  pub text : a.start + a.length ≤ length (take n bytes)

-- by which side a test came to it
either : {P : Type 0} (t : Bool) {x y z : ReadFirst} → (t ≡ true → x ≡ z → P) → (t ≡ false → y ≡ z → P) → cond t x y ≡ z → P
either true f g = f refl
either false f g = g refl

limits : (n : ℕ) → (ltb n 16 || ltb 1024 n) ≡ false → (16 ≤ n) × (n ≤ 1024)
limits n = go (ltb n 16) refl
  where
    go : (t : Bool) → ltb n 16 ≡ t → (t || ltb 1024 n) ≡ false → (16 ≤ n) × (n ≤ 1024)
    go true e h = absurd (false≢true (sym h))
    go false e h = (ltb-false n 16 e, ltb-false 1024 n h)

module _ (interface : ℕ) (m : List ℕ) (a : Arguments) (n : ℕ) where
  whole : (k : ℕ) (p : Parsed) → 16 ≤ k → k ≤ 1024 → k ≤ length m → parsed interface (take k m) ≡ p → first_as k p ≡ read a n → IsFirst m a n
  unfolding first_as
  whole k (Err e) l u r q s = absurd (let z : ◌≡◌ {A = ℕ} 0 1 = cc in omega arith)
  whole k (Ok b) l u r q s =
      let f : ◌≡◌ {A = First} (record { arguments = b; length = k }) (record { arguments = a; length = n }) = cc in
      let x : b ≡ a = ap (λ (z : First). z.arguments) f in
      let y : k ≡ n = ap (λ (z : First). z.length) f in
      record { least = rw y at l; most = rw y at u; room = rw y at r; text = rw (x, y) at (text-within (take k m) interface b q) }

  pub first-within : read a n ≡ first_of interface m → IsFirst m a n
  unfolding first_of
  first-within e =
      let k = le32 m 8 in
      either (ltb k 16 || ltb 1024 k) (λ _ s. absurd (let z : ◌≡◌ {A = ℕ} 0 1 = cc in omega arith))
      (λ h. either (ltb (length m) k) (λ _ s. absurd (let z : ◌≡◌ {A = ℕ} 0 1 = cc in omega arith))
      (λ t. whole k (parsed interface (take k m)) (limits k h).0 (limits k h).1 (ltb-false _ _ t) refl))
      (sym e)
