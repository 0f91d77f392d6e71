-- An interface that a device no longer lists: its bit is taken out of the mask. Assumes nothing.
use Rattle.std.proofs.Common.{◌≡◌, ℕ, zero, suc, ◌+◌, ◌-◌, ◌/◌, ◌%◌, ◌^◌, ◌<◌, ◌≤◌, Bool, true, false, cond, ◌&&◌, eqb, List, [], ◌∷◌, ◌++◌, map, sym, refl, ap, ◌∙◌, ap₂, add-zero, zero-add, arith, shr-shr, eq-eqb, ne_eqb, eqb-true}
use mathlib.Core.Bool.{false≢true}
use mathlib.Core.Logic.{dite}
use native.Mathlib.Decide.{dec_lt}
use native.Mathlib.Nat.{pow-succ'}
use Rattle.eiproto.specs.Bits.{bit, bits_from, bits_of, common}
use Rattle.eiproto.proofs.Bits.{common-bit}
use Rattle.model.specs.Session.{Interface}
use Rattle.model.specs.Edit.{interfaces_without}
use Rattle.control.specs.Control.{interface_on, interfaces_on}
use Rattle.control.proofs.Tables.{case_eq}
use Rattle.control.proofs.Interfaces.{bit_past}

-- ---- a bit taken out of a mask

low_bit : (m : ℕ) → bit 0 m ≡ eqb (m % 2) 1
low_bit m = let z : m / 2 ^ 0 ≡ m = omega arith in ap (λ (x : ℕ). eqb (x % 2) 1) z

high_bit : (b m : ℕ) → bit (suc b) m ≡ bit b (m / 2)
high_bit b m = let z : suc b ≡ 1 + b = omega arith in ap (λ (x : ℕ). eqb (m / 2 ^ x % 2) 1) z ∙ ap (λ (x : ℕ). eqb (x % 2) 1) (sym (shr-shr m 1 b))

-- a set bit is part of the mask
pub bit-fits : (b m : ℕ) → bit b m ≡ true → 2 ^ b ≤ m
bit-fits zero m e = let z : m % 2 ≡ 1 = eqb-true (m % 2) 1 (sym (low_bit m) ∙ e) in omega arith
bit-fits (suc b) m e = let p = pow-succ' 2 b in let h = bit-fits b (m / 2) (sym (high_bit b m) ∙ e) in omega arith

cleared_here : (b m : ℕ) → bit b m ≡ true → bit b (m - 2 ^ b) ≡ false
cleared_here zero m e =
    let o : m % 2 ≡ 1 = eqb-true (m % 2) 1 (sym (low_bit m) ∙ e) in low_bit (m - 2 ^ 0) ∙ ne_eqb ((m - 2 ^ 0) % 2) 1 (λ z. omega arith)
cleared_here (suc b) m e =
    let p = pow-succ' 2 b in
    let h = bit-fits (suc b) m e in
    let z : (m - 2 ^ suc b) / 2 ≡ m / 2 - 2 ^ b = omega arith in
    high_bit b (m - 2 ^ suc b) ∙ ap (bit b) z ∙ cleared_here b (m / 2) (sym (high_bit b m) ∙ e)

cleared_other : (b m x : ℕ) → bit b m ≡ true → (x ≡ b → ⊥) → bit x (m - 2 ^ b) ≡ bit x m
cleared_other zero m zero e n = absurd (n refl)
cleared_other zero m (suc x) e n =
    let o : m % 2 ≡ 1 = eqb-true (m % 2) 1 (sym (low_bit m) ∙ e) in
    let z : (m - 2 ^ 0) / 2 ≡ m / 2 = omega arith in high_bit x (m - 2 ^ 0) ∙ ap (bit x) z ∙ sym (high_bit x m)
cleared_other (suc b) m zero e n =
    let p = pow-succ' 2 b in
    let h = bit-fits (suc b) m e in
    let z : (m - 2 ^ suc b) % 2 ≡ m % 2 = omega arith in low_bit (m - 2 ^ suc b) ∙ ap (λ (x : ℕ). eqb x 1) z ∙ sym (low_bit m)
cleared_other (suc b) m (suc x) e n =
    let p = pow-succ' 2 b in
    let h = bit-fits (suc b) m e in
    let z : (m - 2 ^ suc b) / 2 ≡ m / 2 - 2 ^ b = omega arith in
    high_bit x (m - 2 ^ suc b) ∙ ap (bit x) z ∙ cleared_other b (m / 2) x (sym (high_bit b m) ∙ e) (λ y. n (ap suc y)) ∙ sym (high_bit x m)

-- the others stay
pub cleared : (b m : ℕ) → bit b m ≡ true → (x : ℕ) → bit x (m - 2 ^ b) ≡ cond (eqb x b) false (bit x m)
cleared b m e x =
    case_eq x b (λ z. ap (λ (y : ℕ). bit y (m - 2 ^ b)) z ∙ cleared_here b m e ∙ ap (λ (t : Bool). cond t false (bit x m)) (sym (eq-eqb x b z)))
    (λ n. cleared_other b m x e n ∙ ap (λ (t : Bool). cond t false (bit x m)) (sym (ne_eqb x b n)))

pub bit_below : (b m : ℕ) → m < 2 ^ 64 → bit b m ≡ true → b < 64
bit_below b m h e = dite (dec_lt b 64) (λ l. l) (λ n. absurd (false≢true (sym (bit_past b m h (omega arith)) ∙ e)))

-- a bit that is not set
pub clear : (b m : ℕ) → bit b m ≡ false → (x : ℕ) → bit x m ≡ cond (eqb x b) false (bit x m)
clear b m e x = case_eq x b (λ z. ap (λ (y : ℕ). bit y m) z ∙ e ∙ ap (λ (t : Bool). cond t false (bit x m)) (sym (eq-eqb x b z))) (λ n. rw (ne_eqb x b n))

-- ---- the interfaces

module _ (device caps b : ℕ) where
  -- at place p: whether it is listed before, whether it is the one that goes, whether it is listed after
  one_bit : (before goes after : Bool) → after ≡ cond goes false before → (p : ℕ) → eqb p b ≡ goes → (xs ys : List ℕ)
      → map (interface_on device caps) xs ≡ interfaces_without b (map (interface_on device caps) ys)
      → map (interface_on device caps) (cond after (p ∷ []) [] ++ xs) ≡ interfaces_without b (map (interface_on device caps) (cond before (p ∷ []) [] ++ ys))
  unfolding interfaces_without interface_on
  one_bit false true after e p q xs ys h = rw e h
  one_bit false false after e p q xs ys h = rw e h
  one_bit true true after e p q xs ys h = rw (e, q) h
  one_bit true false after e p q xs ys h = rw (e, q) (ap (λ (is : List Interface). interface_on device caps p ∷ is) h)

  without_from : (k p m after : ℕ) → ((x : ℕ) → bit x after ≡ cond (eqb (p + x) b) false (bit x m))
      → map (interface_on device caps) (bits_from k p after) ≡ interfaces_without b (map (interface_on device caps) (bits_from k p m))
  unfolding bits_from interfaces_without
  without_from zero p m after h = refl
  without_from (suc k) p m after h =
      one_bit (eqb (m % 2) 1) (eqb p b) (eqb (after % 2) 1)
      (sym (low_bit after) ∙ h 0 ∙ ap₂ (λ (q : ℕ) (t : Bool). cond (eqb q b) false t) (add-zero p) (low_bit m))
      p refl (bits_from k (p + 1) (after / 2)) (bits_from k (p + 1) (m / 2))
      (without_from k (p + 1) (m / 2) (after / 2)
      (λ x.
      let z : p + suc x ≡ p + 1 + x = omega arith in
      sym (high_bit x after) ∙ h (suc x) ∙ ap₂ (λ (q : ℕ) (t : Bool). cond (eqb q b) false t) z (high_bit x m)))

  pub unlisted-bit : (listed after : ℕ) → ((x : ℕ) → bit x after ≡ cond (eqb x b) false (bit x listed))
      → interfaces_on device caps after ≡ interfaces_without b (interfaces_on device caps listed)
  unfolding interfaces_on bits_of
  unlisted-bit listed after h =
      without_from 64 0 listed after (λ x. h x ∙ ap (λ (y : ℕ). cond (eqb y b) false (bit x listed)) (sym (zero-add x)))

-- a bit that goes from one of two masks goes from what they share
pub shared_bit : (caps w after b : ℕ) → caps < 2 ^ 64 → ((x : ℕ) → bit x after ≡ cond (eqb x b) false (bit x w))
    → (x : ℕ) → bit x (common caps after) ≡ cond (eqb x b) false (bit x (common caps w))
shared_bit caps w after b small h x =
    common-bit caps after x small ∙ ap (λ (t : Bool). bit x caps && t) (h x) ∙ go (bit x caps) (eqb x b) (bit x w)
    ∙ ap (λ (t : Bool). cond (eqb x b) false t) (sym (common-bit caps w x small))
  where
    go : (p t s : Bool) → p && cond t false s ≡ cond t false (p && s)
    go true t s = refl
    go false true s = refl
    go false false s = refl
