-- Which bit is listed with an id: bit by bit of a mask, and device by device. Assumes nothing.
use Rattle.std.proofs.Common.{◌≡◌, ℕ, zero, suc, ◌+◌, ◌/◌, ◌%◌, ◌^◌, ◌<◌, ◌≤◌, Bool, true, false, cond, ◌&&◌, eqb, ltb, ◌⊎◌, List, [], ◌∷◌, ◌++◌, map, length, sym, refl, ap, ◌∙◌, inl, inr, mod-lt, arith, pow_mono, ltb-true, eq-eqb, ne_eqb}
use mathlib.Core.Bool.{false≢true}
use mathlib.Core.Option.{Option, none, some}
use native.Mathlib.Nat.{pow-succ'}
use Rattle.eiproto.specs.Bits.{bits_from, bits_of, bits_below, every}
use Rattle.eiproto.proofs.Bits.{bits_small}
use Rattle.model.specs.Session.{Device}
use Rattle.model.specs.Live.{listed_as, or_else, listed_in}
use Rattle.control.specs.Table.{tab}
use Rattle.control.specs.Control.{interface_id, interface_on, interfaces_on}

-- ---- bit by bit

module _ (device caps id : ℕ) where
  among : List ℕ → Option ℕ
  among bs = listed_as id (map (interface_on device caps) bs)

  pub none-listed : (m : ℕ) → bits_of m ≡ [] → listed_as id (interfaces_on device caps m) ≡ none
  unfolding listed_as interfaces_on among
  none-listed m e = ap among e

  -- b is the first bit, and i its interface's id
  module _ (m b i : ℕ) (f : i ≡ interface_id device caps b) where
    pub bit_met : {bs : List ℕ} → bits_of m ≡ b ∷ bs → i ≡ id → listed_as id (interfaces_on device caps m) ≡ some b
    unfolding listed_as interfaces_on interface_on among
    bit_met e q = ap among e ∙ rw (eq-eqb (interface_id device caps b) id (sym f ∙ q)) refl

    pub bit_passed : (left : ℕ) → bits_of m ≡ b ∷ bits_of left → (i ≡ id → ⊥)
        → listed_as id (interfaces_on device caps m) ≡ listed_as id (interfaces_on device caps left)
    unfolding listed_as interfaces_on interface_on among
    bit_passed left e n = ap among e ∙ rw (ne_eqb (interface_id device caps b) id (λ q. n (f ∙ q))) refl

-- ---- an id that is not near the device's

none_from : (k p : ℕ) → bits_from k p 0 ≡ []
unfolding bits_from
none_from zero p = refl
none_from (suc k) p = none_from k (p + 1)

few_from : (k p m j : ℕ) → m < 2 ^ j → length (bits_from k p m) ≤ j
unfolding bits_from
few_from zero p m j h = omega arith
few_from (suc k) p m zero h = let z : m ≡ 0 = omega arith in omega (arith, ap (λ (x : ℕ). length (bits_from (suc k) p x)) z, ap length (none_from (suc k) p))
few_from (suc k) p m (suc j) h = go (eqb (m % 2) 1) (few_from k (p + 1) (m / 2) j (let z = pow-succ' 2 j in omega arith))
  where
    go : (t : Bool) → length (bits_from k (p + 1) (m / 2)) ≤ j → length (cond t (p ∷ []) [] ++ bits_from k (p + 1) (m / 2)) ≤ suc j
    go true l = omega arith
    go false l = omega arith

-- no more bits are below a bit than its place
below_place : (m b : ℕ) → bits_below m b ≤ b
unfolding bits_below bits_of
below_place m b = few_from 64 0 (m % 2 ^ b) b (mod-lt m (omega (arith, pow_mono {i = 0} {j = b} (omega arith))))

-- as a number that is 0 or more than 7 is told
abbrev pub Far : ℕ → Type 0
Far near = (near ≡ 0) ⊎ ((near ≡ 0 → ⊥) × (7 < near))

-- `near` is the id less the device's, in 64 bits
module _ (device caps id near : ℕ) (narrow : near < 2 ^ 64) (apart : (near + device) % 2 ^ 64 ≡ id) where
  other-id : Far near → (b : ℕ) → b < 7 → interface_id device caps b ≡ id → ⊥
  unfolding interface_id
  other-id (inl z) b l e = omega (arith, below_place caps b)
  other-id (inr z) b l e = omega (arith, z.1, below_place caps b)

  far_among : Far near → (bs : List ℕ) → every (λ b. ltb b 7) bs ≡ true → listed_as id (map (interface_on device caps) bs) ≡ none
  unfolding listed_as every interface_on
  far_among f [] e = refl
  far_among f (b ∷ bs) e = go (ltb b 7) refl e (λ r. far_among f bs r)
    where
      go : (t : Bool) → ltb b 7 ≡ t → t && every (λ b. ltb b 7) bs ≡ true
          → (every (λ b. ltb b 7) bs ≡ true → listed_as id (map (interface_on device caps) bs) ≡ none)
          → cond (eqb (interface_id device caps b) id) (some b) (listed_as id (map (interface_on device caps) bs)) ≡ none
      go true q e h = rw (ne_eqb (interface_id device caps b) id (other-id f b (ltb-true b 7 q))) (h e)
      go false q e h = absurd (false≢true e)

  -- it lists none with the id
  pub far_none : (listed : ℕ) → listed < 128 → Far near → listed_as id (interfaces_on device caps listed) ≡ none
  unfolding interfaces_on
  far_none listed h f = far_among f (bits_of listed) (bits_small 7 listed h)

-- ---- device by device

module _ (id : ℕ) where
  pub listed-first : (n k b : ℕ) (f : ℕ → Device (Unit {0})) → k < n → listed_as id (f k).interfaces ≡ some b
      → ((j : ℕ) → j < k → listed_as id (f j).interfaces ≡ none) → listed_in id (tab n f) ≡ some b
  unfolding listed_in or_else tab
  listed-first zero k b f l e h = absurd (omega arith)
  listed-first (suc n) zero b f l e h = rw e
  listed-first (suc n) (suc k) b f l e h = rw (h 0 (omega arith)) (listed-first n k b (λ j. f (suc j)) (omega arith) e (λ j q. h (suc j) (omega arith)))

  pub listed_nowhere : (n : ℕ) (f : ℕ → Device (Unit {0})) → ((j : ℕ) → j < n → listed_as id (f j).interfaces ≡ none) → listed_in id (tab n f) ≡ none
  unfolding listed_in or_else tab
  listed_nowhere zero f h = refl
  listed_nowhere (suc n) f h = rw (h 0 (omega arith)) (listed_nowhere n (λ j. f (suc j)) (λ j q. h (suc j) (omega arith)))
