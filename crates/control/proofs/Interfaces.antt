-- The interfaces that a device lists: which bits have one, which id it has. Assumes nothing.
use Rattle.std.proofs.Common.{◌≡◌, ℕ, zero, suc, ◌+◌, ◌/◌, ◌%◌, ◌^◌, ◌<◌, ◌≤◌, Bool, true, false, cond, ◌&&◌, ◌||◌, eqb, List, [], ◌∷◌, ◌++◌, map, length, get_or, sym, refl, ap, ◌∙◌, ap₂, arith, pow_mono, shr-shr, eq-eqb, ne_eqb}
use native.Mathlib.Nat.{pow-succ', div-eq_of_lt}
use Rattle.eiproto.specs.Bits.{bit, bits_from, bits_of, bits_below}
use Rattle.eiproto.proofs.Bits.{bits_place, common-le}
use Rattle.model.specs.Session.{Interface}
use Rattle.model.specs.Edit.{interfaces_from, new_interfaces}
use Rattle.touches.specs.Touches.{member}
use Rattle.model.specs.Decide.{lists_as, lists}
use Rattle.control.specs.Control.{device_word, capabilities_at, listed_at, interface_id, interface_on, interfaces_on, core_at}
use Rattle.control.proofs.Tables.{case_eq}

-- ---- the bits of a mask, one by one

-- no bit stands past a mask's last
pub bit_past : (b m : ℕ) → m < 2 ^ 64 → 64 ≤ b → bit b m ≡ false
bit_past b m h l =
    let z : m / 2 ^ b ≡ 0 = div-eq_of_lt (omega (arith, pow_mono {i = 64} {j = b} l)) in
    ap (λ (x : ℕ). eqb (x % 2) 1) z

member-append : (x : ℕ) (xs ys : List ℕ) → member x (xs ++ ys) ≡ member x xs || member x ys
unfolding member
member-append x [] ys = refl
member-append x (y ∷ xs) ys = go (eqb x y) (member-append x xs ys)
  where
    go : (t : Bool) → member x (xs ++ ys) ≡ member x xs || member x ys → t || member x (xs ++ ys) ≡ (t || member x xs) || member x ys
    go true e = refl
    go false e = e

-- the bits of bits_from k p are p and more
not-below : (k p m x : ℕ) → x < p → member x (bits_from k p m) ≡ false
unfolding bits_from member
not-below zero p m x h = refl
not-below (suc k) p m x h =
    member-append x (cond (eqb (m % 2) 1) (p ∷ []) []) (bits_from k (p + 1) (m / 2))
    ∙ ap₂ (λ (s t : Bool). s || t) (go (eqb (m % 2) 1)) (not-below k (p + 1) (m / 2) x (omega arith))
  where
    go : (t : Bool) → member x (cond t (p ∷ []) []) ≡ false
    go true = rw (ne_eqb x p (λ e. omega arith))
    go false = refl

member_from : (k p m t : ℕ) → m < 2 ^ k → member (p + t) (bits_from k p m) ≡ bit t m
unfolding bits_from member
member_from zero p m t h =
    let z : m / 2 ^ t ≡ 0 = div-eq_of_lt (omega (arith, pow_mono {i = 0} {j = t} (omega arith))) in ap (λ (x : ℕ). eqb (x % 2) 1) (sym z)
member_from (suc k) p m zero h =
    member-append (p + 0) (cond (eqb (m % 2) 1) (p ∷ []) []) (bits_from k (p + 1) (m / 2))
    ∙ ap₂ (λ (s t : Bool). s || t) (go (eqb (m % 2) 1)) (not-below k (p + 1) (m / 2) (p + 0) (omega arith))
    ∙ ends (eqb (m % 2) 1) ∙ (let z : m ≡ m / 2 ^ 0 = omega arith in ap (λ (x : ℕ). eqb (x % 2) 1) z)
  where
    go : (t : Bool) → member (p + 0) (cond t (p ∷ []) []) ≡ t
    go true = rw (eq-eqb (p + 0) p (omega arith))
    go false = refl

    ends : (t : Bool) → t || false ≡ t
    ends true = refl
    ends false = refl
member_from (suc k) p m (suc t) h =
    member-append (p + suc t) (cond (eqb (m % 2) 1) (p ∷ []) []) (bits_from k (p + 1) (m / 2))
    ∙ ap₂ (λ (s t : Bool). s || t) (go (eqb (m % 2) 1)) refl
    ∙ (let z : p + suc t ≡ p + 1 + t = omega arith in ap (λ (x : ℕ). member x (bits_from k (p + 1) (m / 2))) z)
    ∙ member_from k (p + 1) (m / 2) t (let z = pow-succ' 2 k in omega arith)
    ∙ ap (λ (x : ℕ). eqb (x % 2) 1) (shr-shr m 1 t ∙ (let z : 1 + t ≡ suc t = omega arith in ap (λ (x : ℕ). m / 2 ^ x) z))
  where
    go : (s : Bool) → member (p + suc t) (cond s (p ∷ []) []) ≡ false
    go true = rw (ne_eqb (p + suc t) p (λ e. omega arith))
    go false = refl

-- the set bits are those of which `bit` holds
pub bits-member : (b m : ℕ) → m < 2 ^ 64 → member b (bits_of m) ≡ bit b m
unfolding bits_of
bits-member b m h = let z : b ≡ 0 + b = omega arith in ap (λ (x : ℕ). member x (bits_from 64 0 m)) z ∙ member_from 64 0 m b h

-- ---- what the list of interfaces says of a bit

module _ (device caps : ℕ) where
  lists_as_in : (b id : ℕ) (bs : List ℕ) → lists_as b id (map (interface_on device caps) bs) ≡ member b bs && eqb (interface_id device caps b) id
  unfolding lists_as member interface_on
  lists_as_in b id [] = refl
  lists_as_in b id (x ∷ bs) =
      case_eq x b
      (λ e.
      ap (λ (y : ℕ). (eqb y b && eqb (interface_id device caps y) id) || lists_as b id (map (interface_on device caps) bs)) e
      ∙ rw (eq-eqb b b refl, lists_as_in b id bs) (met (eqb (interface_id device caps b) id) (member b bs))
      ∙ ap (λ (t : Bool). (t || member b bs) && eqb (interface_id device caps b) id) (sym (eq-eqb b x (sym e))))
      (λ n. rw (ne_eqb x b n, ne_eqb b x (λ e. n (sym e)), lists_as_in b id bs))
    where
      met : (p t : Bool) → p || (t && p) ≡ (true || t) && p
      met true t = refl
      met false true = refl
      met false false = refl

  -- an interface of a bit that is listed, with this id
  pub lists_as_is : (listed b id : ℕ) → listed < 2 ^ 64 → lists_as b id (interfaces_on device caps listed) ≡ bit b listed && eqb (interface_id device caps b) id
  unfolding interfaces_on
  lists_as_is listed b id h = lists_as_in b id (bits_of listed) ∙ ap (λ (t : Bool). t && eqb (interface_id device caps b) id) (bits-member b listed h)

  lists_in : (b : ℕ) (bs : List ℕ) → lists b (map (interface_on device caps) bs) ≡ member b bs
  unfolding lists member interface_on
  lists_in b [] = refl
  lists_in b (x ∷ bs) = ap₂ (λ (s t : Bool). s || t) (case_eq x b (λ e. eq-eqb x b e ∙ sym (eq-eqb b x (sym e))) (λ n. ne_eqb x b n ∙ sym (ne_eqb b x (λ e. n (sym e))))) (lists_in b bs)

  pub lists_is : (listed b : ℕ) → listed < 2 ^ 64 → lists b (interfaces_on device caps listed) ≡ bit b listed
  unfolding interfaces_on
  lists_is listed b h = lists_in b (bits_of listed) ∙ bits-member b listed h

-- ---- a new device

from_map : (F : ℕ → Interface) (id : ℕ) (bs : List ℕ)
    → ((i : ℕ) → i < length bs → F (get_or bs i 0) ≡ record { capability = get_or bs i 0; id = id + i }) → map F bs ≡ interfaces_from id bs
unfolding interfaces_from
from_map F id [] h = refl
from_map F id (b ∷ bs) h =
    ap₂ (λ (x : Interface) (xs : List Interface). x ∷ xs)
    (h 0 (omega arith) ∙ (let z : id + 0 ≡ id = omega arith in λ t. record { capability = b; id = z t }))
    (from_map F (id + 1) bs
    (λ i l.
    let z : id + suc i ≡ id + 1 + i = omega arith in
    h (suc i) (omega arith) ∙ (λ t. record { capability = get_or bs i 0; id = z t })))

-- one interface for each capability, by ascending bit, with the ids that follow the device's, while they are 64 bits wide
pub new_interfaces_lem : (device caps : ℕ) → caps < 2 ^ 64 → device + 1 + length (bits_of caps) ≤ 2 ^ 64 → interfaces_on device caps caps ≡ new_interfaces device caps
unfolding interfaces_on new_interfaces interface_on interface_id
new_interfaces_lem device caps h room =
    from_map (interface_on device caps) (device + 1) (bits_of caps)
    (λ i l.
    let b : ℕ = get_or (bits_of caps) i 0 in
    let z : (device + 1 + bits_below caps b) % 2 ^ 64 ≡ device + 1 + i = omega (arith, bits_place caps i h l) in
    λ t. record { capability = b; id = z t })

from_length : (id : ℕ) (bs : List ℕ) → length (interfaces_from id bs) ≡ length bs
unfolding interfaces_from
from_length id [] = refl
from_length id (b ∷ bs) = ap suc (from_length (id + 1) bs)

-- how many ids a new device takes besides its own
pub new_length : (device caps : ℕ) → length (new_interfaces device caps) ≡ length (bits_of caps)
unfolding new_interfaces
new_length device caps = from_length (device + 1) (bits_of caps)

-- ---- a row's device

module _ (c : List ℕ) (k : ℕ) where
  pub core-interfaces : (core_at c k).interfaces ≡ interfaces_on (core_at c k).id (capabilities_at c k) (listed_at c k)
  unfolding core_at
  core-interfaces = refl

  pub listed_small : listed_at c k < 128
  listed_small = omega (arith, common-le (capabilities_at c k) (device_word c k 3) (omega arith))

  pub core-lists_as : (b id : ℕ) → lists_as b id (core_at c k).interfaces ≡ bit b (listed_at c k) && eqb (interface_id (core_at c k).id (capabilities_at c k) b) id
  core-lists_as b id = ap (lists_as b id) core-interfaces ∙ lists_as_is (core_at c k).id (capabilities_at c k) (listed_at c k) b id (omega (arith, listed_small))

  pub core-lists : (b : ℕ) → lists b (core_at c k).interfaces ≡ bit b (listed_at c k)
  core-lists b = ap (lists b) core-interfaces ∙ lists_is (core_at c k).id (capabilities_at c k) (listed_at c k) b (omega (arith, listed_small))

  -- the ids of its interfaces, in order of the bits
  pub core-ids : map (λ i. i.id) (core_at c k).interfaces ≡ map (interface_id (core_at c k).id (capabilities_at c k)) (bits_of (listed_at c k))
  unfolding interfaces_on interface_on
  core-ids = ap (map (λ i. i.id)) core-interfaces ∙ go (bits_of (listed_at c k))
    where
      go : (bs : List ℕ)
          → map (λ i. i.id) (map (interface_on (core_at c k).id (capabilities_at c k)) bs) ≡ map (interface_id (core_at c k).id (capabilities_at c k)) bs
      go [] = refl
      go (b ∷ bs) = ap (λ (xs : List ℕ). interface_id (core_at c k).id (capabilities_at c k) b ∷ xs) (go bs)
