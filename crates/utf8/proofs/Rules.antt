-- Which alternative of UTF8-char an octet begins. Assumes nothing.
use Prim.Native.Nat.{ℕ, ◌≤◌, ◌<◌}
use mathlib.Core.Path.{◌≡◌, refl, ap}
use mathlib.Core.Bool.{Bool, true, false, ◌&&◌, ◌||◌, cond, and-false}
use mathlib.Core.List.{List, [], ◌∷◌, map, Memᴰ}
use mathlib.Core.Option.{Option, none, some}
use native.Mathlib.Omega.{arith}
use borrow.Author.Tests.{leb-true, ltb-true, le-leb, lt-leb}
use lib.Dec.{leb, ltb}
use Rattle.utf8.specs.Rfc3629.{Range, Rule, utf8_char, within, after}

-- what no test says
pub never : {P : Type 0} → false ≡ true → P
never e = let z : ◌≡◌ {A = ℕ} 0 1 = ap (λ b. cond b 1 0) e in absurd (omega arith)

pub never_some : {A P : Type 0} {a : A} → none ≡ some a → P
never_some e = let z : ◌≡◌ {A = ℕ} 0 1 = cc in absurd (omega arith)

pub and_left : (a b : Bool) → a && b ≡ true → a ≡ true
and_left true b e = refl
and_left false b e = e

pub and_right : (a b : Bool) → a && b ≡ true → b ≡ true
and_right true b e = e
and_right false b e = never e

-- the test of one octet, and what it says
module _ (r : Range) (x : ℕ) where
  pub inside : r.0 ≤ x → x ≤ r.1 → within r x ≡ true
  unfolding within
  inside a b = rw (le-leb r.0 x a, le-leb x r.1 b)

  pub below : x < r.0 → within r x ≡ false
  unfolding within
  below a = rw (lt-leb r.0 x a)

  pub above : r.1 < x → within r x ≡ false
  unfolding within
  above a = rw (lt-leb x r.1 a) (and-false (leb r.0 x))

  pub from_low : within r x ≡ true → r.0 ≤ x
  unfolding within
  from_low e = leb-true r.0 x (and_left (leb r.0 x) (leb x r.1) e)

  pub to_high : within r x ≡ true → x ≤ r.1
  unfolding within
  to_high e = leb-true x r.1 (and_right (leb r.0 x) (leb x r.1) e)

-- what begins with any octet from lo to hi, where that is the same for all of them
unfoldable pub decides : ℕ → ℕ → Rule → Option (Option (List Range))
decides lo hi [] = some none
decides lo hi ([] ∷ rule) = decides lo hi rule
decides lo hi ((r ∷ rs) ∷ rule) =
    cond (leb r.0 lo && leb hi r.1) (some (some rs))
    (cond (ltb r.1 lo || ltb hi r.0) (decides lo hi rule) none)

module _ (lo hi x : ℕ) (from : lo ≤ x) (to : x ≤ hi) (o : Option (List Range)) where
  outside : (r : Range) (p q : Bool) → ltb r.1 lo ≡ p → ltb hi r.0 ≡ q → p || q ≡ true → within r x ≡ false
  outside r true q e f g = let h = ltb-true r.1 lo e in above r x (omega arith)
  outside r false true e f g = let h = ltb-true hi r.0 f in below r x (omega arith)
  outside r false false e f g = never g

  pub decided : (rule : Rule) → decides lo hi rule ≡ some o → after rule x ≡ o
  unfolding decides after
  decided [] e = cc
  decided ([] ∷ rule) e = decided rule e
  decided ((r ∷ rs) ∷ rule) e =
      step (leb r.0 lo && leb hi r.1) (ltb r.1 lo || ltb hi r.0) refl refl (λ h. decided rule h) e
    where
      step : (p q : Bool) → (leb r.0 lo && leb hi r.1) ≡ p → (ltb r.1 lo || ltb hi r.0) ≡ q → (decides lo hi rule ≡ some o → after rule x ≡ o)
          → cond p (some (some rs)) (cond q (decides lo hi rule) none) ≡ some o → cond (within r x) (some rs) (after rule x) ≡ o
      step true q f g rec h =
          let a = leb-true r.0 lo (and_left (leb r.0 lo) (leb hi r.1) f) in
          let b = leb-true hi r.1 (and_right (leb r.0 lo) (leb hi r.1) f) in
          rw (inside r x (omega arith) (omega arith)) (cc)
      step false true f g rec h = rw (outside r (ltb r.1 lo) (ltb hi r.0) refl refl g) (rec h)
      step false false f g rec h = never_some h

-- the alternative that an octet begins
abbrev pub Begun : Rule → ℕ → List Range → Type 0
Begun rule x rs = (r : Range) × Memᴰ (r ∷ rs) rule × (within r x ≡ true)

pub begun : (rule : Rule) (x : ℕ) (rs : List Range) → after rule x ≡ some rs → Begun rule x rs
unfolding after
begun [] x rs e = never_some e
begun ([] ∷ rule) x rs e = let k = begun rule x rs e in (k.0, Memᴰ.tail k.1, k.2)
begun ((r ∷ ts) ∷ rule) x rs e = step (within r x) refl (λ h. begun rule x rs h) e
  where
    step : (b : Bool) → within r x ≡ b → (after rule x ≡ some rs → Begun rule x rs) → cond b (some ts) (after rule x) ≡ some rs → Begun ((r ∷ ts) ∷ rule) x rs
    step true f rec h = let e : r ∷ rs ≡ r ∷ ts = cc in (r, Memᴰ.head e, f)
    step false f rec h = let k = rec h in (k.0, Memᴰ.tail k.1, k.2)

-- what a computed test says of a whole table, it says of each entry
at_each : {A B : Type 0} (f g : A → B) (l : List A) {a : A} → map f l ≡ map g l → Memᴰ a l → f a ≡ g a
at_each {A = A} {B = B} f g [] {a = a} e m = elim m [ ]
at_each f g (x ∷ l) e (Memᴰ.head h) = cc
at_each f g (x ∷ l) e (Memᴰ.tail m) = at_each f g l (cc) m

-- no two alternatives begin with the same octet
abbrev first_of : List Range → Option (Option (List Range))
first_of [] = none
first_of (r ∷ rs) = decides r.0 r.1 utf8_char

abbrev rest_of : List Range → Option (Option (List Range))
rest_of [] = none
rest_of (r ∷ rs) = some (some rs)

pub alone : (r : Range) (rs : List Range) (x : ℕ) → Memᴰ (r ∷ rs) utf8_char → r.0 ≤ x → x ≤ r.1 → after utf8_char x ≡ some rs
unfolding decides utf8_char
alone r rs x m a b = decided r.0 r.1 x a b (some rs) utf8_char (at_each first_of rest_of utf8_char refl m)

-- the octets that follow a first one are UTF8-tail, or some of them
unfoldable pub tails : List Range → Bool
tails [] = true
tails (r ∷ rs) = leb 0x80 r.0 && (leb r.1 0xBF && tails rs)

abbrev shaped : List Range → Bool
shaped [] = false
shaped (r ∷ rs) = leb r.1 0xFF && tails rs

pub shape : (r : Range) (rs : List Range) → Memᴰ (r ∷ rs) utf8_char → leb r.1 0xFF && tails rs ≡ true
unfolding tails utf8_char
shape r rs m = at_each shaped (λ _. true) utf8_char refl m
