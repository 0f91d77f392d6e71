-- What callers may count on: how valid texts are joined and split, ASCII, and the size of an octet. Assumes nothing.
use Prim.Native.Nat.{ℕ, zero, suc, ◌<◌}
use mathlib.Core.Path.{◌≡◌, refl, sym, ◌∙◌}
use mathlib.Core.Bool.{true, ◌&&◌}
use mathlib.Core.List.{List, [], ◌∷◌, ◌++◌}
use mathlib.Core.Option.{Option, none, some}
use native.Mathlib.Omega.{arith}
use borrow.Author.Tests.{leb-true}
use lib.Dec.{leb}
use lib.ListN.{length, get_or}
use Rattle.utf8.specs.Rfc3629.{Range, utf8_tail, utf8_char, within, after, on, goes_on, is_utf8, boundary}
use Rattle.utf8.proofs.Rules.{never, and_left, and_right, inside, from_low, to_high, decides, decided, begun, tails, shape}

-- after the rest of a character and whole characters, another begins
pub joined : (rs : List Range) (a b : List ℕ) → goes_on rs a ≡ true → goes_on rs (a ++ b) ≡ goes_on [] b
unfolding goes_on
joined [] [] b h = refl
joined (r ∷ rs) [] b h = never h
joined [] (x ∷ a) b h = step (after utf8_char x) (λ rs. joined rs a b) h
  where
    step : (o : Option (List Range)) → ((rs : List Range) → goes_on rs a ≡ true → goes_on rs (a ++ b) ≡ goes_on [] b) → on o (λ rs. goes_on rs a) ≡ true
        → on o (λ rs. goes_on rs (a ++ b)) ≡ goes_on [] b
    step none rec h = never h
    step (some rs) rec h = rec rs h
joined (r ∷ rs) (x ∷ a) b h = rw (and_left (within r x) (goes_on rs a) h) (joined rs a b (and_right (within r x) (goes_on rs a) h))

-- the ranges that follow the octet x
tails-after : (x : ℕ) (rs : List Range) → after utf8_char x ≡ some rs → tails rs ≡ true
tails-after x rs e = let k = begun utf8_char x rs e in and_right (leb k.0.1 0xFF) (tails rs) (shape k.0 rs k.1)

-- what lies in one of them is a UTF8-tail
tail : (r : Range) (rs : List Range) (x : ℕ) → tails (r ∷ rs) ≡ true → within r x ≡ true → within utf8_tail x ≡ true
unfolding tails utf8_tail
tail r rs x t h =
    let t' = and_right (leb 0x80 r.0) (leb r.1 0xBF && tails rs) t in
    let a = leb-true 0x80 r.0 (and_left (leb 0x80 r.0) (leb r.1 0xBF && tails rs) t) in
    let b = leb-true r.1 0xBF (and_left (leb r.1 0xBF) (tails rs) t') in
    let c = from_low r x h in
    let d = to_high r x h in
    inside utf8_tail x (omega arith) (omega arith)

more : (r : Range) (rs : List Range) → tails (r ∷ rs) ≡ true → tails rs ≡ true
unfolding tails
more r rs t = and_right (leb r.1 0xBF) (tails rs) (and_right (leb 0x80 r.0) (leb r.1 0xBF && tails rs) t)

-- a boundary does not lie within a character
parted : (rs : List Range) (a b : List ℕ) → tails rs ≡ true → boundary b ≡ true → goes_on rs (a ++ b) ≡ true → goes_on rs a ≡ true
unfolding goes_on boundary
parted [] [] b t s h = refl
parted (r ∷ rs) [] [] t s h = h
parted (r ∷ rs) [] (x ∷ b) t s h = never (rw (tail r rs x t (and_left (within r x) (goes_on rs b) h)) at s)
parted [] (x ∷ a) b t s h = step (after utf8_char x) refl (λ rs u. parted rs a b u s) h
  where
    step : (o : Option (List Range)) → after utf8_char x ≡ o → ((rs : List Range) → tails rs ≡ true → goes_on rs (a ++ b) ≡ true → goes_on rs a ≡ true)
        → on o (λ rs. goes_on rs (a ++ b)) ≡ true → on o (λ rs. goes_on rs a) ≡ true
    step none e rec h = h
    step (some rs) e rec h = rec rs (tails-after x rs e) h
parted (r ∷ rs) (x ∷ a) b t s h =
    rw (and_left (within r x) (goes_on rs (a ++ b)) h) (parted rs a b (more r rs t) s (and_right (within r x) (goes_on rs (a ++ b)) h))

-- each octet lies in a range that ends below 256
small : (rs : List Range) (l : List ℕ) → tails rs ≡ true → goes_on rs l ≡ true → (k : ℕ) → k < length l → get_or l k 0 < 256
unfolding goes_on
small [] [] t h k i = omega (arith, i)
small (r ∷ rs) [] t h k i = never h
small [] (x ∷ l) t h k i = step (after utf8_char x) refl (λ rs u. small rs l u) h k i
  where
    first : (rs : List Range) → after utf8_char x ≡ some rs → x < 256
    first rs e =
        let m = begun utf8_char x rs e in
        let a = leb-true m.0.1 0xFF (and_left (leb m.0.1 0xFF) (tails rs) (shape m.0 rs m.1)) in
        let b = to_high m.0 x m.2 in
        omega arith

    step : (o : Option (List Range)) → after utf8_char x ≡ o → ((rs : List Range) → tails rs ≡ true → goes_on rs l ≡ true → (k : ℕ) → k < length l → get_or l k 0 < 256)
        → on o (λ rs. goes_on rs l) ≡ true → (k : ℕ) → k < length (x ∷ l) → get_or (x ∷ l) k 0 < 256
    step none e rec h k i = never h
    step (some rs) e rec h zero i = first rs e
    step (some rs) e rec h (suc k) i = rec rs (tails-after x rs e) h k (omega (arith, i))
small (r ∷ rs) (x ∷ l) t h zero i =
    let a = to_high utf8_tail x (tail r rs x t (and_left (within r x) (goes_on rs l) h)) in
    omega arith
small (r ∷ rs) (x ∷ l) t h (suc k) i = small rs l (more r rs t) (and_right (within r x) (goes_on rs l) h) k (omega (arith, i))

-- ASCII is UTF-8
pub ascii : (l : List ℕ) → ((k : ℕ) → k < length l → get_or l k 0 < 128) → is_utf8 l ≡ true
unfolding is_utf8 decides
ascii [] h = refl
ascii (x ∷ l) h =
    let a = h 0 (omega arith) in
    rw (decided 0 127 x (omega arith) (omega arith) (some []) utf8_char refl) (ascii l (λ k i. h (suc k) (omega arith)))

-- behind a valid text, it is what follows that decides
pub append : (a b : List ℕ) → is_utf8 a ≡ true → is_utf8 (a ++ b) ≡ is_utf8 b
unfolding is_utf8
append a b h = joined [] a b h

-- valid texts joined are valid
pub join : (a b : List ℕ) → is_utf8 a ≡ true → is_utf8 b ≡ true → is_utf8 (a ++ b) ≡ true
join a b h k = append a b h ∙ k

-- a valid text without a valid beginning is valid
pub rest : (a b : List ℕ) → is_utf8 (a ++ b) ≡ true → is_utf8 a ≡ true → is_utf8 b ≡ true
rest a b h k = sym (append a b k) ∙ h

-- a valid text is split at a boundary into valid texts
pub split : (a b : List ℕ) → boundary b ≡ true → is_utf8 (a ++ b) ≡ true → (is_utf8 a ≡ true) × (is_utf8 b ≡ true)
unfolding is_utf8 tails
split a b s h = let k = parted [] a b refl s h in (k, rest a b h k)

-- a valid text is made of octets
pub octets : (l : List ℕ) → is_utf8 l ≡ true → (k : ℕ) → k < length l → get_or l k 0 < 256
unfolding is_utf8 tails
octets l h = small [] l refl h
