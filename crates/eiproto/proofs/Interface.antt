-- The table of interfaces: its rows, and the search by name. Assumes nothing.
use Prim.Native.Nat.{ℕ, zero, suc, ◌+◌, ◌<◌}
use mathlib.Core.Path.{◌≡◌, refl, sym, ap, ap₂, ◌∙◌}
use mathlib.Core.Logic.{dite}
use mathlib.Core.Bool.{Bool, true, false, cond, ◌&&◌, false≢true}
use mathlib.Core.List.{List, [], ◌∷◌, map}
use mathlib.Core.Option.{Option, none, some}
use native.Mathlib.Omega.{arith}
use Rattle.std.proofs.Common.{nat_eq}
use Rattle.std.specs.Prelude.{Some}
use Rattle.std.specs.List.{find, range_with_len}
use Rattle.std.specs.Cmp.Lexicographic.{pointwise}
use Rattle.eiproto.specs.Told.{told}
use native.Mathlib.Decide.{dec_lt}
use borrow.Author.Tests.{eqb-true}
use lib.Dec.{eqb}
use lib.ListN.{length, get_or, get_or-map, get_or-eq_default}
use Rattle.eiproto.specs.declared.eiproto_eis.Interface.{Interface}
use Rattle.eiproto.specs.Interface.{Row, row, table, row_of, interfaces, interface_name, same_bytes, lookup_from, lookup}

-- within a list the default does not matter
get_d_any : {A : Type 0} (l : List A) (i : ℕ) (d e : A) → i < length l → get_or l i d ≡ get_or l i e
get_d_any [] i d e h = absurd (omega arith)
get_d_any (x ∷ l) zero d e h = refl
get_d_any (x ∷ l) (suc i) d e h = get_d_any l i d e (omega arith)

-- A table in code: where a column of it is a column of the rows, so is what it has at a number. Past the table a number has row 0's.
pub column : {A B : Type 0} (f : A → B) (g : Row → B) (l : List A) (d : A) (i : ℕ) → map f l ≡ map g table → i < 13 → f (get_or l i d) ≡ g (row_of i)
unfolding row_of
column {B = B} f g l d i e h =
    sym (get_or-map f l i d) ∙ ap (λ (bs : List B). get_or bs i (f d)) e ∙ get_d_any (map g table) i (f d) (g (row "" 0)) h ∙ get_or-map g table i (row "" 0)

-- the rows as the code's table has them, whose names lie at these places
abbrev pub lent : List (ℕ × ℕ) → List Row → List Interface
lent [] rs = []
lent (p ∷ ps) [] = []
lent (p ∷ ps) (r ∷ rs) = record { name = record { ref_ptr = p; now = r.name }; version = r.version } ∷ lent ps rs

pub past : (i : ℕ) → 12 < i → row "" 0 ≡ row_of i
unfolding row_of
past i h = sym (get_or-eq_default table (row "" 0) h)

-- `==` of two slices of bytes
pub same_is : (a b : List ℕ) → pointwise nat_eq a b ≡ same_bytes a b
unfolding same_bytes
same_is [] [] = refl
same_is [] (y ∷ ys) = refl
same_is (x ∷ xs) [] = refl
same_is (x ∷ xs) (y ∷ ys) = ap (λ (t : Bool). eqb x y && t) (same_is xs ys)

-- the search through the numbers from i on, of which each is tested by its row's name
looked : (test : ℕ → Bool) (name : List ℕ) (i : ℕ) (rs : List Row) → ((k : ℕ) → k < length rs → test (i + k) ≡ same_bytes (get_or rs k (row "" 0)).name name)
    → told (find test (range_with_len i (length rs))) ≡ lookup_from i rs name
unfolding lookup_from
looked test name i [] h = refl
looked test name i (r ∷ rs) h =
    let z : i + 0 ≡ i = omega arith in
    let first : test i ≡ same_bytes r.name name = ap test (sym z) ∙ h 0 (omega arith) in
    rw first (go (same_bytes r.name name) (looked test name (i + 1) rs (λ k l. let y : i + 1 + k ≡ i + suc k = omega arith in ap test y ∙ h (suc k) (omega arith))))
  where
    go : (t : Bool) → told (find test (range_with_len (i + 1) (length rs))) ≡ lookup_from (i + 1) rs name
        → told (cond t (Some i) (find test (range_with_len (i + 1) (length rs)))) ≡ cond t (some i) (lookup_from (i + 1) rs name)
    go true e = refl
    go false e = e

pub looked_up : (name : List ℕ) → told (find (λ i. pointwise nat_eq (interface_name i) name) (range_with_len 1 12)) ≡ lookup name
unfolding lookup interface_name row_of table
looked_up name =
    looked (λ i. pointwise nat_eq (interface_name i) name) name 1 interfaces
    (λ k l. let z : 1 + k ≡ suc k = omega arith in same_is (interface_name (1 + k)) name ∙ ap (λ (j : ℕ). same_bytes (get_or table j (row "" 0)).name name) z)

-- ---- what the search finds

both : (a b : Bool) → a && b ≡ true → (a ≡ true) × (b ≡ true)
both true b e = (refl, e)
both false b e = absurd (false≢true e)

-- a test that passes at every number below n
abbrev upto : (ℕ → Bool) → ℕ → Bool
upto f zero = true
upto f (suc n) = f n && upto f n

at : (f : ℕ → Bool) (n : ℕ) → upto f n ≡ true → (i : ℕ) → i < n → f i ≡ true
at f zero t i h = absurd (omega arith)
at f (suc n) t i h = go (both (f n) (upto f n) t) (λ u l. at f n u i l)
  where
    go : (f n ≡ true) × (upto f n ≡ true) → (upto f n ≡ true → i < n → f i ≡ true) → f i ≡ true
    go t rest = dite (dec_lt i n) (λ l. rest t.1 l) (λ m. let e : i ≡ n = omega arith in ap f e ∙ t.0)

abbrev is_number : ℕ → Option ℕ → Bool
is_number i none = eqb i 0
is_number i (some j) = eqb j i

-- Each row is found under its own name, so no two rows have the same name; the empty name is no row's.
tested : upto (λ i. is_number i (lookup (interface_name i))) 13 ≡ true
unfolding lookup interface_name
tested = refl

pub lookup-name : (i : ℕ) → 0 < i → i < 13 → lookup (interface_name i) ≡ some i
lookup-name i p h = go (lookup (interface_name i)) (at (λ i. is_number i (lookup (interface_name i))) 13 tested i h)
  where
    go : (o : Option ℕ) → is_number i o ≡ true → o ≡ some i
    go none e = absurd (omega (arith, eqb-true i 0 e))
    go (some j) e = ap some (eqb-true j i e)

same_eq : (a b : List ℕ) → same_bytes a b ≡ true → a ≡ b
unfolding same_bytes
same_eq [] [] e = refl
same_eq [] (y ∷ ys) e = absurd (false≢true e)
same_eq (x ∷ xs) [] e = absurd (false≢true e)
same_eq (x ∷ xs) (y ∷ ys) e =
    let t = both (eqb x y) (same_bytes xs ys) e in
    ap₂ (λ (z : ℕ) (l : List ℕ). z ∷ l) (eqb-true x y t.0) (same_eq xs ys t.1)

-- a number that is found among rows from number n on is that of a row with the name
abbrev Among : ℕ → List Row → List ℕ → ℕ → Type 0
Among n rs name i = (k : ℕ) × ((i ≡ n + k) × ((k < length rs) × ((get_or rs k (row "" 0)).name ≡ name)))

among : (n : ℕ) (rs : List Row) (name : List ℕ) (i : ℕ) → lookup_from n rs name ≡ some i → Among n rs name i
unfolding lookup_from
among n [] name i e = absurd (let z : ◌≡◌ {A = ℕ} 0 1 = cc in omega arith)
among n (r ∷ rs) name i e = go (same_bytes r.name name) refl e (λ f. among (n + 1) rs name i f)
  where
    go : (t : Bool) → same_bytes r.name name ≡ t → cond t (some n) (lookup_from (n + 1) rs name) ≡ some i
        → (lookup_from (n + 1) rs name ≡ some i → Among (n + 1) rs name i) → Among n (r ∷ rs) name i
    go true q e f = let z : n ≡ i = cc in (0, (omega arith, (omega arith, same_eq r.name name q)))
    go false q e f = let a = f e in (suc a.0, (omega (arith, a.1.0), (omega (arith, a.1.1.0), a.1.1.1)))

-- an interface that is found has the name
pub lookup-some : (name : List ℕ) (i : ℕ) → lookup name ≡ some i → (0 < i) × ((i < 13) × (interface_name i ≡ name))
unfolding lookup interface_name row_of table
lookup-some name i e =
    let a = among 1 interfaces name i e in
    let z : i ≡ suc a.0 = omega (arith, a.1.0) in
    (omega arith, (omega (arith, a.1.1.0), ap (λ (j : ℕ). (get_or table j (row "" 0)).name) z ∙ a.1.1.1))
