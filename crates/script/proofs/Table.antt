-- The table: its rows as the definitions have them, and the search by the first word. Assumes nothing.
use Prim.Native.Nat.{ℕ, zero, suc, ◌+◌, ◌≤◌, ◌<◌}
use mathlib.Core.Path.{◌≡◌, refl, sym, ap, ◌∙◌}
use mathlib.Core.Bool.{Bool, true, false, cond, ◌&&◌, false≢true}
use mathlib.Core.List.{List, [], ◌∷◌, map}
use mathlib.Core.Option as math
use native.Mathlib.Omega.{arith}
use borrow.Author.Tests.{leb-true}
use lib.Dec.{leb}
use lib.ListN.{length, get_or, length-map, get_or-map}
use Rattle.std.specs.Prelude.{Some, None, slice_get, position}
use Rattle.std.specs.Str.{bytes_eq}
use Rattle.std.specs.List.{position_from}
use Rattle.std.proofs.lemmas.Iterator.Adapters.{position_from-zero}
use Rattle.script.specs.declared.verb.Verb.TheVariants.{Now}
use Rattle.script.specs.declared.verb.Verb.{Verb}
use Rattle.script.specs.declared.verb.Kind.{Kind}
use Rattle.script.specs.declared.verb.TheConstants.{ROWS}
use Rattle.eiproto.specs.Told.{told}
use Rattle.script.specs.Verbs.{Entry, Row, entry_of, row, table, row_at, kind_in, kinds_of, lookup_from, lookup, kind_at}
use Rattle.script.proofs.Words.{same_is}

abbrev Stored : Type 0
Stored = record { now : List ℕ } × Verb × record { now : List Kind }

abbrev told_of : Stored → Entry
told_of r = record { name = r.0.now; verb = r.1; kinds = r.2.now }

entries : map told_of ROWS ≡ table
unfolding table row
entries = refl

-- ---- a row by its number

abbrev every : {A : Type 0} → (A → Bool) → List A → Bool
every f [] = true
every f (x ∷ xs) = f x && every f xs

both : (a b : Bool) → a && b ≡ true → (a ≡ true) × (b ≡ true)
both true b e = (refl, e)
both false b e = absurd (false≢true e)

at : {A : Type 0} (f : A → Bool) (l : List A) (d : A) → every f l ≡ true → (i : ℕ) → i < length l → f (get_or l i d) ≡ true
at f [] d t i h = absurd (omega arith)
at f (x ∷ xs) d t zero h = (both (f x) (every f xs) t).0
at f (x ∷ xs) d t (suc i) h = at f xs d (both (f x) (every f xs) t).1 i (omega arith)

few : every (λ e. leb (length e.kinds) 4) table ≡ true
unfolding table row
few = refl

module _ (i : ℕ) (h : i < 59) where
  pub row-kinds : (r : Bool) → length (kinds_of r (row_at i)) ≤ 4
  unfolding row_at table
  row-kinds r =
      omega (
        arith,
        length-map (row_at i).kinds (kind_in r),
        leb-true (length (row_at i).kinds) 4 (at (λ e. leb (length e.kinds) 4) table (row "" Now []) few i h),
      )

get_d_any : {A : Type 0} (l : List A) (i : ℕ) (d e : A) → i < length l → get_or l i d ≡ get_or l i e
get_d_any [] i d e h = absurd (omega arith)
get_d_any (x ∷ l) zero d e h = refl
get_d_any (x ∷ l) (suc i) d e h = get_d_any l i d e (omega arith)

pub row_within : (l : List Row) (i : ℕ) → map entry_of l ≡ table → i < 59 → i < length l
unfolding table
row_within l i e h = omega (arith, ap length e, length-map l entry_of)

pub row_is : (l : List Row) (i : ℕ) (d : Row) → map entry_of l ≡ table → i < 59 → entry_of (get_or l i d) ≡ row_at i
unfolding row_at table
row_is l i d e h =
    let n : i < length (map entry_of l) = omega (arith, ap length e) in
    sym (get_or-map entry_of l i d) ∙ get_d_any (map entry_of l) i (entry_of d) (row "" Now []) n
    ∙ ap (λ (m : List Entry). get_or m i (row "" Now [])) e

-- ---- the kind at a place

kinds_none : (r : Bool) (ks : List Kind) (p : ℕ) → length ks ≤ p → None ≡ slice_get (map (kind_in r) ks) p
kinds_none r [] p h = refl
kinds_none r (k ∷ ks) zero h = absurd (omega arith)
kinds_none r (k ∷ ks) (suc p) h = kinds_none r ks p (omega arith)

kinds_some : (r : Bool) (ks : List Kind) (p : ℕ) (d : Kind) → p < length ks → Some (kind_in r (get_or ks p d)) ≡ slice_get (map (kind_in r) ks) p
kinds_some r [] p d h = absurd (omega arith)
kinds_some r (k ∷ ks) zero d h = refl
kinds_some r (k ∷ ks) (suc p) d h = kinds_some r ks p d (omega arith)

module _ (x : Row) (i : ℕ) (e : entry_of x ≡ row_at i) (r : Bool) (p : ℕ) where
  pub kind_none : length x.2.now ≤ p → None ≡ kind_at p (kinds_of r (row_at i))
  kind_none h = kinds_none r x.2.now p h ∙ ap (λ (y : Entry). slice_get (map (kind_in r) y.kinds) p) e

  pub kind_some : (d k : Kind) → k ≡ kind_in r (get_or x.2.now p d) → p < length x.2.now → Some k ≡ kind_at p (kinds_of r (row_at i))
  kind_some d k q h =
      ap Some q ∙ kinds_some r x.2.now p d h ∙ ap (λ (y : Entry). slice_get (map (kind_in r) y.kinds) p) e

-- ---- the search

module _ (word : List ℕ) where
  search_from : (rs : List Stored) (n : ℕ) → lookup_from n (map told_of rs) word ≡ told (position_from (λ r. bytes_eq r.0.now word) n rs)
  unfolding lookup_from
  search_from [] n = refl
  search_from (r ∷ rs) n = rw (← same_is r.0.now word) (go (bytes_eq r.0.now word) (search_from rs (n + 1)))
    where
      go : (t : Bool) → lookup_from (n + 1) (map told_of rs) word ≡ told (position_from (λ r. bytes_eq r.0.now word) (n + 1) rs)
          → cond t (math.some n) (lookup_from (n + 1) (map told_of rs) word)
          ≡ told (cond t (Some n) (position_from (λ r. bytes_eq r.0.now word) (n + 1) rs))
      go true e = refl
      go false e = e

  pub searched : told (position (λ r. bytes_eq r.0.now word) ROWS) ≡ lookup word
  unfolding lookup
  searched =
      ap told (position_from-zero (λ r. bytes_eq r.0.now word) ROWS)
      ∙ sym (ap (λ (l : List Entry). lookup_from 0 l word) (sym entries) ∙ search_from ROWS 0)
