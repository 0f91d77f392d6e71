-- The records that slices hold: how many, each within the slices and at its place, and whether each is a request's. Assumes nothing.
use Prim.Native.Nat.{ℕ, ◌+◌, ◌*◌, ◌<◌}
use mathlib.Core.Path.{◌≡◌, refl, sym, ap, ◌∙◌}
use mathlib.Core.Bool.{Bool, true, false, ◌&&◌, false≢true}
use mathlib.Core.List.{List, [], ◌∷◌, map}
use native.Mathlib.Omega.{arith}
use native.Mathlib.Numerals.{add-one}
use borrow.Author.Tests.{eq-eqb, ne_eqb}
use lib.Ieee.{Float}
use lib.ListN.{get_or, length, length-map}
use Rattle.eiproto.specs.Bits.{every}
use Rattle.eiproto.proofs.Bits.{every_append, every_at}
use Rattle.control.specs.Table.{tab}
use Rattle.control.proofs.Tables.{tab-length, tab_at, tab-append}
use Rattle.reads.specs.Record.{entry_of}
use Rattle.reads.specs.declared.record.RequestRecord.{RequestRecord}
use Rattle.lent_read.specs.Numbers.{is_request, record_words, record_reals, Within, record_count, cell_at, record_at, records_in, are_requests}

-- a test of the first values of a function
module _ {A : Type 0} (f : A → Bool) (g : ℕ → A) where
  pub one_passes : (i : ℕ) → every f (tab i g) ≡ true → f (g i) ≡ true → every f (tab (i + 1) g) ≡ true
  unfolding every
  one_passes i e h =
      ap (λ (k : ℕ). every f (tab k g)) (add-one i) ∙ ap (every f) (tab-append i g) ∙ every_append f (tab i g) (g i ∷ []) ∙ rw (e, h)

  pub one_fails : (n i : ℕ) → i < n → f (g i) ≡ false → every f (tab n g) ≡ false
  one_fails n i l h = by_test (every f (tab n g)) refl
    where
      by_test : (y : Bool) → every f (tab n g) ≡ y → every f (tab n g) ≡ false
      by_test true e = absurd (false≢true (sym h ∙ ap f (sym (tab_at n g i (g i) l)) ∙ every_at f (tab n g) i (g i) e (rw (tab-length n g) l)))
      by_test false e = e

right_fails : (x : Bool) → x && false ≡ false
right_fails true = refl
right_fails false = refl

module _ (records : List ℕ) (points : List Float) where
  pub long : length (records_in records points) ≡ record_count records points
  unfolding records_in
  long = tab-length (record_count records points) (record_at records points)

  pub entries-long : (lent : List ℕ) → length (map (entry_of lent) (records_in records points)) ≡ record_count records points
  entries-long lent = length-map (records_in records points) (entry_of lent) ∙ long

  pub within : (i : ℕ) → i < record_count records points → Within records points i
  within i l = (omega arith, omega arith)

  pub here : (i : ℕ) (x : RequestRecord) → i < record_count records points → x ≡ record_at records points i → x ≡ get_or (records_in records points) i x
  unfolding records_in
  here i x l e = e ∙ sym (tab_at (record_count records points) (record_at records points) i x l)

  -- ---- what the tests tell

  pub words_left : (length records ≡ record_count records points * record_words → ⊥) → false ≡ are_requests records points
  unfolding are_requests
  words_left h = rw (ne_eqb (length records) (record_count records points * record_words) h)

  pub reals-left : (length points ≡ record_count records points * record_reals → ⊥) → false ≡ are_requests records points
  unfolding are_requests
  reals-left h = rw (ne_eqb (length points) (record_count records points * record_reals) h, right_fails)

  pub not-request : (i : ℕ) → i < record_count records points → is_request (cell_at records points i) ≡ false → false ≡ are_requests records points
  unfolding are_requests
  not-request i l h = rw (one_fails is_request (cell_at records points) (record_count records points) i l h, right_fails)

  pub all_requests : length records ≡ record_count records points * record_words → length points ≡ record_count records points * record_reals
      → every is_request (tab (record_count records points) (cell_at records points)) ≡ true → true ≡ are_requests records points
  unfolding are_requests
  all_requests w r e =
      rw (eq-eqb (length records) (record_count records points * record_words) w, eq-eqb (length points) (record_count records points * record_reals) r, e)
