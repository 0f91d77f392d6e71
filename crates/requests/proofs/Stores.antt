-- What a row of values that was put leaves; that of a cell; and what a put means. Assumes nothing.
use Prim.Native.Nat.{ℕ, ◌+◌, ◌*◌, ◌≤◌, ◌<◌}
use mathlib.Core.Path.{◌≡◌, refl, ap, ◌∙◌}
use mathlib.Core.List.{List, [], ◌∷◌}
use native.Mathlib.Omega.{arith}
use native.Mathlib.Decide.{dec_lt}
use mathlib.Core.Logic.{dite}
use lib.Ieee.{Float, nan}
use lib.ListN.{get_or}
use Rattle.requests.specs.declared.cell.Cell.{Cell}
use Rattle.requests.specs.Row.{row_words, row_reals, Put, PutRow, cell_at}

-- in the row stands what was put there
pub at : {A : Type 0} {n i : ℕ} {values before after : List A} → PutRow n i values before after → (j k : ℕ) (d : A) → j < n → k ≡ i * n + j → get_or after k d ≡ get_or values j d
at p j k d l e = rw e (p.here j d l)

-- a place within another row lies below the row's own or above
pub elsewhere : {A : Type 0} {n i : ℕ} {values before after : List A} → PutRow n i values before after → (m k : ℕ) (d : A) → (m ≡ i → ⊥) → m * n ≤ k → k < m * n + n → get_or after k d ≡ get_or before k d
elsewhere {n = n} {i = i} p m k d h l u =
    dite (dec_lt m i)
    (λ b. p.below k d (let e : m * n + n ≤ i * n = grind arith in omega arith))
    (λ b. p.above k d (let e : i * n + n ≤ m * n = grind arith in omega arith))

-- the words and the reals of a row were put
pub written : (words words' : List ℕ) (reals reals' : List Float) (i : ℕ) (c : Cell)
    → PutRow row_words i (c.kind ∷ c.object ∷ c.time ∷ c.extra ∷ c.flag ∷ []) words words'
    → PutRow row_reals i (c.x ∷ c.y ∷ []) reals reals'
    → Put (cell_at words reals) (cell_at words' reals') i c
unfolding cell_at
written words words' reals reals' i c w r =
    record {
      here = λ t. record {
        kind = at w 0 (i * row_words) 0 (omega arith) (omega arith) t;
        object = at w 1 (i * row_words + 1) 0 (omega arith) refl t;
        time = at w 2 (i * row_words + 2) 0 (omega arith) refl t;
        extra = at w 3 (i * row_words + 3) 0 (omega arith) refl t;
        flag = at w 4 (i * row_words + 4) 0 (omega arith) refl t;
        x = at r 0 (i * row_reals) nan (omega arith) (omega arith) t;
        y = at r 1 (i * row_reals + 1) nan (omega arith) refl t;
      };
      other = λ m n t. record {
        kind = elsewhere w m (m * row_words) 0 n (omega arith) (omega arith) t;
        object = elsewhere w m (m * row_words + 1) 0 n (omega arith) (omega arith) t;
        time = elsewhere w m (m * row_words + 2) 0 n (omega arith) (omega arith) t;
        extra = elsewhere w m (m * row_words + 3) 0 n (omega arith) (omega arith) t;
        flag = elsewhere w m (m * row_words + 4) 0 n (omega arith) (omega arith) t;
        x = elsewhere r m (m * row_reals) nan n (omega arith) (omega arith) t;
        y = elsewhere r m (m * row_reals + 1) nan n (omega arith) (omega arith) t;
      };
    }

-- a put into a table is one into the table of what its values mean
pub mapped : {A B : Type 0} (f : A → B) {before after : ℕ → A} {i : ℕ} {a : A} {b : B} → Put before after i a → f a ≡ b → Put (λ j. f (before j)) (λ j. f (after j)) i b
mapped f p e = record { here = ap f p.here ∙ e; other = λ j n. ap f (p.other j n) }
