-- Lists that are read off a table, slot by slot. Assumes nothing.
use Rattle.std.proofs.Common.{◌≡◌, ℕ, zero, suc, ◌+◌, ◌<◌, ◌≤◌, Bool, true, false, List, [], ◌∷◌, ◌++◌, map, length, get_or, set, refl, ap, ◌∙◌, ap₂, arith}
use mathlib.Core.Logic.{dite}
use mathlib.Core.Option.{none, some}
use native.Mathlib.Decide.{dec_lt}
use Rattle.control.specs.Table.{tab, cut_at, map_option, first}

pub case_eq : {P : Type 0} (a b : ℕ) → (a ≡ b → P) → ((a ≡ b → ⊥) → P) → P
case_eq a b f g = dite (dec_lt a b) (λ l. g (λ e. omega arith)) (λ m. dite (dec_lt b a) (λ l. g (λ e. omega arith)) (λ n. f (omega arith)))

module _ {A : Type 0} where
  pub tab_ext : (n : ℕ) (f g : ℕ → A) → ((j : ℕ) → j < n → f j ≡ g j) → tab n f ≡ tab n g
  unfolding tab
  tab_ext zero f g h = refl
  tab_ext (suc n) f g h =
      ap₂ (λ (x : A) (xs : List A). x ∷ xs) (h 0 (omega arith)) (tab_ext n (λ j. f (suc j)) (λ j. g (suc j)) (λ j l. h (suc j) (omega arith)))

  -- two tables that agree
  pub tab_same : (n m : ℕ) (f g : ℕ → A) → n ≡ m → ((j : ℕ) → j < n → f j ≡ g j) → tab n f ≡ tab m g
  tab_same n m f g e h = tab_ext n f g h ∙ ap (λ (k : ℕ). tab k g) e

  pub tab-length : (n : ℕ) (f : ℕ → A) → length (tab n f) ≡ n
  unfolding tab
  tab-length zero f = refl
  tab-length (suc n) f = ap suc (tab-length n (λ j. f (suc j)))

  pub tab_at : (n : ℕ) (f : ℕ → A) (i : ℕ) (d : A) → i < n → get_or (tab n f) i d ≡ f i
  unfolding tab
  tab_at zero f i d h = absurd (omega arith)
  tab_at (suc n) f zero d h = refl
  tab_at (suc n) f (suc i) d h = tab_at n (λ j. f (suc j)) i d (omega arith)

  pub tab-append : (n : ℕ) (f : ℕ → A) → tab (suc n) f ≡ tab n f ++ (f n ∷ [])
  unfolding tab
  tab-append zero f = refl
  tab-append (suc n) f = ap (λ (xs : List A). f 0 ∷ xs) (tab-append n (λ j. f (suc j)))

  -- one more at the end, the others as they were
  pub tab_push : (n m : ℕ) (f g : ℕ → A) (a : A) → m ≡ n + 1 → g n ≡ a → ((j : ℕ) → j < n → g j ≡ f j) → tab m g ≡ tab n f ++ (a ∷ [])
  tab_push n m f g a e here h =
      let k : m ≡ suc n = omega arith in
      ap (λ (x : ℕ). tab x g) k ∙ tab-append n g ∙ ap₂ (λ (xs : List A) (x : A). xs ++ (x ∷ [])) (tab_ext n g f h) here

  -- slot i changed
  pub tab-set : (n i : ℕ) (f g : ℕ → A) (a : A) → i < n → g i ≡ a → ((j : ℕ) → j < n → (j ≡ i → ⊥) → g j ≡ f j) → tab n g ≡ set (tab n f) i a
  unfolding tab
  tab-set zero i f g a l e h = absurd (omega arith)
  tab-set (suc n) zero f g a l e h =
      ap₂ (λ (x : A) (xs : List A). x ∷ xs) e (tab_ext n (λ j. g (suc j)) (λ j. f (suc j)) (λ j q. h (suc j) (omega arith) (λ z. omega arith)))
  tab-set (suc n) (suc i) f g a l e h =
      ap₂ (λ (x : A) (xs : List A). x ∷ xs) (h 0 (omega arith) (λ z. omega arith))
      (tab-set n i (λ j. f (suc j)) (λ j. g (suc j)) a (omega arith) e (λ j q z. h (suc j) (omega arith) (λ w. z (omega arith))))

  -- slot k taken out, those behind it moved down
  pub tab_cut : (n m k : ℕ) (f g : ℕ → A) → n ≡ m + 1 → k < n → ((j : ℕ) → j < k → g j ≡ f j) → ((j : ℕ) → k ≤ j → j < m → g j ≡ f (suc j))
      → tab m g ≡ cut_at k (tab n f)
  unfolding tab cut_at
  tab_cut zero m k f g e l a b = absurd (omega arith)
  tab_cut (suc n) m zero f g e l a b = tab_same m n g (λ j. f (suc j)) (omega arith) (λ j q. b j (omega arith) q)
  tab_cut (suc n) zero (suc k) f g e l a b = absurd (omega arith)
  tab_cut (suc n) (suc m) (suc k) f g e l a b =
      ap₂ (λ (x : A) (xs : List A). x ∷ xs) (a 0 (omega arith))
      (tab_cut n m k (λ j. f (suc j)) (λ j. g (suc j)) (omega arith) (omega arith) (λ j q. a (suc j) (omega arith))
      (λ j q r. b (suc j) (omega arith) (omega arith)))

  -- the first of which a test holds
  pub tab-first : (t : A → Bool) (n k : ℕ) (f : ℕ → A) → k < n → t (f k) ≡ true → ((j : ℕ) → j < k → t (f j) ≡ false) → first t (tab n f) ≡ some k
  unfolding tab first map_option
  tab-first t zero k f l e h = absurd (omega arith)
  tab-first t (suc n) zero f l e h = rw e
  tab-first t (suc n) (suc k) f l e h =
      rw (h 0 (omega arith)) (ap (map_option (λ j. suc j)) (tab-first t n k (λ j. f (suc j)) (omega arith) e (λ j q. h (suc j) (omega arith))))

  pub tab-first-none : (t : A → Bool) (n : ℕ) (f : ℕ → A) → ((j : ℕ) → j < n → t (f j) ≡ false) → first t (tab n f) ≡ none
  unfolding tab first map_option
  tab-first-none t zero f h = refl
  tab-first-none t (suc n) f h =
      rw (h 0 (omega arith)) (ap (map_option (λ j. suc j)) (tab-first-none t n (λ j. f (suc j)) (λ j q. h (suc j) (omega arith))))

pub tab-map : {A B : Type 0} (h : A → B) (n : ℕ) (f : ℕ → A) → map h (tab n f) ≡ tab n (λ k. h (f k))
unfolding tab
tab-map h zero f = refl
tab-map {A} {B} h (suc n) f = ap (λ (xs : List B). h (f 0) ∷ xs) (tab-map h n (λ k. f (suc k)))
