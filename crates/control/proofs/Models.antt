-- What the tables' laws say in the model's words: its finds, and its changes of a list of seats or devices. Assumes nothing.
use Rattle.std.proofs.Common.{◌≡◌, ℕ, zero, suc, ◌<◌, Bool, true, false, cond, eqb, List, [], ◌∷◌, length, sym, refl, ap, ◌∙◌, ap₂, arith}
use mathlib.Core.Option.{Option, none, some}
use Rattle.model.specs.Session.{Seat, Device}
use Rattle.model.specs.Edit.{seats_without, at, without_slot}
use Rattle.model.specs.Decide.{later, find, seat_in}
use Rattle.control.specs.Table.{tab, cut_at, map_option, first}
use Rattle.control.specs.Control.{seat_count, seat_at, connection_of, device_count, Core, core_at, cores_of}
use Rattle.control.proofs.Tables.{tab_ext, tab-length}

-- what is found is in the table, and passes the test
pub record Passes {A : Type 0} (t : A → Bool) (n k : ℕ) (f : ℕ → A) : Type 0 where
  pub within : k < n
  pub passes : t (f k) ≡ true

none-some : {A : Type 0} {P : Type 0} (x : A) → none ≡ some x → P
none-some x e = let z : ◌≡◌ {A = ℕ} 0 1 = cc in absurd (omega arith)

first_passes : {A : Type 0} (t : A → Bool) (n k : ℕ) (f : ℕ → A) → first t (tab n f) ≡ some k → Passes t n k f
unfolding tab first map_option
first_passes t zero k f e = none-some k e
first_passes t (suc n) k f e = go (t (f 0)) refl (first t (tab n (λ j. f (suc j)))) refl e (λ j q. first_passes t n j (λ i. f (suc i)) q)
  where
    go : (b : Bool) → t (f 0) ≡ b → (o : Option ℕ) → first t (tab n (λ j. f (suc j))) ≡ o → cond b (some zero) (map_option (λ j. suc j) o) ≡ some k
        → ((j : ℕ) → first t (tab n (λ i. f (suc i))) ≡ some j → Passes t n j (λ i. f (suc i))) → Passes t (suc n) k f
    go true q o r e h = let z : 0 ≡ k = cc in record { within = omega arith; passes = ap (λ (j : ℕ). t (f j)) (sym z) ∙ q }
    go false q none r e h = none-some k e
    go false q (some j) r e h =
        let z : suc j ≡ k = cc in
        let p = h j r in record { within = omega (arith, p.within); passes = ap (λ (j : ℕ). t (f j)) (sym z) ∙ p.passes }

-- the model's `find` on a table f of devices is `first` on any table g that a test sees alike
module _ {A : Type 0} (test : Device (Unit {0}) → Bool) (t : A → Bool) where
  pub find_first : (n : ℕ) (f : ℕ → Device (Unit {0})) (g : ℕ → A) → ((j : ℕ) → j < n → test (f j) ≡ t (g j))
      → find test (tab n f) ≡ map_option (λ k. record { slot = k; device = f k }) (first t (tab n g))
  unfolding find later tab first map_option
  find_first zero f g h = refl
  find_first (suc n) f g h =
      rw (h 0 (omega arith), find_first n (λ j. f (suc j)) (λ j. g (suc j)) (λ j l. h (suc j) (omega arith)))
      (go (t (g 0)) (first t (tab n (λ j. g (suc j)))))
    where
      go : (b : Bool) (o : Option ℕ)
          → cond b (some (record { slot = 0; device = f 0 })) (later (map_option (λ k. record { slot = k; device = f (suc k) }) o))
          ≡ map_option (λ k. record { slot = k; device = f k }) (cond b (some zero) (map_option (λ k. suc k) o))
      go true o = refl
      go false none = refl
      go false (some k) = refl

pub seat-first : (id n : ℕ) (f : ℕ → Seat) → seat_in id (tab n f) ≡ map_option f (first (λ s. eqb s.id id) (tab n f))
unfolding seat_in tab first map_option
seat-first id zero f = refl
seat-first id (suc n) f = rw (seat-first id n (λ j. f (suc j))) (go (eqb (f 0).id id) (first (λ s. eqb s.id id) (tab n (λ j. f (suc j)))))
  where
    go : (b : Bool) (o : Option ℕ) → cond b (some (f 0)) (map_option (λ j. f (suc j)) o) ≡ map_option f (cond b (some zero) (map_option (λ k. suc k) o))
    go true o = refl
    go false none = refl
    go false (some k) = refl

-- the seat that is taken out is the one that was found
pub seats_without_lem : (id : ℕ) (ss : List Seat) (k : ℕ) → first (λ s. eqb s.id id) ss ≡ some k → seats_without id ss ≡ cut_at k ss
unfolding seats_without first map_option cut_at
seats_without_lem id [] k e = none-some k e
seats_without_lem id (s ∷ ss) k e = go (eqb s.id id) (first (λ s. eqb s.id id) ss) refl k e (λ j q. seats_without_lem id ss j q)
  where
    go : (b : Bool) (o : Option ℕ) → first (λ s. eqb s.id id) ss ≡ o → (k : ℕ) → cond b (some zero) (map_option (λ k. suc k) o) ≡ some k
        → ((j : ℕ) → first (λ s. eqb s.id id) ss ≡ some j → seats_without id ss ≡ cut_at j ss) → cond b ss (s ∷ seats_without id ss) ≡ cut_at k (s ∷ ss)
    go true o r zero e h = refl
    go true o r (suc k) e h = let z : 0 ≡ suc k = cc in absurd (omega arith)
    go false none r k e h = none-some k e
    go false (some j) r zero e h = let z : suc j ≡ 0 = cc in absurd (omega arith)
    go false (some j) r (suc k) e h = let z : j ≡ k = cc in ap (λ (xs : List Seat). s ∷ xs) (h j r ∙ ap (λ (i : ℕ). cut_at i ss) z)

module _ {P : Type 0} where
  pub without_slot_lem : (k : ℕ) (ds : List (Device P)) → without_slot k ds ≡ cut_at k ds
  unfolding without_slot cut_at
  without_slot_lem k [] = refl
  without_slot_lem zero (d ∷ ds) = refl
  without_slot_lem (suc k) (d ∷ ds) = ap (λ (xs : List (Device P)). d ∷ xs) (without_slot_lem k ds)

  -- one slot changed, the others as they were
  pub at_slot : (change : Device P → Device P) (n k : ℕ) (f g : ℕ → Device P) → k < n → g k ≡ change (f k)
      → ((j : ℕ) → j < n → (j ≡ k → ⊥) → g j ≡ f j) → tab n g ≡ at change k (tab n f)
  unfolding at tab
  at_slot change zero k f g l e h = absurd (omega arith)
  at_slot change (suc n) zero f g l e h =
      ap₂ (λ (x : Device P) (xs : List (Device P)). x ∷ xs) e
      (tab_ext n (λ j. g (suc j)) (λ j. f (suc j)) (λ j q. h (suc j) (omega arith) (λ z. omega arith)))
  at_slot change (suc n) (suc k) f g l e h =
      ap₂ (λ (x : Device P) (xs : List (Device P)). x ∷ xs) (h 0 (omega arith) (λ z. omega arith))
      (at_slot change n k (λ j. f (suc j)) (λ j. g (suc j)) (omega arith) e (λ j q z. h (suc j) (omega arith) (λ w. z (omega arith))))

-- ---- of the control words

module _ (c : List ℕ) where
  pub seats_are : (connection_of c).seats ≡ tab (seat_count c) (seat_at c)
  unfolding connection_of
  seats_are = refl

  pub seats-length : length (connection_of c).seats ≡ seat_count c
  seats-length = ap length seats_are ∙ tab-length (seat_count c) (seat_at c)

  -- for a table f of devices of which a test sees what t sees of the cores: `device_of` and `device_for_interface` are such
  pub devices-find : (test : Device (Unit {0}) → Bool) (t : Core → Bool) (f : ℕ → Device (Unit {0}))
      → ((j : ℕ) → j < device_count c → test (f j) ≡ t (core_at c j))
      → find test (tab (device_count c) f) ≡ map_option (λ k. record { slot = k; device = f k }) (first t (cores_of c))
  unfolding cores_of
  devices-find test t f h = find_first test t (device_count c) f (core_at c) h

  pub seats-find : (id : ℕ) → seat_in id (connection_of c).seats ≡ map_option (seat_at c) (first (λ s. eqb s.id id) (connection_of c).seats)
  unfolding connection_of
  seats-find id = seat-first id (seat_count c) (seat_at c)

  pub device-passes : (t : Core → Bool) (k : ℕ) → first t (cores_of c) ≡ some k → Passes t (device_count c) k (core_at c)
  unfolding cores_of
  device-passes t k e = first_passes t (device_count c) k (core_at c) e

  pub seat-passes : (t : Seat → Bool) (k : ℕ) → first t (connection_of c).seats ≡ some k → Passes t (seat_count c) k (seat_at c)
  unfolding connection_of
  seat-passes t k e = first_passes t (seat_count c) k (seat_at c) e
