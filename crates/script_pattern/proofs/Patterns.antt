-- Patterns: the bytes that are no marks, and a pattern from a place on. Assumes nothing.
use Prim.Native.Nat.{ℕ, zero, suc, ◌+◌, ◌<◌, ◌≤◌}
use mathlib.Core.Path.{◌≡◌, refl, sym, ap, ◌∙◌}
use mathlib.Core.Bool.{Bool, true, false, cond, ◌&&◌, false≢true}
use Prim.Native.String.{String}
use mathlib.Core.List.{List, [], ◌∷◌, ◌++◌, map}
use native.Mathlib.Nat.{add-zero}
use native.Mathlib.Numerals.{add-one}
use native.Mathlib.Omega.{arith}
use borrow.Author.Tests.{ne_eqb}
use denote.Bor.{Bor}
use lib.Dec.{eqb}
use lib.ListN.{length, get_or, drop, length-map, get_or-map, drop_of_length-le, get_or-eq_default}
use lib.Seq.{drop-cons, drop-drop, get_or-drop}
use Rattle.eiproto.specs.Interface.{ascii, Row, row, table, row_of, interface_name}
use Rattle.script_pattern.specs.Pattern.{Mark, marks, shows_in, takes_in, shows, takes, patterned, patterns, pattern_count, pattern_at}

-- ---- a byte that is no mark, in the form in which the last arm of a `match` knows it

abbrev pub Missed : ℕ → Type 0 → List Mark → Type 0
Missed c N [] = N
Missed c N (m ∷ ms) = Missed c (N × (c ≡ m.byte → ⊥)) ms

missed_shows : (c v : ℕ) (t : List ℕ) (N : Type 0) (ms : List Mark) → Missed c N ms → N × (c ∷ [] ≡ shows_in ms c v t)
unfolding shows_in
missed_shows c v t N [] m = (m, refl)
missed_shows c v t N (x ∷ xs) m =
    let r = missed_shows c v t (N × (c ≡ x.byte → ⊥)) xs m in
    (r.0.0, rw (ne_eqb c x.byte r.0.1) r.1)

missed_takes : (c : ℕ) (N : Type 0) (ms : List Mark) → Missed c N ms → N × (0 ≡ takes_in ms c)
unfolding takes_in
missed_takes c N [] m = (m, refl)
missed_takes c N (x ∷ xs) m =
    let r = missed_takes c (N × (c ≡ x.byte → ⊥)) xs m in
    (r.0.0, rw (ne_eqb c x.byte r.0.1) r.1)

pub no_mark_shows : (c v : ℕ) (t : List ℕ) → Missed c (Unit {0}) marks → c ∷ [] ≡ shows c v t
unfolding shows
no_mark_shows c v t m = (missed_shows c v t (Unit {0}) marks m).1

pub no_mark_takes : (c : ℕ) → Missed c (Unit {0}) marks → 0 ≡ takes c
unfolding takes
no_mark_takes c m = (missed_takes c (Unit {0}) marks m).1

takes_in-most : (ms : List Mark) (c : ℕ) → takes_in ms c ≤ 1
unfolding takes_in
takes_in-most [] c = omega arith
takes_in-most (m ∷ ms) c = elim (eqb c m.byte) as (λ (e : Bool). cond e 1 (takes_in ms c) ≤ 1) [ true ↦ omega arith | false ↦ takes_in-most ms c ]

pub takes-most : (c : ℕ) → takes c ≤ 1
unfolding takes
takes-most c = takes_in-most marks c

-- ---- a pattern from a place on, whose values are those from a place on

module _ (words vs t : List ℕ) (i k : ℕ) where
  pub patterned_on : i < length words → patterned (drop i words) (drop k vs) t ≡ shows (get_or words i 0) (get_or vs k 0) t ++ patterned (drop (i + 1) words) (drop (k + takes (get_or words i 0)) vs) t
  unfolding patterned
  patterned_on h = rw (add-one, drop-cons words i 0, get_or-drop k vs 0 0, add-zero, drop-drop (takes (get_or words i 0)) k vs)

  pub patterned-end : length words ≤ i → patterned (drop i words) (drop k vs) t ≡ []
  unfolding patterned
  patterned-end h = rw (drop_of_length-le words h)

-- ---- a number that is no interface's

pub no_interface : (n : ℕ) → 12 < n → interface_name n ≡ []
unfolding interface_name row_of table
no_interface n h = ap (λ (r : Row). r.name) (get_or-eq_default table (row "" 0) {n = n} (omega arith))

-- ---- the table

pub no_pattern : (n : ℕ) (vs t : List ℕ) → pattern_count ≤ n → patterned (pattern_at n) vs t ≡ []
unfolding pattern_at patterns patterned ascii
no_pattern n vs t h = ap (λ (s : String). patterned (ascii s) vs t) (get_or-eq_default patterns "" {n = n} h)

pub both : (a b : Bool) → a && b ≡ true → (a ≡ true) × (b ≡ true)
both true b e = (refl, e)
both false b e = absurd (false≢true e)

module _ (l : List (Bor (List ℕ))) (e : map (λ p. p.now) l ≡ map ascii patterns) (n : ℕ) where
  pub pattern-past : length l ≤ n → [] ≡ pattern_at n
  unfolding pattern_at ascii
  pattern-past h =
      let k : length patterns ≤ n = omega (arith, ap length e, length-map l (λ p. p.now), length-map patterns ascii) in
      sym (ap ascii (get_or-eq_default patterns "" {n = n} k))

  pub pattern_is : (d : Bor (List ℕ)) → n < length l → (get_or l n d).now ≡ pattern_at n
  unfolding pattern_at
  pattern_is d h =
      let k : n < length patterns = omega (arith, ap length e, length-map l (λ p. p.now), length-map patterns ascii) in
      let m : n < length (map ascii patterns) = omega (arith, length-map patterns ascii) in
      sym (get_or-map (λ (p : Bor (List ℕ)). p.now) l n d)
      ∙ ap (λ (s : List (List ℕ)). get_or s n d.now) e
      ∙ get_d_any (map ascii patterns) n d.now (ascii "") m
      ∙ get_or-map ascii patterns n ""
    where
      get_d_any : {A : Type 0} (l : List A) (i : ℕ) (d e : A) → i < length l → get_or l i d ≡ get_or l i e
      get_d_any [] i d e h = absurd (omega arith)
      get_d_any (x ∷ l) zero d e h = refl
      get_d_any (x ∷ l) (suc i) d e h = get_d_any l i d e (omega arith)
