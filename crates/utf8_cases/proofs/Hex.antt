-- How the bytes of a line are read, from a place i where n of them are in the text. Assumes nothing.
use Prim.Native.Nat.{ℕ, suc, ◌+◌, ◌-◌, ◌*◌, ◌≤◌, ◌<◌}
use mathlib.Core.Path.{◌≡◌, refl, sym, ◌∙◌}
use mathlib.Core.List.{List, [], ◌∷◌, ◌++◌, append_assoc, append-nil}
use mathlib.Core.Option.{Option, none, some}
use native.Mathlib.Numerals.{add-one}
use native.Mathlib.Omega.{arith}
use borrow.Author.Tests.{eq-eqb, ne_eqb, le-leb, lt-leb}
use lib.ListN.{length, get_or, take, drop, set, length-drop, drop_of_length-le}
use lib.Seq.{drop-cons, take-suc-set}
use Rattle.script.specs.Number.{digit}
use Rattle.utf8_cases.specs.Hex.{behind, byte, bytes_of}

pub behind-none : (o : Option (List ℕ)) → o ≡ behind [] o
behind-none none = refl
behind-none (some zs) = refl

behind-behind : (xs ys : List ℕ) (o : Option (List ℕ)) → behind xs (behind ys o) ≡ behind (xs ++ ys) o
behind-behind xs ys none = refl
behind-behind xs ys (some zs) = rw append_assoc

two : (l : List ℕ) (i : ℕ) → i + 1 < length l → drop i l ≡ get_or l i 0 ∷ (get_or l (i + 1) 0 ∷ drop (i + 2) l)
two l i h =
    let a : i < length l = omega arith in
    let b : suc i < length l = omega arith in
    let c : suc i ≡ i + 1 = omega arith in
    let d : suc (suc i) ≡ i + 2 = omega arith in
    drop-cons l i 0 a ∙ rw (drop-cons l (suc i) 0 b, d, c)

-- a line by its first character
space_first : (c : ℕ) (l : List ℕ) → c ≡ 0x20 → bytes_of (c ∷ l) ≡ bytes_of l
unfolding bytes_of
space_first c [] e = rw (eq-eqb c 0x20 e)
space_first c (d ∷ l) e = rw (eq-eqb c 0x20 e)

cut_first : (c : ℕ) (l : List ℕ) → (c ≡ 0x20 → ⊥) → length l < 1 → bytes_of (c ∷ l) ≡ none
unfolding bytes_of
cut_first c [] e h = rw (ne_eqb c 0x20 e)
cut_first c (d ∷ l) e h = absurd (omega (arith, h))

pair-first : (c d : ℕ) (l : List ℕ) → (c ≡ 0x20 → ⊥) → bytes_of (c ∷ d ∷ l) ≡ byte (digit c) (digit d) (bytes_of l)
unfolding bytes_of
pair-first c d l e = rw (ne_eqb c 0x20 e)

module _ (line text : List ℕ) (i n : ℕ) (h : i < length line) (v : bytes_of line ≡ behind (take n text) (bytes_of (drop i line))) where
  pub space : get_or line i 0 ≡ 0x20 → bytes_of line ≡ behind (take n text) (bytes_of (drop (i + 1) line))
  space e = v ∙ rw (add-one, drop-cons line i 0, space_first (get_or line i 0) (drop (suc i) line) e)

  module _ (e : get_or line i 0 ≡ 0x20 → ⊥) where
    pub cut : length line - i < 2 → none ≡ bytes_of line
    cut k =
        let s : length (drop (suc i) line) < 1 = rw length-drop (omega arith) in
        sym (v ∙ rw (drop-cons line i 0, cut_first (get_or line i 0) (drop (suc i) line) e s))

    pub pair : 2 ≤ length line - i → bytes_of line ≡ behind (take n text) (byte (digit (get_or line i 0)) (digit (get_or line (i + 1) 0)) (bytes_of (drop (i + 2) line)))
    pair k = v ∙ rw (two line i (omega arith), pair-first (get_or line i 0) (get_or line (i + 1) 0) (drop (i + 2) line) e)

-- two digits, and then others
module _ (line text : List ℕ) (n high low : ℕ) (others : Option (List ℕ)) (v : bytes_of line ≡ behind (take n text) (byte high low others)) where
  pub no_high : 15 < high → none ≡ bytes_of line
  unfolding byte
  no_high g = sym (v ∙ rw (lt-leb high 15 g))

  pub no_low : high ≤ 15 → 15 < low → none ≡ bytes_of line
  unfolding byte
  no_low g g' = sym (v ∙ rw (le-leb high 15 g, lt-leb low 15 g'))

  pub both : high ≤ 15 → low ≤ 15 → n < length text → bytes_of line ≡ behind (take (n + 1) (set text n (high * 16 + low))) others
  unfolding byte
  both g g' r = v ∙ rw (le-leb high 15 g, le-leb low 15 g', behind-behind, add-one n, take-suc-set text n)

pub all_read : (line text : List ℕ) (i n : ℕ) → length line ≤ i → bytes_of line ≡ behind (take n text) (bytes_of (drop i line)) → some (take n text) ≡ bytes_of line
unfolding bytes_of
all_read line text i n h v = sym (v ∙ rw (drop_of_length-le, append-nil))
