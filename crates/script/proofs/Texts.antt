-- Texts in hexadecimal, two digits at a time. Assumes nothing.
use Prim.Native.Nat.{ℕ, zero, suc, ◌+◌, ◌-◌, ◌*◌, ◌/◌, ◌%◌, ◌≤◌, ◌<◌, min}
use mathlib.Core.Path.{◌≡◌, refl, sym, ap, ap₂, ◌∙◌}
use mathlib.Core.Bool.{Bool, true, false, ◌&&◌, false≢true}
use mathlib.Core.List.{List, [], ◌∷◌}
use mathlib.Core.Option.{none, some}
use native.Mathlib.Omega.{arith}
use lib.Dec.{ltb}
use Rattle.std.proofs.lemmas.Bool.Decides.{nat_tests}
use Rattle.std.specs.Char.{is_ascii_hexdigit}
use Rattle.std.specs.Simd.{first_chunks}
use Rattle.std.specs.List.{list_all}
use lib.ListN.{length, get_or, take, drop, length-take, length-drop}
use lib.Seq.{drop-drop, take-nil, get_or-take, get_or-drop}
use Rattle.script.specs.declared.text.Text.{Text}
use Rattle.eiproto.specs.Interface.{ascii}
use Rattle.script.specs.Words.{starts_with}
use Rattle.script.specs.Number.{digit}
use Rattle.script.specs.Text.{pairs, bytes_of, is_text, text_bytes}
use Rattle.script.specs.Script.{text, text_of}
use Rattle.script.specs.Told.{one, part}
use Rattle.script.proofs.Words.{starts-length}

-- ---- whether a word is a text

-- the two digits of a pair
abbrev pub are_digits : List ℕ → Bool
are_digits p = is_ascii_hexdigit (get_or p 0 0) && is_ascii_hexdigit (get_or p 1 0)

hexadecimal_digit : (c : ℕ) → is_ascii_hexdigit c ≡ ltb (digit c) 16
unfolding digit
hexadecimal_digit c = grind (arith, nat_tests)

pub pairs_even : (l : List ℕ) → length l % 2 ≡ 0 → list_all are_digits (first_chunks 2 (length l / 2) l) ≡ pairs l
unfolding pairs
pairs_even [] e = refl
pairs_even (c ∷ []) e = absurd (omega arith)
pairs_even (c ∷ d ∷ l) e =
    let n : suc (suc (length l)) / 2 ≡ suc (length l / 2) = omega arith in
    ap (λ (k : ℕ). list_all are_digits (first_chunks 2 k (c ∷ d ∷ l))) n
    ∙ step (is_ascii_hexdigit c) (is_ascii_hexdigit d) (ltb (digit c) 16) (ltb (digit d) 16) (hexadecimal_digit c) (hexadecimal_digit d) (pairs_even l (omega (arith, e)))
  where
    step : (t u t' u' : Bool) → t ≡ t' → u ≡ u' → list_all are_digits (first_chunks 2 (length l / 2) l) ≡ pairs l
        → ((t && u) && list_all are_digits (first_chunks 2 (length l / 2) l)) ≡ (t' && (u' && pairs l))
    step true u t' u' a b e = rw (sym a, sym b, e)
    step false u t' u' a b e = rw (sym a)

even : (l : List ℕ) → pairs l ≡ true → length l % 2 ≡ 0
unfolding pairs
even [] e = refl
even (c ∷ []) e = absurd (false≢true e)
even (c ∷ d ∷ l) e = go (ltb (digit c) 16) (ltb (digit d) 16) e (λ f. even l f)
  where
    go : (t u : Bool) → t && (u && pairs l) ≡ true → (pairs l ≡ true → length l % 2 ≡ 0) → suc (suc (length l)) % 2 ≡ 0
    go true true e f = omega (arith, f e)
    go true false e f = absurd (false≢true e)
    go false u e f = absurd (false≢true e)

pub pairs_odd : (l : List ℕ) → (length l % 2 ≡ 0 → ⊥) → false ≡ pairs l
pairs_odd l n = go (pairs l) refl
  where
    go : (t : Bool) → pairs l ≡ t → false ≡ pairs l
    go true e = absurd (n (even l e))
    go false e = sym e

module _ (w : List ℕ) where
  pub no_text : starts_with (ascii "t:") w ≡ false → false ≡ is_text w
  unfolding is_text
  no_text e = rw e

  pub text_start_lem : starts_with (ascii "t:") w ≡ true → is_text w ≡ pairs (drop 2 w)
  unfolding is_text
  text_start_lem e = rw e

-- ---- its bytes

length-bytes : (l : List ℕ) → length (bytes_of l) ≡ length l / 2
unfolding bytes_of
length-bytes [] = refl
length-bytes (c ∷ []) = refl
length-bytes (c ∷ d ∷ l) = omega (arith, length-bytes l)

byte_at : (l : List ℕ) (i : ℕ) → 2 * i + 1 < length l → get_or (bytes_of l) i 0 ≡ digit (get_or l (2 * i) 0) % 16 * 16 + digit (get_or l (2 * i + 1) 0) % 16
unfolding bytes_of
byte_at [] i h = absurd (omega arith)
byte_at (c ∷ []) i h = absurd (omega arith)
byte_at (c ∷ d ∷ l) zero h = refl
byte_at (c ∷ d ∷ l) (suc i) h =
    let a : suc (suc (2 * i)) ≡ 2 * suc i = omega arith in
    let b : suc (suc (2 * i + 1)) ≡ 2 * suc i + 1 = omega arith in
    byte_at l i (omega arith)
    ∙ ap₂ (λ (m n : ℕ). digit (get_or (c ∷ d ∷ l) m 0) % 16 * 16 + digit (get_or (c ∷ d ∷ l) n 0) % 16) a b

module _ (line : List ℕ) (t : Text) where
  pub text_length_lem : length (text_bytes line t) ≡ min t.bytes ((length line - t.start) / 2)
  unfolding text_bytes
  text_length_lem =
      omega (
        arith,
        length-bytes (take (2 * t.bytes) (drop t.start line)),
        length-take (2 * t.bytes) (drop t.start line),
        length-drop t.start line,
      )

  pub text_at : (i : ℕ) → i < length (text_bytes line t)
      → get_or (text_bytes line t) i 0
      ≡ digit (get_or line (t.start + 2 * i) 0) % 16 * 16 + digit (get_or line (t.start + 2 * i + 1) 0) % 16
  unfolding text_bytes
  text_at i h =
      let d = drop t.start line in
      let l = take (2 * t.bytes) d in
      let k : 2 * i + 1 < length l = omega (arith, length-bytes l) in
      let m : 2 * i + 1 < 2 * t.bytes = omega (arith, length-take (2 * t.bytes) d) in
      let m' : 2 * i < 2 * t.bytes = omega arith in
      let a : get_or l (2 * i) 0 ≡ get_or line (t.start + 2 * i) 0 =
      get_or-take (2 * t.bytes) d (2 * i) 0 m' ∙ get_or-drop t.start line (2 * i) 0 in
      let n : t.start + (2 * i + 1) ≡ t.start + 2 * i + 1 = omega arith in
      let b : get_or l (2 * i + 1) 0 ≡ get_or line (t.start + 2 * i + 1) 0 =
      get_or-take (2 * t.bytes) d (2 * i + 1) 0 m ∙ get_or-drop t.start line (2 * i + 1) 0 ∙ ap (λ (x : ℕ). get_or line x 0) n in
      byte_at l i k ∙ ap₂ (λ (x y : ℕ). digit x % 16 * 16 + digit y % 16) a b

  pub text-room : (i : ℕ) → i < length (text_bytes line t) → t.start + 2 * i + 1 < length line
  text-room i h = omega (arith, text_length_lem)

-- ---- the text of a part of a line

drop-take : (m n : ℕ) (l : List ℕ) → drop m (take n l) ≡ take (n - m) (drop m l)
drop-take zero n l = let z : n ≡ n - 0 = omega arith in ap (λ (k : ℕ). take k l) z
drop-take (suc m) zero l = let z : 0 ≡ 0 - suc m = omega arith in ap (λ (k : ℕ). take k (drop (suc m) l)) z
drop-take (suc m) (suc n) [] = sym (take-nil (suc n - suc m))
drop-take (suc m) (suc n) (x ∷ l) = let z : n - m ≡ suc n - suc m = omega arith in drop-take m n l ∙ ap (λ (k : ℕ). take k (drop m l)) z

module _ (line : List ℕ) (from end : ℕ) (a : from ≤ end) (b : end ≤ length line) (e : is_text (part from end line) ≡ true) where
  starts : starts_with (ascii "t:") (part from end line) ≡ true
  unfolding is_text
  starts = go (starts_with (ascii "t:") (part from end line)) (pairs (drop 2 (part from end line))) e
    where
      go : (t u : Bool) → t && u ≡ true → t ≡ true
      go true u e = refl
      go false u e = absurd (false≢true e)

  length_part : length (part from end line) ≡ end - from
  length_part = omega (arith, length-take (end - from) (drop from line), length-drop from line)

  pub text-long : 2 ≤ end - from
  unfolding ascii
  text-long = omega (arith, starts-length (ascii "t:") (part from end line) starts, length_part)

  pub text_bytes_lem : bytes_of (drop 2 (part from end line)) ≡ text_bytes line (record { start = from + 2; bytes = (end - from - 2) / 2 })
  unfolding text_bytes
  text_bytes_lem =
      let w = part from end line in
      let p : pairs (drop 2 w) ≡ true = sym (text_start_lem w starts) ∙ e in
      let n : end - from - 2 ≡ 2 * ((end - from - 2) / 2) = omega (arith, even (drop 2 w) p, length-drop 2 w, length_part, text-long) in
      ap (λ (l : List ℕ). bytes_of l)
      (drop-take 2 (end - from) (drop from line) ∙ ap₂ (λ (k : ℕ) (l : List ℕ). take k l) n (drop-drop 2 from line))

  pub text-given : some (text (text_bytes line (record { start = from + 2; bytes = (end - from - 2) / 2 })) ∷ []) ≡ one (text_of (part from end line))
  text-given = sym (rw (e, text_bytes_lem))

pub text-none : (w : List ℕ) → is_text w ≡ false → none ≡ one (text_of w)
text-none w e = rw e
