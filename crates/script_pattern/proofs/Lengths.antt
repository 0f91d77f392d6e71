-- How long what is shown can be. Assumes nothing.
use Prim.Native.Nat.{ℕ, zero, suc, ◌+◌, ◌-◌, ◌*◌, ◌/◌, ◌%◌, ◌≤◌}
use Prim.Native.String.{String}
use mathlib.Core.Path.{◌≡◌, refl}
use mathlib.Core.Bool.{Bool, true, false, cond, ◌&&◌}
use mathlib.Core.List.{List, [], ◌∷◌, ◌++◌}
use native.Mathlib.Omega.{arith}
use borrow.Author.Tests.{leb-true}
use lib.Dec.{eqb, leb, ltb}
use lib.ListN.{length, get_or, drop, length-append}
use Rattle.eiproto.specs.Interface.{ascii, Row, row, table, row_of, interface_name}
use Rattle.script_pattern.specs.Digits.{each, pair, eight, hexadecimal, ident, decimal_in, decimal, is_plain, escape, escaped}
use Rattle.script_pattern.specs.Words.{real, amount, truth, device_type, reason, explanation}
use Rattle.script_pattern.specs.Pattern.{Mark, marks, shows_in, takes_in, shows, takes, patterned, patterns, pattern_at, values, bytes_of}
use Rattle.script_pattern.specs.declared.table.Shown.{Shown}
use Rattle.script_pattern.proofs.Patterns.{both}

choice : (x : Bool) (a b : List ℕ) (m : ℕ) → length a ≤ m → length b ≤ m → length (cond x a b) ≤ m
choice true a b m h k = h
choice false a b m h k = k

-- ---- digits and texts

decimal_in-length : (k n : ℕ) → length (decimal_in k n) ≤ k
unfolding decimal_in
decimal_in-length zero n = omega arith
decimal_in-length (suc k) n =
    let d = choice (eqb (n / 10) 0) [] (decimal_in k (n / 10)) k (omega arith) (decimal_in-length k (n / 10)) in
    omega (arith, length-append (cond (eqb (n / 10) 0) [] (decimal_in k (n / 10))) ((0x30 + n % 10) ∷ []))

pub decimal-length : (n : ℕ) → length (decimal n) ≤ 20
unfolding decimal
decimal-length n = decimal_in-length 20 n

-- at most four bytes for each
each_length : (f : ℕ → List ℕ) → ((b : ℕ) → length (f b) ≤ 4) → (s : List ℕ) → length (each f s) ≤ 4 * length s
unfolding each
each_length f h [] = omega arith
each_length f h (b ∷ bs) = omega (arith, length-append (f b) (each f bs), h b, each_length f h bs)

pair-length : (b : ℕ) → length (pair b) ≡ 2
unfolding pair
pair-length b = refl

-- two digits for each byte
pub hexadecimal-length : (s : List ℕ) → length (hexadecimal s) ≡ 2 * length s
unfolding hexadecimal each
hexadecimal-length [] = refl
hexadecimal-length (b ∷ bs) = omega (arith, length-append (pair b) (each pair bs), pair-length b, hexadecimal-length bs)

escape-length : (b : ℕ) → length (escape b) ≤ 4
unfolding escape ascii pair
escape-length b = choice (is_plain b) (b ∷ []) (ascii "\\x" ++ pair b) 4 (omega arith) (omega arith)

pub escaped-length : (s : List ℕ) → length (escaped s) ≤ 4 * length s
unfolding escaped
escaped-length s = each_length escape escape-length s

-- ---- what each mark shows

ident-length : (n : ℕ) → length (ident n) ≡ 18
unfolding ident eight pair ascii
ident-length n = refl

real-length : (n : ℕ) → length (real n) ≤ 22
unfolding real eight pair ascii
real-length n = choice (ltb n 4294967296) (ascii "0x" ++ eight n) (ascii "nan") 22 (omega arith) (omega arith)

amount-length : (n : ℕ) → length (amount n) ≤ 22
unfolding amount
amount-length n =
    let d = decimal-length n in
    let e = decimal-length (n - 4294967296) in
    choice (ltb n 4294967296) (decimal n) (0x2d ∷ decimal (n - 4294967296)) 22 (omega arith) (omega arith)

truth-length : (n : ℕ) → length (truth n) ≤ 22
unfolding truth ascii
truth-length n = choice (eqb n 0) (ascii "false") (ascii "true") 22 (omega arith) (omega arith)

abbrev named : List Row → Bool
named [] = true
named (r ∷ rs) = leb (length r.name) 22 && named rs

named_at : (rs : List Row) → named rs ≡ true → (n : ℕ) → length (get_or rs n (row "" 0)).name ≤ 22
unfolding row ascii
named_at [] t n = omega arith
named_at (r ∷ rs) t zero = leb-true (length r.name) 22 (both (leb (length r.name) 22) (named rs) t).0
named_at (r ∷ rs) t (suc n) = named_at rs (both (leb (length r.name) 22) (named rs) t).1 n

interface-length : (n : ℕ) → length (interface_name n) ≤ 22
unfolding interface_name row_of table
interface-length n = named_at table refl n

type-length : (n : ℕ) → length (device_type n) ≤ 22
unfolding device_type ascii
type-length n =
    let d = decimal-length n in
    choice (eqb n 1) (ascii "virtual") (cond (eqb n 2) (ascii "physical") (decimal n)) 22 (omega arith)
    (choice (eqb n 2) (ascii "physical") (decimal n) 22 (omega arith) (omega arith))

reason-length : (n : ℕ) → length (reason n) ≤ 22
unfolding reason ascii
reason-length n =
    let d = decimal-length n in
    let five = choice (eqb n 5) (ascii "transport") (decimal n) 22 (omega arith) (omega arith) in
    let four = choice (eqb n 4) (ascii "value") (cond (eqb n 5) (ascii "transport") (decimal n)) 22 (omega arith) five in
    let rest = cond (eqb n 4) (ascii "value") (cond (eqb n 5) (ascii "transport") (decimal n)) in
    let three = choice (eqb n 3) (ascii "protocol") rest 22 (omega arith) four in
    let two = choice (eqb n 2) (ascii "mode") (cond (eqb n 3) (ascii "protocol") rest) 22 (omega arith) three in
    let one = choice (eqb n 1) (ascii "error") (cond (eqb n 2) (ascii "mode") (cond (eqb n 3) (ascii "protocol") rest)) 22 (omega arith) two in
    choice (eqb n 0) (ascii "disconnected") (cond (eqb n 1) (ascii "error") (cond (eqb n 2) (ascii "mode") (cond (eqb n 3) (ascii "protocol") rest))) 22 (omega arith) one

explanation-length : (n : ℕ) (t : List ℕ) → length (explanation n t) ≤ 22 + 4 * length t
unfolding explanation ascii
explanation-length n t =
    let e = escaped-length t in
    let l = length-append (escaped t) (ascii "\"") in
    choice (ltb 127 n) (ascii " explanation \"" ++ (escaped t ++ ascii "\"")) [] (22 + 4 * length t) (omega arith) (omega arith)

abbrev Short : List Mark → Type 0
Short [] = Unit {0}
Short (m ∷ ms) = ((v : ℕ) (t : List ℕ) → length (m.shows v t) ≤ 22 + 4 * length t) × Short ms

short : Short marks
unfolding marks
short = (
  λ v t. omega (arith, ident-length v),
  (
    λ v t. omega (arith, decimal-length v),
    (
      λ v t. omega (arith, real-length v),
      (
        λ v t. omega (arith, amount-length v),
        (
          λ v t. omega (arith, truth-length v),
          (
            λ v t. omega (arith, interface-length v),
            (
              λ v t. omega (arith, type-length v),
              (
                λ v t. omega (arith, reason-length v),
                (
                  λ v t. omega (arith, hexadecimal-length t),
                  (λ v t. omega (arith, escaped-length t), (λ v t. explanation-length v t, (λ v t. omega arith, tt))),
                ),
              ),
            ),
          ),
        ),
      ),
    ),
  ),
)

-- ---- a pattern, where a mark takes at most k bytes

unfoldable pub room : (k : ℕ) → List ℕ → ℕ
unfolding takes
room k [] = 0
room k (c ∷ p) = cond (eqb (takes c) 0) 1 k + room k p

shows_in-length : (k c v : ℕ) (t : List ℕ) → 22 + 4 * length t ≤ k → (ms : List Mark) → Short ms → length (shows_in ms c v t) ≤ cond (eqb (takes_in ms c) 0) 1 k
unfolding shows_in takes_in
shows_in-length k c v t h [] s = omega arith
shows_in-length k c v t h (m ∷ ms) s =
    elim (eqb c m.byte) as (λ (x : Bool). length (cond x (m.shows v t) (shows_in ms c v t)) ≤ cond (eqb (cond x 1 (takes_in ms c)) 0) 1 k) [
      | true ↦ omega (arith, s.0 v t)
      | false ↦ shows_in-length k c v t h ms s.1
    ]

patterned-length : (k : ℕ) (t : List ℕ) → 22 + 4 * length t ≤ k → (p vs : List ℕ) → length (patterned p vs t) ≤ room k p
unfolding patterned room shows takes
patterned-length k t h [] vs = omega arith
patterned-length k t h (c ∷ p) vs =
    let s = shows_in-length k c (get_or vs 0 0) t h marks short in
    omega (arith, length-append (shows c (get_or vs 0 0) t) (patterned p (drop (takes c) vs) t), patterned-length k t h p (drop (takes c) vs))

-- each pattern of the table takes at most m bytes
unfoldable pub within : (k m : ℕ) → List String → Bool
unfolding room ascii
within k m [] = true
within k m (s ∷ ss) = leb (room k (ascii s)) m && within k m ss

within_at : (k m : ℕ) (ss : List String) → within k m ss ≡ true → (n : ℕ) → room k (ascii (get_or ss n "")) ≤ m
unfolding within room ascii
within_at k m [] t n = omega arith
within_at k m (s ∷ ss) t zero = leb-true (room k (ascii s)) m (both (leb (room k (ascii s)) m) (within k m ss) t).0
within_at k m (s ∷ ss) t (suc n) = within_at k m ss (both (leb (room k (ascii s)) m) (within k m ss) t).1 n

-- what is shown, with a text of at most so many bytes
pub bytes-length : (k m : ℕ) → within k m patterns ≡ true → (s : Shown) (t : List ℕ) → 22 + 4 * length t ≤ k → length (bytes_of s t) ≤ m
unfolding bytes_of pattern_at
bytes-length k m w s t h =
    let p = patterned-length k t h (pattern_at s.pattern) (values s) in
    omega (arith, within_at k m patterns w s.pattern)

-- without a text, and with one of 255 bytes
pub bare-within : within 22 160 patterns ≡ true
unfolding within patterns
bare-within = refl

pub texted-within : within 1042 5400 patterns ≡ true
unfolding within patterns
texted-within = refl
