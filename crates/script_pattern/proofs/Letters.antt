-- No text forges a line: what is shown of it in letters has no end of line and no quotation mark. Assumes nothing.
use Prim.Native.Nat.{ℕ, ◌/◌, ◌%◌, ◌≤◌, ◌<◌}
use mathlib.Core.Path.{◌≡◌, refl}
use mathlib.Core.Bool.{Bool, true, false, cond, false≢true}
use mathlib.Core.List.{List, [], ◌∷◌, ◌++◌}
use mathlib.Core.Logic.{dite}
use native.Mathlib.Decide.{dec_le}
use native.Mathlib.Omega.{arith}
use borrow.Author.Tests.{lt-ltb, le-ltb, ltb-false, eqb-false}
use lib.Dec.{eqb, ltb}
use Rattle.eiproto.specs.Interface.{ascii}
use Rattle.script_pattern.specs.Digits.{each, digit, pair, is_plain, escape, escaped}

-- each element of a list
abbrev pub All : (ℕ → Type 0) → List ℕ → Type 0
All P [] = Unit {0}
All P (b ∷ bs) = P b × All P bs

all_append : (P : ℕ → Type 0) (xs ys : List ℕ) → All P xs → All P ys → All P (xs ++ ys)
all_append P [] ys p q = q
all_append P (x ∷ xs) ys p q = (p.0, all_append P xs ys p.1 q)

-- from space to `~`, and no quotation mark
pub record Letter (b : ℕ) : Type 0 where
  pub least : 0x20 ≤ b
  pub most : b ≤ 0x7e
  pub quotes : b ≡ 0x22 → ⊥

digit-letter : (n : ℕ) → n < 16 → Letter (digit n)
unfolding digit
digit-letter n h =
    dite (dec_le 10 n)
    (λ l. rw (le-ltb n 10 l) (record { least = omega arith; most = omega arith; quotes = λ e. omega arith }))
    (λ l. rw (lt-ltb n 10 (omega arith)) (record { least = omega arith; most = omega arith; quotes = λ e. omega arith }))

pair_letters : (b : ℕ) → b < 256 → All Letter (pair b)
unfolding pair
pair_letters b h = (digit-letter (b / 16) (omega arith), (digit-letter (b % 16) (omega arith), tt))

plain-letter : (b : ℕ) → is_plain b ≡ true → Letter b
unfolding is_plain
plain-letter b h =
    elim (ltb b 0x20) as (λ (x : Bool). ltb b 0x20 ≡ x → cond x false (cond (ltb 0x7e b) false (cond (eqb b 0x22) false (cond (eqb b 0x5c) false true))) ≡ true → Letter b) [
      | true ↦ λ e k. absurd (false≢true k)
      | false ↦ λ e.
          elim (ltb 0x7e b) as (λ (x : Bool). ltb 0x7e b ≡ x → cond x false (cond (eqb b 0x22) false (cond (eqb b 0x5c) false true)) ≡ true → Letter b) [
            | true ↦ λ f k. absurd (false≢true k)
            | false ↦ λ f.
                elim (eqb b 0x22) as (λ (x : Bool). eqb b 0x22 ≡ x → cond x false (cond (eqb b 0x5c) false true) ≡ true → Letter b) [
                  | true ↦ λ g k. absurd (false≢true k)
                  | false ↦ λ g k. record { least = ltb-false b 0x20 e; most = ltb-false 0x7e b f; quotes = eqb-false b 0x22 g }
                ]
                refl
          ]
          refl
    ]
    refl h

escape_letters : (b : ℕ) → b < 256 → All Letter (escape b)
unfolding escape ascii
escape_letters b h =
    elim (is_plain b) as (λ (x : Bool). is_plain b ≡ x → All Letter (cond x (b ∷ []) (ascii "\\x" ++ pair b))) [
      | true ↦ λ e. (plain-letter b e, tt)
      | false ↦ λ e.
          all_append Letter (ascii "\\x") (pair b)
          (record { least = omega arith; most = omega arith; quotes = λ z. omega arith }, (record { least = omega arith; most = omega arith; quotes = λ z. omega arith }, tt))
          (pair_letters b h)
    ]
    refl

pub escaped_letters : (text : List ℕ) → All (λ b. b < 256) text → All Letter (escaped text)
unfolding escaped each
escaped_letters [] h = tt
escaped_letters (b ∷ bs) h = all_append Letter (escape b) (each escape bs) (escape_letters b h.0) (escaped_letters bs h.1)
