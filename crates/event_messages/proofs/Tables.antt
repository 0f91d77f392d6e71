-- The table of kinds: the code's is the definition's, and past its ends there is none. Assumes nothing.
use Prim.Native.Nat.{ℕ, zero, suc, ◌-◌, ◌≤◌, ◌<◌}
use mathlib.Core.Bool.{Bool, true, not, ◌&&◌, ◌||◌}
use mathlib.Core.List.{List, [], ◌∷◌, ◌++◌}
use mathlib.Core.Logic.{dite}
use mathlib.Core.Path.{◌≡◌, refl, ap, ◌∙◌, sym}
use native.Mathlib.Decide.{dec_lt}
use native.Mathlib.Omega.{arith}
use borrow.Author.Tests.{eqb-true, leb-true, eq-eqb, ne_eqb}
use lib.Dec.{eqb, leb}
use lib.ListN.{length, get_or, replicate, get_or-eq_default}
use Rattle.event_messages.specs.Table.{table, kind_of}
use Rattle.event_messages.specs.Shape.{shapes, no_shape, shape_of}
use Rattle.event_messages.specs.declared.Shape.{Shape}
use Rattle.event_messages.proofs.Tests.{both_hold}

-- a test that passes at every number below n
abbrev pub upto : (ℕ → Bool) → ℕ → Bool
upto f zero = true
upto f (suc n) = f n && upto f n

pub at : (f : ℕ → Bool) (n : ℕ) → upto f n ≡ true → (i : ℕ) → i < n → f i ≡ true
at f zero t i h = absurd (omega arith)
at f (suc n) t i h = go (both_hold t) (λ u l. at f n u i l)
  where
    go : (f n ≡ true) × (upto f n ≡ true) → (upto f n ≡ true → i < n → f i ≡ true) → f i ≡ true
    go t rest = dite (dec_lt i n) (λ l. rest t.1 l) (λ m. let e : i ≡ n = omega arith in ap f e ∙ t.0)

-- no interface past the thirteenth, and no opcode past the twelfth
pub past_interfaces : (interface opcode : ℕ) → 13 ≤ interface → 0 ≡ kind_of interface opcode
unfolding kind_of
past_interfaces i op h = rw (get_or-eq_default table [] h)

pub past_opcodes : (interface opcode : ℕ) → 12 ≤ opcode → 0 ≡ kind_of interface opcode
unfolding kind_of
past_opcodes i op h =
    dite (dec_lt i 13)
    (λ l. let n : length (get_or table i []) ≤ 12 = leb-true _ _ (at (λ i. leb (length (get_or table i [])) 12) 13 refl i l) in sym (get_or-eq_default (get_or table i []) 0 (omega arith)))
    (λ m. past_interfaces i op (omega arith))

-- the rows, each with zeros up to twelve
abbrev filled : List (List ℕ) → List (List ℕ)
filled [] = []
filled (r ∷ rs) = (r ++ replicate (12 - length r) 0) ∷ filled rs

pub kind_in_lem : (interface opcode : ℕ) → interface < 13 → opcode < 12 → get_or (get_or (filled table) interface []) opcode 0 ≡ kind_of interface opcode
unfolding kind_of
kind_in_lem i op l m =
    eqb-true _ _ (at (λ op. eqb (get_or (get_or (filled table) i []) op 0) (kind_of i op)) 12 (at (λ i. upto (λ op. eqb (get_or (get_or (filled table) i []) op 0) (kind_of i op)) 12) 13 refl i l) op m)

-- the last kind is 18
pub kind-most : (interface opcode : ℕ) → kind_of interface opcode ≤ 18
unfolding kind_of
kind-most i op =
    dite (dec_lt i 13)
    (λ l. dite (dec_lt op 12)
    (λ m. leb-true (kind_of i op) 18 (at (λ op. leb (kind_of i op) 18) 12 (at (λ i. upto (λ op. leb (kind_of i op) 18) 12) 13 refl i l) op m))
    (λ m. omega (arith, past_opcodes i op (omega arith))))
    (λ m. omega (arith, past_interfaces i op (omega arith)))

-- no interface has a kind under two opcodes
unfoldable differs : (interface a b : ℕ) → Bool
unfolding kind_of
differs i a b = eqb (kind_of i a) 0 || (not (eqb (kind_of i a) (kind_of i b)) || eqb a b)

differ : upto (λ i. upto (λ a. upto (λ b. differs i a b) 12) 12) 13 ≡ true
unfolding differs
differ = refl

pub only_opcode : (interface a b : ℕ) → 0 < kind_of interface a → kind_of interface a ≡ kind_of interface b → a ≡ b
unfolding differs
only_opcode i a b h e =
    let li : i < 13 = dite (dec_lt i 13) (λ l. l) (λ m. absurd (omega (arith, past_interfaces i a (omega arith)))) in
    let below : (o : ℕ) → 0 < kind_of i o → o < 12 = λ o p. dite (dec_lt o 12) (λ l. l) (λ m. absurd (omega (arith, past_opcodes i o (omega arith)))) in
    let t = at (λ b. differs i a b) 12 (at (λ a. upto (λ b. differs i a b) 12) 12 (at (λ i. upto (λ a. upto (λ b. differs i a b) 12) 12) 13 differ i li) a (below a h)) b (below b (omega arith)) in
    eqb-true a b (rw (ne_eqb (kind_of i a) 0 (λ z. omega arith), eq-eqb (kind_of i a) (kind_of i b) e) at t)

-- ---- shapes

any : {A : Type 0} (l : List A) (i : ℕ) (d e : A) → i < length l → get_or l i d ≡ get_or l i e
any [] i d e h = absurd (omega arith)
any (x ∷ l) zero d e h = refl
any (x ∷ l) (suc i) d e h = any l i d e (omega arith)

pub shape_in : (d : Shape) (kind : ℕ) → kind < 19 → get_or shapes kind d ≡ shape_of kind
unfolding shape_of
shape_in d k h = any shapes k d no_shape h

pub past_shapes : (kind : ℕ) → 18 < kind → no_shape ≡ shape_of kind
unfolding shape_of
past_shapes k h = sym (get_or-eq_default shapes no_shape h)
