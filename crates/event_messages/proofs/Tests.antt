-- Tests in turn are the conjunction of what each tests. Assumes nothing.
use mathlib.Core.Bool.{Bool, true, false, not, ◌&&◌, ◌||◌, false≢true}
use mathlib.Core.Path.{◌≡◌, refl, sym, ◌∙◌}
use mathlib.Core.List.{List, [], ◌∷◌}
use Prim.Native.Nat.{ℕ, zero, suc}
use lib.Dec.{eqb}
use native.Mathlib.Omega.{arith}
use borrow.Author.Tests.{ne_eqb, lt-ltb}
use Rattle.std.specs.List.{list_any}
use Rattle.event_messages.specs.Stands.{zero_free}

both : (a b : Bool) → a && b ≡ true → (a ≡ true) × (b ≡ true)
both true b e = (refl, e)
both false b e = absurd (false≢true e)

-- the two sides of a conjunction that holds
pub both_hold : {a b : Bool} → a && b ≡ true → (a ≡ true) × (b ≡ true)
both_hold {a} {b} e = both a b e

-- tests that the code joins by `&&`
pub and_so : {r e x rest : Bool} → r ≡ e → r ≡ true → x ≡ rest → x ≡ e && rest
and_so {r} {e} p t h =
    let q : e ≡ true = sym p ∙ t in
    rw q h

pub and_not : {r e x : Bool} → r ≡ e → r ≡ false → x ≡ r → (rest : Bool) → x ≡ e && rest
and_not {r} {e} p t h rest =
    let q : e ≡ false = sym p ∙ t in
    rw q (h ∙ t)

-- and by `||`
pub or_so : {r e x : Bool} → r ≡ e → r ≡ true → x ≡ r → (rest : Bool) → x ≡ e || rest
or_so {r} {e} p t h rest =
    let q : e ≡ true = sym p ∙ t in
    rw q (h ∙ t)

pub or_not : {r e x rest : Bool} → r ≡ e → r ≡ false → x ≡ rest → x ≡ e || rest
or_not {r} {e} p t h =
    let q : e ≡ false = sym p ∙ t in
    rw q h

pub and_three : (a b c : Bool) → (a && b) && c ≡ a && (b && c)
and_three true b c = refl
and_three false b c = refl

pub and_five : (a b c d e : Bool) → (((a && b) && c) && d) && e ≡ a && (b && (c && (d && e)))
and_five false b c d e = refl
and_five true false c d e = refl
and_five true true false d e = refl
and_five true true true d e = refl

-- no byte is 0
pub none_zero : (l : List ℕ) → not (list_any (λ y. eqb y 0) l) ≡ zero_free l
unfolding zero_free
none_zero [] = refl
none_zero (zero ∷ l) = refl
none_zero (suc x ∷ l) = rw (ne_eqb (suc x) 0 (λ e. omega arith), lt-ltb 0 (suc x) (omega arith)) (none_zero l)
