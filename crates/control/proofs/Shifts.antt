-- Values moved down within a slice, one after another. Assumes nothing.
use Rattle.std.proofs.Common.{◌≡◌, ℕ, ◌+◌, ◌<◌, ◌≤◌, List, length, get_or, set, refl, ap, ◌∙◌, arith, get_or-set_other, get_or-set_same}
use Rattle.std.proofs.lemmas.List.{get_or_default}
use Rattle.control.specs.Shift.{value_at, Shifted}
use Rattle.control.proofs.Tables.{case_eq}

module _ {A : Type 0} (d : A) (l m : List A) (to from : ℕ) where
  pub shifted_none : Shifted (value_at d l) (value_at d l) to from 0
  shifted_none = record { here = λ x y a b e. absurd (omega arith); other = λ x h. refl }

  -- v is the value that moves
  pub shifted_step : (i : ℕ) (v : A) → v ≡ get_or m (from + i) v → to ≤ from → from + i < length m → Shifted (value_at d l) (value_at d m) to from i
      → Shifted (value_at d l) (value_at d (set m (to + i) v)) to from (i + 1)
  shifted_step i v is h q s =
      record {
        here =
            λ x y p b e.
            case_eq x (to + i)
            (λ z.
            let f : from + i ≡ y = omega arith in
            ap (value_at d (set m (to + i) v)) z ∙ get_or-set_same m (to + i) v d (omega arith) ∙ is ∙ get_or_default m (from + i) v d q
            ∙ s.other (from + i) (λ u w. omega arith) ∙ ap (value_at d l) f)
            (λ z. get_or-set_other m (to + i) x v d z ∙ s.here x y p (omega arith) e);
        other = λ x n. get_or-set_other m (to + i) x v d (λ e. n (omega arith) (omega arith)) ∙ s.other x (λ p b. n p (omega arith));
      }
