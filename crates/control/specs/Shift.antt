-- Values moved down within a slice. Assumes nothing.
use Rattle.std.specs.Prelude.{◌≡◌, ℕ, ◌+◌, ◌<◌, ◌≤◌, List, slice_index_or}

-- a list as a function of the place: the default d past its end
abbrev pub value_at : {A : Type 0} → A → List A → ℕ → A
value_at d l x = slice_index_or l x d

-- the n values from `from` on now stand at `to` and after; no other changed
pub record Shifted {A : Type 0} (before after : ℕ → A) (to from n : ℕ) : Type 0 where
  pub here : (x y : ℕ) → to ≤ x → x < to + n → y + to ≡ x + from → after x ≡ before y
  pub other : (x : ℕ) → (to ≤ x → x < to + n → ⊥) → after x ≡ before x
