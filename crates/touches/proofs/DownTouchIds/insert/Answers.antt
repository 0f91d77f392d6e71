-- Each way out is one of the scope's cases; with fewer than sixteen held, the count is their number, and the store puts the id behind them. Assumes nothing.
use Prim.Native.Nat.{ℕ, ◌+◌, ◌≤◌, ◌<◌}
use mathlib.Core.Path.{◌≡◌, refl, sym, ◌∙◌}
use mathlib.Core.Bool.{true, false}
use mathlib.Core.List.{[], ◌∷◌, ◌++◌}
use native.Mathlib.Numerals.{add-one}
use native.Mathlib.Omega.{arith}
use borrow.Author.Rules.{rules}
use borrow.Author.Tests.{le-leb, lt-leb}
use lib.ListN.{length, set, length-take, length-append}
use lib.Seq.{take-suc-set}
use Rattle.touches.specs.declared.DownTouchIds.{DownTouchIds}
use Rattle.std.specs.Prelude.{Ok, Err}
use Rattle.touches.specs.declared.DownError.TheVariants.{TooManyTouches, DuplicatedTouchDown}
use Rattle.touches.specs.Touches.{held, member, down_refusal}
use Rattle.touches.specs.Changes.{Holds, Inserts}
use Rattle.touches.proofs.Laws.{held_bound}
use Rattle.touches.proofs.DownTouchIds.insert.Goals as goal

module _ (id : ℕ) (d : DownTouchIds) where
  too_many : 16 ≤ length (held d) → Inserts id d d (Err TooManyTouches)
  unfolding down_refusal
  too_many h =
      let r : down_refusal id (held d) ≡ 4 = rw (le-leb 16 (length (held d)) h) in
      record { answers = sym r; inserted = λ z. absurd (omega arith); refused = λ n. refl }

  duplicated : length (held d) < 16 → member id (held d) ≡ true → Inserts id d d (Err DuplicatedTouchDown)
  unfolding down_refusal
  duplicated h m =
      let r : down_refusal id (held d) ≡ 5 = rw (lt-leb 16 (length (held d)) h, m) in
      record { answers = sym r; inserted = λ z. absurd (omega arith); refused = λ n. refl }

  appended : (n : ℕ) → n ≡ length (held d) → length d.ids ≡ 16 → n < 16 → Holds (held d ++ (id ∷ [])) (record { ids = set d.ids n id; count = n + 1 })
  appended n e l h =
      let k : n ≡ d.count = omega (arith, length-take d.count d.ids) in
      let g : n < length d.ids = omega arith in
      record {
        ids_are = rw (add-one, take-suc-set d.ids n id g, k);
        counted = rw length-append (omega arith);
        within = omega arith;
      }

  new : (n : ℕ) → n ≡ length (held d) → length d.ids ≡ 16 → n < 16 → member id (held d) ≡ false → Inserts id d (record { ids = set d.ids n id; count = n + 1 }) (Ok tt)
  unfolding down_refusal
  new n e l h m =
      let r : down_refusal id (held d) ≡ 0 = rw (lt-leb 16 (length (held d)) (omega arith), m) in
      record { answers = sym r; inserted = λ z. appended n e l h; refused = λ f. absurd (f r) }

pub returns-then-n-eq-EIS_MAX_TOUCHES : goal.returns-then-n-eq-EIS_MAX_TOUCHES
returns-then-n-eq-EIS_MAX_TOUCHES c = too_many c.args.id c.args.self.now (omega arith)

pub returns-then-contains : goal.returns-then-contains
returns-then-contains c =
    let few_at : c.len-n.result < 16 = let d = c.args.self.now in
    let l : length d.ids ≡ 16 = search rules in
    omega (arith, held_bound d, c.if-n-eq-EIS_MAX_TOUCHES.false) in
    duplicated c.args.id c.args.self.now (omega (arith, few_at)) (sym c.contains.ensures ∙ c.if-contains.true)

pub offset_bounds-self-n : goal.offset_bounds-self-n
offset_bounds-self-n c =
    let few_at : c.len-n.result < 16 = let d = c.args.self.now in
    let l : length d.ids ≡ 16 = search rules in
    omega (arith, held_bound d, c.if-n-eq-EIS_MAX_TOUCHES.false) in
    omega (arith, few_at)

pub bounds-self-n : goal.bounds-self-n
bounds-self-n c =
    let few_at : c.len-n.result < 16 = let d = c.args.self.now in
    let l : length d.ids ≡ 16 = search rules in
    omega (arith, held_bound d, c.if-n-eq-EIS_MAX_TOUCHES.false) in
    few_at

pub overflow_add-self : goal.overflow_add-self
overflow_add-self c =
    let few_at : c.len-n.result < 16 = let d = c.args.self.now in
    let l : length d.ids ≡ 16 = search rules in
    omega (arith, held_bound d, c.if-n-eq-EIS_MAX_TOUCHES.false) in
    omega (arith, few_at)

pub returns : goal.returns
returns c =
    let few_at : c.len-n.result < 16 = let d = c.args.self.now in
    let l : length d.ids ≡ 16 = search rules in
    omega (arith, held_bound d, c.if-n-eq-EIS_MAX_TOUCHES.false) in
    new c.args.id c.args.self.now c.len-n.result c.len-n.ensures (search rules) (few_at) (sym c.contains.ensures ∙ c.if-contains.false)
