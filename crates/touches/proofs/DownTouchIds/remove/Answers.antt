-- The ids behind the id's place move down one by one. Assumes nothing.
use Prim.Native.Nat.{ℕ, suc, ◌+◌, ◌-◌, ◌≤◌, ◌<◌}
use mathlib.Core.Path.{◌≡◌, refl, sym, ap, ◌∙◌}
use mathlib.Core.Bool.{true, false, false≢true}
use native.Mathlib.Numerals.{add-one}
use native.Mathlib.Omega.{arith}
use borrow.Author.Rules.{rules}
use borrow.Author.Tests.{lt-ltb}
use lib.Dec.{eqb}
use lib.ListN.{length, take, get_or, set, length-take, length-set}
use lib.Seq.{get_or-set_other, take_all, take-take, take-suc-set, length-take-le}
use Rattle.std.specs.Prelude.{Some, None}
use Rattle.std.specs.List.{position}
use Rattle.touches.specs.declared.DownTouchIds.{DownTouchIds}
use Rattle.touches.specs.Touches.{held, member, without}
use Rattle.touches.specs.Changes.{Removes}
use Rattle.touches.proofs.Laws.{held_bound, held_at, place, place-member, position_none, position_some, without-first, without-next}
use Rattle.touches.proofs.DownTouchIds.remove.Invariants.{Moved}
use Rattle.touches.proofs.DownTouchIds.remove.Goals as goal

module _ (id : ℕ) (d : DownTouchIds) where
  unheld : position (λ y. eqb id y) (held d) ≡ None → Removes id d d false
  unheld e =
      let m = position_none id (held d) e in
      record { answers = sym m; removed = λ t. absurd (false≢true (sym m ∙ t)); unheld = λ f. refl }

  begins : (k : ℕ) → length d.ids ≡ 16 → position (λ y. eqb id y) (held d) ≡ Some k → Moved id d k d
  begins k l e =
      let p = position_some id (held d) k e in
      let n : k ≤ d.count = omega (arith, length-take d.count d.ids) in
      let w : without id (take (suc k) (held d)) ≡ take k (held d) = rw p.0 at (without-first id (held d) p.1) in
      record { from = omega arith; to = omega arith; places = l; ids = sym (w ∙ take-take k d.count d.ids n); behind = λ i g. refl }

  goes_on : (k : ℕ) (e : DownTouchIds) → length d.ids ≡ 16 → Moved id d k e → k + 1 < length (held d) → Moved id d (k + 1) (record { ids = set e.ids k (get_or e.ids (k + 1) 0); count = e.count })
  goes_on k e l m h =
      let b = held_bound d in
      let g : k < length e.ids = omega (arith, m.places) in
      record {
        from = omega (arith, m.from);
        to = h;
        places = length-set e.ids k (get_or e.ids (k + 1) 0) ∙ m.places;
        ids = rw (m.behind (k + 1) (omega arith), ← held_at d (k + 1) h, add-one, take-suc-set e.ids k (get_or (held d) (suc k) 0) g, m.ids, without-next id (held d) k m.from (omega arith));
        behind = λ i j. get_or-set_other e.ids k i (get_or e.ids (k + 1) 0) 0 (λ z. omega arith) ∙ m.behind i (omega arith);
      }

  ends : (k : ℕ) (e : DownTouchIds) → Moved id d k e → length d.ids ≡ 16 → length (held d) ≤ k + 1 → Removes id d (record { ids = e.ids; count = length (held d) - 1 }) true
  ends k e m l h =
      let b = held_bound d in
      let n : length (held d) - 1 ≡ k = omega arith in
      let t : member id (held d) ≡ true = sym (place-member id (held d)) ∙ lt-ltb (place id (held d)) (length (held d)) (omega arith) in
      let i : take k e.ids ≡ without id (held d) = m.ids ∙ ap (without id) (take_all (suc k) (held d) (omega arith)) in
      record {
        answers = sym t;
        removed = λ _. record {
          ids_are = rw n i;
          counted = rw n (sym (length-take-le k e.ids (omega arith)) ∙ ap length i);
          within = omega arith;
        };
        unheld = λ f. absurd (false≢true (sym f ∙ t));
      }

pub returns-in_default : goal.returns-in_default
returns-in_default c = unheld c.args.id c.args.self.now (sym c.position.ensures ∙ c.in_default.is)

pub loop-place-init : goal.loop-place-init
loop-place-init c =
    (c.in-Some.k, (refl, begins c.args.id c.args.self.now c.in-Some.k (search rules) (sym c.position.ensures ∙ c.in-Some.is)))

pub loop-place-preserved : goal.loop-place-preserved
loop-place-preserved c =
    let i = c.loop-place.invariant in
    let z : c.loop-place.place - 1 ≡ i.0 = omega (arith, i.1.0) in
    (i.0 + 1, (omega (arith, i.1.0), rw (z, i.1.0) (goes_on c.args.id c.args.self.now i.0 c.loop-place.self (search rules) i.1.1 (omega (arith, i.1.0)))))

pub returns : goal.returns
returns c =
    let i = c.loop-place.invariant in
    rw c.len-n.ensures (ends c.args.id c.args.self.now i.0 c.loop-place.self i.1.1 (search rules) (omega (arith, i.1.0)))
