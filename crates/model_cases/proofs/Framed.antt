-- The trial lines hold, by computation, and no wrong history is a list of blocks. Assumes nothing.
use Prim.Native.Nat.{ℕ}
use mathlib.Core.Path.{◌≡◌, refl, ap, sym, ◌∙◌}
use mathlib.Core.Bool.{true, false, true≢false}
use mathlib.Core.List.{List, [], ◌∷◌, ◌++◌, map, append_assoc}
use mathlib.Core.Option.{none, some}
use borrow.Author.Tests.{eq-eqb}
use Rattle.model.specs.Call.{Load}
use Rattle.model.specs.Session.{Item, Untimed, Queued}
use Rattle.model.specs.Framed.{Block, in_block, in_all_blocks}
use Rattle.model_cases.specs.Framed.{trials, computed, expected, four, four_numbers, numbers_in, closes_run, passes, wrong, AlwaysShutOut}

pub framed-lines : map computed trials ≡ map expected trials
unfolding trials computed expected
framed-lines = refl

pub four_numbers_lem : numbers_in four ≡ four_numbers
unfolding numbers_in
four_numbers_lem = refl

-- the rest of a run, its Frame, and what comes behind
run-passes : (d s t : ℕ) (is : List (Item Load)) (rs : List (Queued Load)) → passes none rs ≡ true →
    passes (some (record { device = d; time = t })) (map (λ x. Queued.timed d t x) is ++ (Queued.untimed (Untimed.Frame d s t) ∷ rs)) ≡ true
unfolding passes closes_run
run-passes d s t [] rs h = rw (eq-eqb d d refl, eq-eqb t t refl) h
run-passes d s t (i ∷ is) rs h = rw (eq-eqb d d refl, eq-eqb t t refl) (run-passes d s t is rs h)

blocks_pass : (bs : List (Block Load)) → passes none (in_all_blocks bs) ≡ true
unfolding in_all_blocks in_block passes
blocks_pass [] = refl
blocks_pass (Block.lone u h ∷ bs) = rw h (blocks_pass bs)
blocks_pass (Block.frame d s t i is ∷ bs) =
    rw (append_assoc (map (λ x. Queued.timed d t x) is) (Queued.untimed (Untimed.Frame d s t) ∷ []) (in_all_blocks bs)) (run-passes d s t is (in_all_blocks bs) (blocks_pass bs))

pub shut_out : AlwaysShutOut
shut_out rs h bs e = true≢false (sym (blocks_pass bs) ∙ ap (passes none) (sym e) ∙ h)

pub wrong_fail : map (passes none) wrong ≡ map (λ rs. false) wrong
unfolding passes
wrong_fail = refl
