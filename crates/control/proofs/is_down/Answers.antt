-- `any` over the words of the ids that are down. Assumes nothing.
use Rattle.std.proofs.Common.{◌≡◌, ℕ, ◌+◌, ◌-◌, ◌%◌, ◌^◌, eqb, List, take, drop, sym, ap, ◌∙◌, arith, rules, tests}
use Rattle.std.proofs.lemmas.Iterator.{YieldsList-from_slice}
use Rattle.std.proofs.lemmas.Iterator.Search.{any_from_yields_List}
use Rattle.control.specs.Control.{device_place, held_at}
use Rattle.control.proofs.Touches.{touches-length, down-member}
use Rattle.control.proofs.is_down.Goals as goal

pub returns : goal.returns
returns c =
    let a = c.args in
    let w : List ℕ = a.control.now in
    let at : ℕ = device_place a.k + 6 in
    let n : at + c.touch_count.result - at ≡ held_at w a.k = omega (arith, c.touch_count.ensures, touches-length w c.requires.0 a.k c.requires.1) in
    any_from_yields_List (λ x. eqb (x % 2 ^ 32) a.touch) _ _ c.any.result c.any.ensures.ran
    (YieldsList-from_slice (take (held_at w a.k) (drop at w)) (c.iter.ensures.rest ∙ ap (λ (m : ℕ). take m (drop at w)) n)) (λ x b q k. search (rules, tests))
    ∙ sym (down-member w c.requires.0 a.k c.requires.1 a.touch)
