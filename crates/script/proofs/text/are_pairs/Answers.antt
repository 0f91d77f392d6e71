-- An even number of digits. Assumes nothing.
use Rattle.std.proofs.Common.{rules, tests, ℕ, List, ap, sym, ◌∙◌}
use borrow.Author.Tests.{eqb-true, eqb-false}
use Rattle.std.proofs.lemmas.Iterator.{YieldsList-from_slice}
use Rattle.std.proofs.lemmas.Iterator.Search.{all_from_yields_List}
use Rattle.std.specs.List.{list_all}
use Rattle.script.proofs.Texts.{are_digits, pairs_even, pairs_odd}
use Rattle.script.proofs.text.are_pairs.Goals as goal

pub returns-then-is_empty : goal.returns-then-is_empty
returns-then-is_empty c =
    let e = eqb-true _ 0 (sym c.is_empty.ensures ∙ c.if-is_empty.true) in
    all_from_yields_List are_digits _ _ c.all.result c.all.ensures.ran
    (YieldsList-from_slice _ c.iter.ensures.rest)
    (λ x b q k. search (rules, tests))
    ∙ ap (λ (l : List (List ℕ)). list_all are_digits l) c.as_chunks.ensures.front
    ∙ pairs_even c.args.digits.now (sym c.as_chunks.ensures.back_len ∙ e)

pub returns-else-is_empty : goal.returns-else-is_empty
returns-else-is_empty c =
    c.if-is_empty.false ∙ pairs_odd c.args.digits.now (λ e. eqb-false _ 0 (sym c.is_empty.ensures ∙ c.if-is_empty.false) (c.as_chunks.ensures.back_len ∙ e))
