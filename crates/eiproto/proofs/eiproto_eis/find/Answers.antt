-- The first number from 1 to 12 whose name it is. Assumes nothing.
use mathlib.Core.Path.{◌≡◌, refl, sym, ap, ◌∙◌}
use borrow.Author.Rules.{rules}
use Rattle.std.proofs.Common.{nat_eq, tests}
use Rattle.std.specs.List.{find, range_with_len}
use Rattle.std.specs.Cmp.Lexicographic.{pointwise}
use Rattle.std.proofs.lemmas.Iterator.{YieldsList-from_range}
use Rattle.std.proofs.lemmas.Iterator.Adapters.{option_map_id}
use Rattle.std.proofs.lemmas.Iterator.Search.{find_from_yields_List}
use Rattle.eiproto.specs.Told.{told}
use Rattle.eiproto.specs.Interface.{interface_name}
use Rattle.eiproto.proofs.Interface.{looked_up}
use Rattle.eiproto.proofs.eiproto_eis.find.Goals as goal

pub returns : goal.returns
returns c =
    let found : c.find.result ≡ find (λ i. pointwise nat_eq (interface_name i) c.args.name.now) (range_with_len 1 12) =
    sym (option_map_id c.find.result)
    ∙ find_from_yields_List (λ i. pointwise nat_eq (interface_name i) c.args.name.now) _ _ c.find.result c.find.ensures.ran
    (YieldsList-from_range 1 13 12 refl refl) (λ x b q k. search (rules, tests)) in
    ap told found ∙ looked_up c.args.name.now
