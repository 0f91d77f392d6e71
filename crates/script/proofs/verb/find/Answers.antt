-- The first row with the word. Assumes nothing.
use Rattle.std.proofs.Common.{rules, tests, ◌≡◌, ap, ◌∙◌, position, bytes_eq}
use Rattle.std.proofs.lemmas.Iterator.{YieldsList-from_slice}
use Rattle.std.proofs.lemmas.Iterator.Search.{position_from_yields_List}
use Rattle.eiproto.specs.Told.{told}
use Rattle.script.specs.declared.verb.TheConstants.{ROWS}
use Rattle.script.proofs.Table.{searched}
use Rattle.script.proofs.verb.find.Goals as goal

pub returns-clause-row : goal.returns-clause-row
returns-clause-row c =
    let p : c.position.result ≡ position (λ r. bytes_eq r.0.now c.args.word.now) ROWS =
    position_from_yields_List (λ r. bytes_eq r.0.now c.args.word.now) _ _ c.position.result c.position.ensures.ran
    (YieldsList-from_slice _ c.iter.ensures.rest) (λ x b q k. search (rules, tests)) in
    ap told p ∙ searched c.args.word.now
