-- `handshake::handshake::has` meets its contract: a row says whether its interface was negotiated. Assumes nothing.
use mathlib.Core.Path.{◌≡◌, ◌∙◌}
use native.Mathlib.Omega.{arith}
use borrow.Author.Rules.{rules}
use lib.ListN.{length}
use Rattle.handshake.proofs.Reports.{has-row, length-rows}
use Rattle.handshake.proofs.handshake.has.Goals as goal

pub returns : goal.returns
returns c =
    let l : length c.args.interfaces ≡ 12 = search (rules, length-rows) in
    c.is_some.ensures ∙ has-row c.args.interfaces c.args.number _ (omega arith)
