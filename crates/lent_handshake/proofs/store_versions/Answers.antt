-- The loop's invariant: the words stored so far say what the rows do. Assumes nothing.
use mathlib.Core.Path.{◌≡◌, refl}
use native.Mathlib.Omega.{arith}
use borrow.Author.Rules.{rules}
use lib.ListN.{length}
use Rattle.handshake.proofs.Reports.{length-rows}
use Rattle.control.specs.Table.{tab}
use Rattle.lent_handshake.proofs.Words.{store-next, store_all}
use Rattle.lent_handshake.proofs.store_versions.Goals as goal

pub loop-i-init : goal.loop-i-init
unfolding tab
loop-i-init c =
    refl

pub loop-i-preserved : goal.loop-i-preserved
loop-i-preserved c =
    let s = c.loop-i in
    let rows = c.args.versions in
    let n : length rows ≡ 12 = search (rules, length-rows) in
    store-next s.words rows s.i _ _ (omega arith) (omega arith) c.version_word.ensures s.invariant

pub returns : goal.returns
returns c =
    let s = c.loop-i in
    let rows = c.args.versions in
    let n : length rows ≡ 12 = search (rules, length-rows) in
    store_all s.words rows s.i n (omega arith) s.invariant
