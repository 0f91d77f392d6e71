-- The loop's invariant: the rows made so far are what the words say. Assumes nothing.
use mathlib.Core.Path.{◌≡◌, refl}
use native.Mathlib.Omega.{arith}
use borrow.Author.Rules.{rules}
use lib.ListN.{length, length-set}
use Rattle.handshake.proofs.Reports.{length-rows}
use Rattle.control.specs.Table.{tab}
use Rattle.lent_handshake.proofs.Words.{load-next, load_all}
use Rattle.lent_handshake.proofs.load_versions.Goals as goal

pub loop-i-init : goal.loop-i-init
unfolding tab
loop-i-init c =
    let n : length c.args.versions.now ≡ 12 = search (rules, length-rows) in
    (n, refl)

pub loop-i-preserved : goal.loop-i-preserved
loop-i-preserved c =
    let s = c.loop-i in
    (simp length-set (omega arith), load-next c.args.words.now s.versions s.i _ (omega arith) c.version_of.ensures s.invariant.1)

pub returns : goal.returns
returns c =
    let s = c.loop-i in
    load_all c.args.words.now s.versions s.i s.invariant.0 (omega arith) s.invariant.1
