-- `handshake::handshake::report` meets its contract. The loop's invariant: the report of the rows passed stands at the start of the buffer. Assumes nothing.
use Prim.Native.Nat.{◌+◌, ◌≤◌}
use mathlib.Core.Path.{◌≡◌}
use native.Mathlib.Omega.{arith}
use borrow.Author.Rules.{rules}
use lib.ListN.{length, length-map}
use lib.Seq.{take_all}
use Rattle.wire.proofs.Splices.{wrote_none}
use Rattle.handshake.specs.Handshake.{report}
use Rattle.handshake.specs.View.{versions_of}
use Rattle.handshake.proofs.Reports.{wrote_hit, report-le, report_miss, length-rows}
use Rattle.handshake.proofs.handshake.report.Goals as goal
use Rattle.handshake.proofs.handshake.report.Goals.{in-Some, in_default}

pub loop-i-init : goal.loop-i-init
unfolding report
loop-i-init c =
    wrote_none _ 0

pub overflow_add-at : goal.overflow_add-at
overflow_add-at c =
    let s = c.loop-i in
    let rows = c.args.interfaces in
    let n : length rows ≡ 12 = search (rules, length-rows) in
    let turn = wrote_hit rows s.i _ (omega arith) c.in-Some.is s.invariant c.send-at.ensures c.requires in
    omega (arith, turn.long, report-le (s.i + 1) (versions_of rows))

pub loop-i-preserved : goal.loop-i-preserved
loop-i-preserved c =
    let s = c.loop-i in
    let rows = c.args.interfaces in
    let n : length rows ≡ 12 = search (rules, length-rows) in
    elim c.match-version.branch [
      | in-Some w ↦ rw (w.out-is, w.at-is) (wrote_hit rows s.i _ (omega arith) w.in-Some.is s.invariant w.send-at.ensures c.requires)
      | in_default w ↦ rw (w.out-is, w.at-is, report_miss rows s.i _ (omega arith) w.in_default.is) s.invariant
    ]

pub returns : goal.returns
returns c =
    let rows = c.args.interfaces in
    let n : length rows ≡ 12 = search (rules, length-rows) in
    let l : length (versions_of rows) ≤ c.loop-i.i = rw length-map (omega arith) in
    rw take_all at c.loop-i.invariant
