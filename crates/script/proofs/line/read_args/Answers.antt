-- The four slots in turn: each says what is left to read of the words. Assumes nothing.
use Rattle.std.proofs.Common.{arith}
use Rattle.script.proofs.Lines.{none_a, none_b, none_c, none_d, more_args, all_given}
use Rattle.script.proofs.line.read_args.Goals as goal

pub returns-in_err-a : goal.returns-in_err-a
returns-in_err-a c =
    none_a c.args.line.now c.args.at c.args.i c.args.within (omega (arith, c.requires)) _ c.from_residual.ensures (rw c.kind_at.ensures at c.in_err-a.ensures)

pub returns-in_err-b : goal.returns-in_err-b
returns-in_err-b c =
    let sa = rw c.kind_at.ensures at c.in_ok-a.ensures in
    none_b c.args.line.now c.args.at c.args.i c.args.within (omega (arith, c.requires)) c.in_ok-a.a c.in_ok-a.p sa _ c.from_residual-in_err-b.ensures (rw c.kind_at-2.ensures at c.in_err-b.ensures)

pub returns-in_err-c : goal.returns-in_err-c
returns-in_err-c c =
    let sa = rw c.kind_at.ensures at c.in_ok-a.ensures in
    let sb = rw c.kind_at-2.ensures at c.in_ok-b.ensures in
    none_c c.args.line.now c.args.at c.args.i c.args.within (omega (arith, c.requires)) c.in_ok-a.a c.in_ok-a.p sa c.in_ok-b.b c.in_ok-b.q sb _ c.from_residual-in_err-c.ensures (rw c.kind_at-3.ensures at c.in_err-c.ensures)

pub returns-in_err-d : goal.returns-in_err-d
returns-in_err-d c =
    let sa = rw c.kind_at.ensures at c.in_ok-a.ensures in
    let sb = rw c.kind_at-2.ensures at c.in_ok-b.ensures in
    let sc = rw c.kind_at-3.ensures at c.in_ok-c.ensures in
    none_d c.args.line.now c.args.at c.args.i c.args.within (omega (arith, c.requires)) c.in_ok-a.a c.in_ok-a.p sa c.in_ok-b.b c.in_ok-b.q sb c.in_ok-c.c c.in_ok-c.r sc _ c.from_residual-in_err-d.ensures (rw c.kind_at-4.ensures at c.in_err-d.ensures)

pub returns-then-s-line : goal.returns-then-s-line
returns-then-s-line c =
    let sa = rw c.kind_at.ensures at c.in_ok-a.ensures in
    let sb = rw c.kind_at-2.ensures at c.in_ok-b.ensures in
    let sc = rw c.kind_at-3.ensures at c.in_ok-c.ensures in
    let sd = rw c.kind_at-4.ensures at c.in_ok-d.ensures in
    more_args c.args.line.now c.args.at c.args.i c.args.within (omega (arith, c.requires)) c.in_ok-a.a c.in_ok-a.p sa c.in_ok-b.b c.in_ok-b.q sb c.in_ok-c.c c.in_ok-c.r sc c.in_ok-d.d c.in_ok-d.s sd c.if-s-line.true

pub returns : goal.returns
returns c =
    let sa = rw c.kind_at.ensures at c.in_ok-a.ensures in
    let sb = rw c.kind_at-2.ensures at c.in_ok-b.ensures in
    let sc = rw c.kind_at-3.ensures at c.in_ok-c.ensures in
    let sd = rw c.kind_at-4.ensures at c.in_ok-d.ensures in
    all_given c.args.line.now c.args.at c.args.i c.args.within (omega (arith, c.requires)) c.in_ok-a.a c.in_ok-a.p sa c.in_ok-b.b c.in_ok-b.q sb c.in_ok-c.c c.in_ok-c.r sc c.in_ok-d.d c.in_ok-d.s sd c.if-s-line.false
