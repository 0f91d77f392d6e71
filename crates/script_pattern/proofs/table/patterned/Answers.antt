-- The loop's invariant: what puts the rest of the pattern puts it all. Assumes nothing.
use Rattle.std.proofs.Common.{arith, get_or}
use Rattle.script_pattern.specs.Pattern.{values}
use Rattle.script_pattern.proofs.Lines.{rest_on, rest_end}
use Rattle.script_pattern.proofs.Patterns.{patterned_on, patterned-end, takes-most}
use Rattle.script_pattern.proofs.table.patterned.Goals as goal

pub overflow_add-place : goal.overflow_add-place
overflow_add-place c =
    let l = c.loop-c in
    omega (arith, c.takes-place.ensures, takes-most (get_or c.args.pattern.now l.c-index 0), l.invariant.0, c.loop-c-test.true)

pub loop-c-preserved : goal.loop-c-preserved
loop-c-preserved c =
    let a = c.args in
    let l = c.loop-c in
    let m = takes-most (get_or a.pattern.now l.c-index 0) in
    let on = patterned_on a.pattern.now (values a.s) a.text.now l.c-index l.place c.loop-c-test.true in (
      omega (arith, c.takes-place.ensures, m),
      rw (← c.takes-place.ensures) at (rest_on l.invariant.1 on (rw c.value.ensures at c.show.ensures)),
    )

pub returns : goal.returns
returns c =
    let a = c.args in
    let l = c.loop-c in
    rest_end l.invariant.1 (patterned-end a.pattern.now (values a.s) a.text.now l.c-index l.place (omega arith))
