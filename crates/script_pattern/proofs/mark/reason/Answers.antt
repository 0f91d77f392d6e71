-- Each number has its arm. Assumes nothing.
use mathlib.Core.Path.{sym, ap}
use borrow.Author.Tests.{ne_eqb}
use Rattle.eiproto.specs.Interface.{ascii}
use Rattle.script_pattern.specs.Words.{reason}
use Rattle.script_pattern.proofs.Lines.{written_is}
use native.Mathlib.Omega.{arith}
use Rattle.script_pattern.proofs.mark.reason.Goals as goal

pub returns-in-0 : goal.returns-in-0
unfolding reason ascii
returns-in-0 c =
    written_is c.bytes.ensures (sym (ap reason c.in-0.is))

pub returns-in-1 : goal.returns-in-1
unfolding reason ascii
returns-in-1 c =
    written_is c.bytes-in-1.ensures (sym (ap reason c.in-1.is))

pub returns-in-2 : goal.returns-in-2
unfolding reason ascii
returns-in-2 c =
    written_is c.bytes-in-2.ensures (sym (ap reason c.in-2.is))

pub returns-in-3 : goal.returns-in-3
unfolding reason ascii
returns-in-3 c =
    written_is c.bytes-in-3.ensures (sym (ap reason c.in-3.is))

pub returns-in-4 : goal.returns-in-4
unfolding reason ascii
returns-in-4 c =
    written_is c.bytes-in-4.ensures (sym (ap reason c.in-4.is))

pub returns-in-5 : goal.returns-in-5
unfolding reason ascii
returns-in-5 c =
    written_is c.bytes-in-5.ensures (sym (ap reason c.in-5.is))

pub returns-in_default : goal.returns-in_default
unfolding reason
returns-in_default c =
    let n = c.args.n in
    written_is c.decimal.ensures (rw (ne_eqb n 0 (omega arith), ne_eqb n 1 (omega arith), ne_eqb n 2 (omega arith), ne_eqb n 3 (omega arith), ne_eqb n 4 (omega arith), ne_eqb n 5 (omega arith)))
