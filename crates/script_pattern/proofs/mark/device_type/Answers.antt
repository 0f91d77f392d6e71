-- Each number has its arm. Assumes nothing.
use mathlib.Core.Path.{sym, ap}
use borrow.Author.Tests.{ne_eqb}
use Rattle.eiproto.specs.Interface.{ascii}
use Rattle.script_pattern.specs.Words.{device_type}
use Rattle.script_pattern.proofs.Lines.{written_is}
use native.Mathlib.Omega.{arith}
use Rattle.script_pattern.proofs.mark.device_type.Goals as goal

pub returns-in-1 : goal.returns-in-1
unfolding device_type ascii
returns-in-1 c =
    written_is c.bytes.ensures (sym (ap device_type c.in-1.is))

pub returns-in-2 : goal.returns-in-2
unfolding device_type ascii
returns-in-2 c =
    written_is c.bytes-in-2.ensures (sym (ap device_type c.in-2.is))

pub returns-in_default : goal.returns-in_default
unfolding device_type
returns-in_default c =
    let n = c.args.n in
    written_is c.decimal.ensures (rw (ne_eqb n 1 (omega arith), ne_eqb n 2 (omega arith)))
