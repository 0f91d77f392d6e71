-- 0 is false. Assumes nothing.
use borrow.Author.Tests.{eq-eqb, ne_eqb}
use Rattle.eiproto.specs.Interface.{ascii}
use Rattle.script_pattern.specs.Words.{truth}
use Rattle.script_pattern.proofs.Lines.{written_is}
use Rattle.script_pattern.proofs.mark.truth.Goals as goal

pub returns-then-n-eq0 : goal.returns-then-n-eq0
unfolding truth ascii
returns-then-n-eq0 c =
    written_is c.bytes.ensures (rw (eq-eqb c.args.n 0 c.if-n-eq0.true))

pub returns-else-n-eq0 : goal.returns-else-n-eq0
unfolding truth ascii
returns-else-n-eq0 c =
    written_is c.bytes-else-n-eq0.ensures (rw (ne_eqb c.args.n 0 c.if-n-eq0.false))
