-- 0 is no version, and the version of any other number stands below it. Assumes nothing.
use Rattle.lent_handshake.specs.Lent.{version_at}
use Rattle.lent_handshake.proofs.Words.{version_below}
use Rattle.lent_handshake.proofs.version_of.Goals as goal

pub returns-then-n-eq0 : goal.returns-then-n-eq0
unfolding version_at
returns-then-n-eq0 c =
    rw c.if-n-eq0.true

pub returns-else-n-eq0 : goal.returns-else-n-eq0
returns-else-n-eq0 c =
    version_below _ _ c.if-n-eq0.false c.low.ensures
