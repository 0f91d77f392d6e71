-- The number above a version is not 0, and stands for it. Assumes nothing.
use native.Mathlib.Omega.{arith}
use Rattle.lent_handshake.specs.Lent.{version_at}
use Rattle.lent_handshake.proofs.Words.{version-above}
use Rattle.lent_handshake.proofs.version_word.Goals as goal

pub returns-in-Some : goal.returns-in-Some
returns-in-Some c =
    rw (c.in-Some.is, c.from.ensures) (version-above _ (omega arith))

pub returns-in-None : goal.returns-in-None
unfolding version_at
returns-in-None c =
    rw c.in-None.is
