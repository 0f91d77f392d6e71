-- By cases on the context: its number means it again. Assumes nothing.
use mathlib.Core.Path.{refl}
use Rattle.lent_handshake.proofs.Words.{context_number_lem}
use Rattle.lent_handshake.specs.Lent.{context_at}
use Rattle.lent_handshake.proofs.context_word.Goals as goal

pub returns-in-Some : goal.returns-in-Some
returns-in-Some c =
    rw (c.in-Some.is, c.number.ensures) (refl, context_number_lem _)

pub returns-in-None : goal.returns-in-None
unfolding context_at
returns-in-None c =
    rw c.in-None.is (refl, refl)
