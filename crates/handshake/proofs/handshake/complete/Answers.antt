-- `handshake::handshake::complete` meets its contract: the three interfaces are asked for in the order of the definition. Assumes nothing.
use mathlib.Core.Bool.{false≢true}
use mathlib.Core.Path.{sym, ◌∙◌}
use Rattle.handshake.specs.Handshake.{complete}
use Rattle.handshake.proofs.handshake.complete.Goals as goal
use Rattle.handshake.proofs.handshake.complete.Goals.{then-has, else-has}

pub returns-then-has-2 : goal.returns-then-has-2
unfolding complete
returns-then-has-2 c =
    elim c.if-has.branch [
      | then-has w ↦ rw (← c.has.ensures, w.if-has.true, ← w.has-then-has.ensures, sym w.value-is ∙ c.if-has-2.true, c.has-then-has-2.ensures)
      | else-has w ↦ absurd (false≢true (sym w.if-has.false ∙ (sym w.value-is ∙ c.if-has-2.true)))
    ]

pub returns-else-has-2 : goal.returns-else-has-2
unfolding complete
returns-else-has-2 c =
    elim c.if-has.branch [
      | then-has w ↦ c.if-has-2.false ∙ rw (← c.has.ensures, w.if-has.true, ← w.has-then-has.ensures, sym w.value-is ∙ c.if-has-2.false)
      | else-has w ↦ c.if-has-2.false ∙ rw (← c.has.ensures, w.if-has.false)
    ]
