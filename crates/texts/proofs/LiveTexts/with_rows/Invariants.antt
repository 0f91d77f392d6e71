-- The requests of the first j rows are counted. Assumes nothing.
use Rattle.std.proofs.Common.{◌+◌}
use Rattle.requests.specs.Row.{row_at}
use Rattle.texts.specs.Texts.{Counted}
use Rattle.texts.proofs.LiveTexts.with_rows.Given as goal

abbrev pub invariant-loop-j : goal.invariant-loop-j
invariant-loop-j l =
    Counted l.initial.live l.live l.j (λ i. (row_at l.words l.reals (l.row + i)).slot)
