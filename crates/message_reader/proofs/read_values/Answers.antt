-- One behind another, in the message's order. Assumes nothing.
use mathlib.Core.Path.{◌∙◌}
use Rattle.message_reader.proofs.Steps.{read_swapped, read_straight}
use Rattle.message_reader.proofs.read_values.Goals as goal

pub returns-then-s : goal.returns-then-s
returns-then-s c =
    (c.read_of.ensures ∙ read_swapped _ _ c.if-s.true c.read_argument-second.ensures.is c.read_argument-first.ensures.is c.read_argument-third.ensures.is, rw c.read_of.ensures c.read_argument-third.ensures.inside)

pub returns : goal.returns
returns c =
    (c.read_of-2.ensures ∙ read_straight _ _ c.if-s.false c.read_argument-first-2.ensures.is c.read_argument-second-2.ensures.is c.read_argument-third-2.ensures.is, rw c.read_of-2.ensures c.read_argument-third-2.ensures.inside)
