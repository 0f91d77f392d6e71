-- `wire::event::fixed_length` meets its contract: ten bytes, and those of the numbers. Assumes nothing.
use mathlib.Core.Path.{sym, ◌∙◌}
use Rattle.wire.proofs.Records.{fixed_is}
use Rattle.wire.proofs.event.fixed_length.Goals as goal

pub returns : goal.returns
returns c = c.fixed.ensures ∙ sym (fixed_is c.fields_of.ensures)
