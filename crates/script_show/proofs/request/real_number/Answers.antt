-- Only a NaN has no bits. Assumes nothing.
use mathlib.Core.Path.{sym, ◌∙◌}
use Rattle.script_pattern.specs.Words.{real_number}
use Rattle.script_show.proofs.request.real_number.Goals as goal

pub returns-then-is_nan : goal.returns-then-is_nan
unfolding real_number
returns-then-is_nan c = rw (sym c.if-is_nan.ensures.value)

pub returns : goal.returns
unfolding real_number
returns c = c.from.ensures ∙ rw (sym c.if-is_nan.ensures.value)
