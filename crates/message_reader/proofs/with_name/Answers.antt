-- The string's text, and the number of its name. Assumes nothing.
use native.Mathlib.Omega.{arith}
use Rattle.message_reader.specs.Read.{with_name}
use Rattle.message_reader.proofs.with_name.Goals as goal

pub returns : goal.returns
unfolding with_name
returns c =
    record { is = rw (← c.text_at-part.ensures.0, c.string_length.ensures.0, c.name_at.ensures); near = omega arith; inside = omega arith }
