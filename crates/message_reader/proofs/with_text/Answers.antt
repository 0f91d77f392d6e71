-- The string's text. Assumes nothing.
use native.Mathlib.Omega.{arith}
use Rattle.message_reader.specs.Read.{with_text}
use Rattle.message_reader.proofs.with_text.Goals as goal

pub returns : goal.returns
unfolding with_text
returns c =
    record { is = rw (← c.text_at-part.ensures.0, c.string_length.ensures.0); near = omega arith; inside = omega arith }
