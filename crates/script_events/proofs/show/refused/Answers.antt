-- Each case has its number. Assumes nothing.
use native.Mathlib.Omega.{arith}
use Rattle.answers.specs.Answer.{number_of}
use Rattle.script_events.proofs.show.refused.Goals as goal

pub refusal-requires-in-ShortOut : goal.refusal-requires-in-ShortOut
unfolding number_of
refusal-requires-in-ShortOut c = omega (arith, c.number.ensures)

pub returns-in-ShortOut : goal.returns-in-ShortOut
unfolding number_of
returns-in-ShortOut c = rw c.in-ShortOut.is (rw c.number.ensures at c.refusal-in-ShortOut.ensures)
