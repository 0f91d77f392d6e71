-- Each refusal has its number. Assumes nothing.
use Rattle.answers.specs.Answer.{number_of}
use Rattle.model.specs.Plan.{refusal}
use Rattle.bozterrun.proofs.event_bytes.error_number.Goals as goal

pub returns-in-ShortOut : goal.returns-in-ShortOut
unfolding number_of refusal
returns-in-ShortOut c = rw (c.number.ensures, c.in-ShortOut.is)
