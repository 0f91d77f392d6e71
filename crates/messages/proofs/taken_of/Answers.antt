-- An answer refuses nothing, and an error does. Assumes nothing.
use Rattle.answers.proofs.Meetings.{error_refuses, ending_goes_on}
use Rattle.model_reads.specs.Message.{taken_of}
use Rattle.messages.proofs.taken_of.Goals as goal

pub returns-in-Ok : goal.returns-in-Ok
unfolding taken_of
returns-in-Ok c = rw (c.in-Ok.is, ending_goes_on _)

pub returns-in-Err : goal.returns-in-Err
unfolding taken_of
returns-in-Err c = rw (c.in-Err.is, error_refuses _)
