-- Bytes that were handed on have the handshake's answer, and any other what is told of them. Assumes nothing.
use mathlib.Core.Path.{ap, ◌∙◌}
use Rattle.script_run.specs.declared.call.Told.{Told}
use Rattle.script_run.proofs.call.told_by.Goals as goal

pub returns-in-Ok : goal.returns-in-Ok
returns-in-Ok c = rw c.in-Ok.is

pub returns-in-Err : goal.returns-in-Err
returns-in-Err c = ap Told.Received c.unhanded.ensures ∙ rw c.in-Err.is
