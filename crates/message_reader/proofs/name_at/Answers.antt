-- What `find` answers of the part's bytes. Assumes nothing.
use mathlib.Core.Path.{◌∙◌}
use Rattle.message_reader.proofs.Steps.{named}
use Rattle.message_reader.proofs.name_at.Goals as goal

pub returns-in-Some : goal.returns-in-Some
returns-in-Some c = c.from.ensures ∙ named _ _ _ c.find.ensures c.in-Some.is

pub returns-in-None : goal.returns-in-None
returns-in-None c = named _ _ _ c.find.ensures c.in-None.is
