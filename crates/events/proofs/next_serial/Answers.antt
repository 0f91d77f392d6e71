-- A sum that wraps is the remainder of the sum. Assumes nothing.
use Rattle.std.proofs.Common.{refl}
use Rattle.model.specs.Edit.{next_serial}
use Rattle.events.proofs.next_serial.Goals as goal

pub returns : goal.returns
unfolding next_serial
returns c = refl
