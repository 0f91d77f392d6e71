-- `handshake::handshake::name_of` meets its contract: the bytes copied are the text's. Assumes nothing.
use mathlib.Core.Option.{some}
use mathlib.Core.Path.{ap}
use lib.Seq.{take-append_seam}
use Rattle.handshake.specs.View.{name_of}
use Rattle.handshake.proofs.handshake.name_of.Goals as goal

pub returns : goal.returns
unfolding name_of
returns c =
    (ap some (rw c.copy_from_slice.ensures.after (take-append_seam c.args.text.now _)), c.requires)
