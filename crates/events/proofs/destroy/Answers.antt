-- A record with the next serial. Assumes nothing.
use Rattle.std.proofs.Common.{length}
use Rattle.events.proofs.Writes.{destroyed-fits, destroys_one}
use Rattle.events.proofs.destroy.Goals as goal

pub send-at-requires : goal.send-at-requires
send-at-requires c =
    destroyed-fits c.args.mark.at (length c.args.out.now) _ _ c.requires

pub returns : goal.returns
returns c =
    destroys_one c.next_serial-serial.ensures c.send-at.ensures
