-- Ten bytes and the name. Assumes nothing.
use Rattle.std.proofs.Common.{arith}
use Rattle.events.proofs.Named.{name_length_lem}
use Rattle.events.proofs.named_length.Goals as goal

pub returns : goal.returns
returns c = (c.record_length.ensures, omega (arith, c.record_length.ensures, name_length_lem c.args.name.now))
