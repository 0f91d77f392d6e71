-- The handshake, a seat, the devices. Assumes nothing.
use Rattle.bench_calls.specs.Begun.{Begun}
use Rattle.bench_calls.proofs.start.begin.Goals as goal

pub returns : goal.returns
returns c = Begun.begun c.shaken.ensures c.add_seat.ensures c.add_devices.ensures
