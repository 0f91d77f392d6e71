-- The part that is lent comes back as the handshake left it. Assumes nothing.
use mathlib.Core.Path.{ap}
use mathlib.Core.List.{◌++◌}
use lib.ListN.{drop}
use Rattle.script_handshake.proofs.start.Goals as goal

pub returns : goal.returns
returns c =
    let later = c.new.new.out in
    record { later = later; holds = rw c.room-n.ensures at c.new.ensures; rest = ap (λ n. later ++ drop n c.args.out.now) c.room-n.ensures }
