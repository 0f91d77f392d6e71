-- The part that is lent comes back as the handshake left it. Assumes nothing.
use mathlib.Core.Path.{ap}
use mathlib.Core.List.{◌++◌}
use lib.ListN.{drop}
use Rattle.script_handshake.proofs.take.Goals as goal

pub returns : goal.returns
returns c =
    let later = c.handle_request.new.out in
    record { later = later; holds = rw c.room-n.ensures at c.handle_request.ensures; rest = ap (λ n. later ++ drop n c.args.out.now) c.room-n.ensures }
