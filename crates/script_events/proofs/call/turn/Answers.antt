-- The part that is lent comes back as the reader left it. Assumes nothing.
use Rattle.script_events.proofs.call.turn.Goals as goal

pub returns-in-Read : goal.returns-in-Read
returns-in-Read c =
    rw c.in-Read.is (record { later = c.read_message.new.out; holds = rw c.room-n.ensures at c.read_message.ensures; rest = rw c.room-n.ensures })
