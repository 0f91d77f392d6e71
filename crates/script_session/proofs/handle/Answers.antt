-- The part that is lent comes back as its call left it. Assumes nothing.
use mathlib.Core.Path.{refl}
use Rattle.script_session.proofs.Rooms.{in_part}
use Rattle.script_session.proofs.handle.Goals as goal

pub returns : goal.returns
returns c = in_part _ c.room-n.ensures c.handle_request.ensures refl
