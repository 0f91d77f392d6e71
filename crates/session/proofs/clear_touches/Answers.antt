-- No touch is left. Assumes nothing.
use Rattle.session.proofs.Edits.{touches_cleared}
use Rattle.session.proofs.clear_touches.Goals as goal

pub returns : goal.returns
returns c =
    touches_cleared c.requires.1 c.clear.ensures c.set_down_touch_ids.ensures
