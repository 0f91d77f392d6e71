-- The touch is new and there is room for it: it comes last. Assumes nothing.
use Rattle.session.proofs.Edits.{touch_downed, inserts}
use native.Mathlib.Omega.{arith}
use Rattle.session.proofs.touch_down.Goals as goal

pub set_down_touch_ids-requires : goal.set_down_touch_ids-requires
set_down_touch_ids-requires c =
    (c.requires.0, (omega (arith, c.requires.0.devices), (inserts c.args.touch c.down_touch_ids-held.ensures c.insert.ensures.inserted c.requires.1.1.0 c.requires.1.1.1).within))

pub returns : goal.returns
returns c =
    touch_downed c.requires.1.0 (inserts c.args.touch c.down_touch_ids-held.ensures c.insert.ensures.inserted c.requires.1.1.0 c.requires.1.1.1) c.set_down_touch_ids.ensures
