-- Held or not, what is left is the list without it. Assumes nothing.
use Rattle.session.proofs.Edits.{touch_upped, removes}
use native.Mathlib.Omega.{arith}
use Rattle.session.proofs.touch_up.Goals as goal

pub set_down_touch_ids-requires : goal.set_down_touch_ids-requires
set_down_touch_ids-requires c =
    (c.requires.0, (omega (arith, c.requires.0.devices), (removes c.down_touch_ids-held.ensures c.remove.ensures).within))

pub returns : goal.returns
returns c =
    touch_upped c.requires.1 (removes c.down_touch_ids-held.ensures c.remove.ensures) c.set_down_touch_ids.ensures
