-- The count, then the ids are written. Assumes nothing.
use Rattle.std.proofs.Common.{ℕ, ◌+◌, get_or, set, subst, arith, rules}
use Rattle.control.specs.Control.{device_place}
use Rattle.control.proofs.Touches.{touches-set}
use Rattle.control.proofs.Changes.{Wrote}
use Rattle.control.proofs.edits.set_down_touch_ids.Goals as goal

pub returns : goal.returns
returns c =
    let a = c.args in
    touches-set a.control.now c.requires.0 a.k c.requires.1.0 c.loop-j.control a.touches c.requires.1.1 (search rules) (λ i l. search rules)
    (subst (λ (n : ℕ). Wrote (set a.control.now (device_place a.k + 5) a.touches.count) c.loop-j.control (device_place a.k + 6) n (λ i. get_or a.touches.ids i 0))
    (omega arith) c.loop-j.invariant)
