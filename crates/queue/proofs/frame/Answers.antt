-- Nothing is pending; or the rows are copied, the Frame is put behind them, and the counts are set. Assumes nothing.
use native.Mathlib.Omega.{arith}
use Prim.Native.Nat.{◌+◌, ◌≤◌, ◌<◌}
use Rattle.requests.specs.Row.{row_at}
use Rattle.control.specs.Control.{queue_limit}
use Rattle.queue.proofs.Room.{frame-room}
use Rattle.queue.proofs.Entries.{frame-request}
use Rattle.queue.proofs.Edits.{enacted, slots_stay, framed-none, framed-some}
use Rattle.queue.proofs.frame.Goals as goal

pub returns-then-n-eq0-clause-step : goal.returns-then-n-eq0-clause-step
returns-then-n-eq0-clause-step c =
    let a = c.args in (
      λ texts load.
          enacted c.args.session.now.lent.sound
          (framed-none a.session.now.control.now (row_at a.session.now.words.now a.session.now.reals.now) texts a.k a.serial a.time c.requires.0
          (omega (arith, c.pending_count-n.ensures, c.if-n-eq0.true)) load),
      λ j less. absurd (omega (arith, less, c.pending_count-n.ensures, c.if-n-eq0.true)),
    )

pub returns-clause-step : goal.returns-clause-step
returns-clause-step c =
    let some_at : 0 < c.pending_count-n.result = omega (arith, c.if-n-eq0.false) in
    let fits_at : c.of-ring.result.length + c.pending_count-n.result + 1 ≤ queue_limit = let a = c.args in
    frame-room a.session.now.control.now a.k c.pending_count-n.ensures (some_at) c.of-ring.ensures.1 c.requires.1 in
    let device = c.device_id-device in
    let a = c.args in (
      λ texts load.
          enacted c.set_pending.ensures.sound
          (framed-some c.args.session.now.lent.sound c.copy_pending.ensures c.put_cell.ensures c.set_queue.ensures c.set_pending.ensures c.requires.0 c.pending_count-n.ensures (some_at)
          c.of-ring.ensures.0 c.of-ring.ensures.1 (fits_at) device.ensures (omega (arith, c.row.ensures.0)) (omega arith) (omega arith) texts
          a.serial (frame-request texts device.result a.serial a.time c.frame-frame.ensures) load),
      slots_stay c.copy_pending.ensures c.put_cell.ensures c.row.ensures.0 (fits_at) c.of-ring.ensures.0
          c.of-ring.ensures.1 c.pending_count-n.ensures,
    )
