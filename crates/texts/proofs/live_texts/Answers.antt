-- The devices before k are passed; then the two runs of the queue. Assumes nothing.
use Rattle.std.proofs.Common.{refl, arith}
use Rattle.control.specs.Control.{queue_head}
use Rattle.control.proofs.Sounds.{pending_bound}
use Rattle.texts.proofs.Marks.{counted_none}
use Rattle.texts.proofs.Scans.{passed_none, passed-step, queue-counted, passed-live}
use Rattle.texts.proofs.live_texts.Goals as goal

pub loop-k-init : goal.loop-k-init
loop-k-init c =
    let a = c.args in passed_none a.session.now.control.now a.session.now.words.now a.session.now.reals.now

pub with_rows-live-requires : goal.with_rows-live-requires
with_rows-live-requires c =
    let at = c.loop-k in
    let few = pending_bound c.args.session.now.lent.sound at.k (omega arith) in
    record {
      words_long = c.args.session.now.lent.words_long;
      reals_long = c.args.session.now.lent.reals_long;
      rows = omega (arith, c.args.session.now.lent.sound.devices, c.pending_count-n.ensures, few);
      count = omega (arith, c.args.session.now.lent.sound.devices, at.invariant.most, c.pending_count-n.ensures, few);
    }

pub loop-k-preserved : goal.loop-k-preserved
loop-k-preserved c =
    let a = c.args in
    let at = c.loop-k in
    let m = pending_bound c.args.session.now.lent.sound at.k (omega arith) in
    passed-step a.session.now.control.now a.session.now.words.now a.session.now.reals.now at.k _ c.pending_count-n.ensures (omega arith) at.invariant c.with_rows-live.ensures

-- with nothing queued, the devices are all
pub returns-then-queued-eq0 : goal.returns-then-queued-eq0
returns-then-queued-eq0 c =
    let a = c.args in
    let at = c.loop-k in
    passed-live a.session.now.control.now a.session.now.words.now a.session.now.reals.now at.k (queue_head a.session.now.control.now) 0 (omega arith) refl (omega (arith, c.queue_length-queued.ensures)) at.invariant
    (counted_none at.live _)

pub returns : goal.returns
returns c =
    let a = c.args in
    let at = c.loop-k in
    passed-live a.session.now.control.now a.session.now.words.now a.session.now.reals.now at.k _ _ (omega arith) c.queue_head-head.ensures c.queue_length-queued.ensures at.invariant
    (queue-counted a.session.now.control.now a.session.now.words.now a.session.now.reals.now c.to_the_end-n.ensures (omega (arith, c.args.session.now.lent.sound.queued, c.queue_length-queued.ensures)) c.with_rows.ensures
    c.with_rows-2.ensures)
