-- 21, or what `EisHandshaker::new` promises, stored. Assumes nothing.
use mathlib.Core.Path.{sym}
use Rattle.lent_handshake.proofs.Replies.{unlent_started, lent-started}
use Rattle.lent_handshake.proofs.new.Goals as goal

pub returns-then-not-lent : goal.returns-then-not-lent
returns-then-not-lent c =
    unlent_started (sym c.if-not-lent.ensures) c.bad_state.ensures

pub store-requires : goal.store-requires
store-requires c =
    let l = sym c.if-not-lent.ensures in
    (l, c.new-answer.ensures.sound)

pub returns : goal.returns
returns c =
    let l = sym c.if-not-lent.ensures in
    rw c.into.ensures (lent-started l c.new-answer.ensures c.store.ensures)
