-- As `handle_request` on a Finish, and `settle` keeps the answer. Assumes nothing.
use mathlib.Core.Path.{sym, refl}
use Rattle.lent_handshake.proofs.Replies.{unlent_finished, lent-whole, accepted-sound}
use Rattle.lent_handshake.proofs.Messages.{settled-finished}
use Rattle.lent_handshake.proofs.finish.Goals as goal

pub returns-then-not-lent_with : goal.returns-then-not-lent_with
returns-then-not-lent_with c =
    unlent_finished (sym c.if-not-lent_with.ensures) c.bad_state.ensures

pub load-requires : goal.load-requires
load-requires c =
    let l = lent-whole c.args.words.now c.args.name.now c.args.control.now (sym c.if-not-lent_with.ensures) in
    l.0

pub settle-requires : goal.settle-requires
settle-requires c =
    let l = lent-whole c.args.words.now c.args.name.now c.args.control.now (sym c.if-not-lent_with.ensures) in
    (l.0, (l.1, λ f. (c.handle_request-answer.ensures.done (accepted-sound _ c.handle_request-answer.ensures f)).meets.sound))

pub returns : goal.returns
returns c =
    let l = lent-whole c.args.words.now c.args.name.now c.args.control.now (sym c.if-not-lent_with.ensures) in
    rw c.into.ensures (settled-finished _ _ _ l.0 c.load.ensures.result_value c.load.ensures.length_value _ c.handle_request-answer.ensures c.settle.ensures l.1 refl)
