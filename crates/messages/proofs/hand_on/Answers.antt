-- A Sync, or the request of the arguments with its part of the message. Assumes nothing.
use Rattle.answers.proofs.Meetings.{lent-still}
use Rattle.messages.proofs.Bytes.{handed-sync, handed-call}
use Rattle.messages.proofs.hand_on.Goals as goal

pub invariant_of-session : goal.invariant_of-session
invariant_of-session c =
    record { lent = lent-still 0 c.args.session.now.lent (c.sync_message.ensures 0) }

pub returns-then-a-eq-CONNECTION_SYNC-clause-step : goal.returns-then-a-eq-CONNECTION_SYNC-clause-step
returns-then-a-eq-CONNECTION_SYNC-clause-step c =
    let a = c.args in
    handed-sync a.a a.object a.version a.clock a.message.now c.if-a-eq-CONNECTION_SYNC.true c.low.ensures
    (c.sync_message.ensures a.clock a.session.now.words.now a.session.now.reals.now a.texts.now c.requires.0)

pub returns-clause-step : goal.returns-clause-step
returns-clause-step c =
    let a = c.args in
    handed-call a.a a.object a.version a.clock a.message.now c.if-a-eq-CONNECTION_SYNC.false c.request_in.ensures c.handle_on.ensures.step
