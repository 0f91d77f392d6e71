-- `handshake::handshake::EisHandshaker::handle_request` meets its contract: 21 by the first test, and each arm by its function's contract. Assumes nothing.
use mathlib.Core.Path.{refl}
use Rattle.handshake.specs.Handshake.{handle_request}
use Rattle.handshake.proofs.Answers.{handled, handled-damaged, sound_is, accepted-done}
use Rattle.handshake.proofs.handshake.EisHandshaker.handle_request.Goals as goal

pub returns-then-self-gt-NAME_LENGTH_LIMIT : goal.returns-then-self-gt-NAME_LENGTH_LIMIT
returns-then-self-gt-NAME_LENGTH_LIMIT c =
    let a = c.args in
    handled-damaged a.self _ c.if-self-gt-NAME_LENGTH_LIMIT.true c.refused.ensures a.out.now

pub set_name-requires : goal.set_name-requires
set_name-requires c =
    sound_is _ c.if-self-gt-NAME_LENGTH_LIMIT.false

pub set_context-requires : goal.set_context-requires
set_context-requires c =
    sound_is _ c.if-self-gt-NAME_LENGTH_LIMIT.false

pub negotiate-requires : goal.negotiate-requires
negotiate-requires c =
    sound_is _ c.if-self-gt-NAME_LENGTH_LIMIT.false

pub finish-requires : goal.finish-requires
finish-requires c =
    sound_is _ c.if-self-gt-NAME_LENGTH_LIMIT.false

pub turn_away-requires : goal.turn_away-requires
turn_away-requires c =
    sound_is _ c.if-self-gt-NAME_LENGTH_LIMIT.false

pub returns-in-HandshakeVersion : goal.returns-in-HandshakeVersion
unfolding handle_request
returns-in-HandshakeVersion c =
    let a = c.args in
    let l = c.if-self-gt-NAME_LENGTH_LIMIT.false in
    handled a.self _ l (rw c.in-HandshakeVersion.is (accepted-done a.self a.self (sound_is _ l) refl c.quiet.ensures a.out.now))

pub returns-in-Name : goal.returns-in-Name
returns-in-Name c =
    let a = c.args in
    handled a.self _ c.if-self-gt-NAME_LENGTH_LIMIT.false (rw (c.in-Name.is, c.quiet-in-Name.ensures) (c.set_name.ensures a.out.now))

pub returns-in-ContextType : goal.returns-in-ContextType
returns-in-ContextType c =
    let a = c.args in
    handled a.self _ c.if-self-gt-NAME_LENGTH_LIMIT.false (rw (c.in-ContextType.is, c.quiet-in-ContextType.ensures) (c.set_context.ensures a.out.now))

pub returns-in-InterfaceVersion : goal.returns-in-InterfaceVersion
returns-in-InterfaceVersion c =
    let a = c.args in
    handled a.self _ c.if-self-gt-NAME_LENGTH_LIMIT.false (rw (c.in-InterfaceVersion.is, c.quiet-in-InterfaceVersion.ensures) (c.negotiate.ensures a.out.now))

pub returns-in-Finish : goal.returns-in-Finish
unfolding handle_request
returns-in-Finish c =
    let a = c.args in
    handled a.self _ c.if-self-gt-NAME_LENGTH_LIMIT.false (rw c.in-Finish.is c.finish.ensures)

pub returns-in-Other : goal.returns-in-Other
returns-in-Other c =
    let a = c.args in
    handled a.self _ c.if-self-gt-NAME_LENGTH_LIMIT.false (rw (c.in-Other.is, c.refused-in-Other.ensures) (c.turn_away.ensures a.out.now))
