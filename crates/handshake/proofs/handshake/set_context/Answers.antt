-- `handshake::handshake::set_context` meets its contract: a case of the definition for each answer. Assumes nothing.
use mathlib.Core.Path.{refl}
use lib.ListN.{length}
use Rattle.handshake.specs.View.{view_of, is_sound}
use Rattle.handshake.specs.declared.handshake.HandshakeError.{HandshakeError}
use Rattle.handshake.proofs.Answers.{refused-done, accepted-done}
use Rattle.handshake.proofs.Cases.{context_twice, context-first}
use Rattle.handshake.proofs.handshake.set_context.Goals as goal

pub returns-then-is_some : goal.returns-then-is_some
unfolding view_of
returns-then-is_some c =
    λ out.
    let a = c.args in
    refused-done a.h HandshakeError.DuplicateEvent c.requires
    (context_twice (view_of a.h) (length out) a.context a.h.context refl (c.if-is_some.ensures))
    refl
    out

pub returns : goal.returns
unfolding view_of is_sound
returns c =
    λ out.
    let a = c.args in
    accepted-done a.h _ c.requires
    (context-first (view_of a.h) (length out) a.context a.h.context refl (c.if-is_some.ensures))
    refl
    out
