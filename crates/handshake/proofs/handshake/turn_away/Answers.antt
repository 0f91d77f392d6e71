-- `handshake::handshake::turn_away` meets its contract: a case of the definition for each answer. Assumes nothing.
use mathlib.Core.Path.{refl, sym}
use lib.ListN.{length}
use Rattle.handshake.specs.View.{view_of}
use Rattle.handshake.specs.declared.handshake.HandshakeError.{HandshakeError}
use Rattle.handshake.proofs.Answers.{refused-done}
use Rattle.handshake.proofs.Cases.{other-bad, other_away}
use Rattle.handshake.proofs.handshake.turn_away.Goals as goal

pub returns-then-valid : goal.returns-then-valid
returns-then-valid c =
    λ out.
    let a = c.args in
    refused-done a.h HandshakeError.NonHandshakeEvent c.requires
    (other_away (view_of a.h) (length out) a.text.now (sym c.if-valid.ensures))
    refl
    out

pub returns-else-valid : goal.returns-else-valid
returns-else-valid c =
    λ out.
    let a = c.args in
    refused-done a.h HandshakeError.BadUtf8 c.requires
    (other-bad (view_of a.h) (length out) a.text.now (sym c.if-valid.ensures))
    refl
    out
