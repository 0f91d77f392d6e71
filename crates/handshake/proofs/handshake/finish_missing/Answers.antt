-- `handshake::handshake::finish_missing` meets its contract: with room for the report it is 9, else 19. Assumes nothing.
use Prim.Native.Nat.{◌≤◌, ◌<◌}
use mathlib.Core.Path.{refl, ◌∙◌}
use native.Mathlib.Omega.{arith}
use lib.ListN.{length}
use Rattle.handshake.specs.Handshake.{missing}
use Rattle.handshake.specs.View.{view_of}
use Rattle.handshake.specs.declared.handshake.HandshakeError.{HandshakeError}
use Rattle.handshake.proofs.Answers.{refused-done, missing-done}
use Rattle.handshake.proofs.Cases.{finish-missing, room-short, room_enough}
use Rattle.handshake.proofs.handshake.finish_missing.Goals as goal

pub returns-then-out-report_length : goal.returns-then-out-report_length
unfolding view_of missing
returns-then-out-report_length c =
    let h = view_of c.args.h in
    let out = c.args.out.now in
    let short : length out < length (missing h).bytes = omega (arith, c.if-out-report_length.true, c.report_length.ensures) in
    refused-done c.args.h HandshakeError.ShortOut c.requires.0
    (finish-missing h (length out) c.requires.1 ∙ room-short h (length out) (missing h) short)
    c.refused.ensures
    out

pub returns : goal.returns
unfolding view_of missing
returns c =
    let h = view_of c.args.h in
    let room = length c.args.out.now in
    let fits : length (missing h).bytes ≤ room = omega (arith, c.if-out-report_length.false, c.report_length.ensures) in
    missing-done c.args.h c.requires.0
    (finish-missing h room c.requires.1 ∙ room_enough h room (missing h) fits)
    c.report.ensures
    refl
