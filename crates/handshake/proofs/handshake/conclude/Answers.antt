-- `handshake::handshake::conclude` meets its contract: with room for the report and the connection's record it is concluded, else 19. Assumes nothing.
use Prim.Native.Nat.{◌+◌, ◌≤◌, ◌<◌}
use mathlib.Core.Path.{◌≡◌, refl, ◌∙◌}
use native.Mathlib.Omega.{arith}
use borrow.Author.Rules.{rules}
use lib.ListN.{length, length-map}
use Rattle.wire.specs.Record.{fixed_length}
use Rattle.wire.specs.declared.event.Event.{Event}
use Rattle.wire.proofs.Splices.{put_le}
use Rattle.handshake.specs.Handshake.{concluded, report}
use Rattle.handshake.specs.View.{view_of, versions_of, no_interfaces}
use Rattle.handshake.specs.declared.handshake.HandshakeError.{HandshakeError}
use Rattle.handshake.proofs.Answers.{refused-done, concluded-done}
use Rattle.handshake.proofs.Cases.{finish-concluded, room-short, room_enough}
use Rattle.handshake.proofs.Reports.{length-concluded, length-sent, length-connection, report-short, length-rows}
use Rattle.handshake.proofs.handshake.conclude.Goals as goal

pub overflow_add-report_length : goal.overflow_add-report_length
overflow_add-report_length c =
    let rows = c.args.h.interfaces in
    let n : length rows ≡ 12 = search (rules, length-rows) in
    let l : c.fixed_length.result ≡ 26 = c.fixed_length.ensures ∙ simp length-connection in
    let e : length (versions_of rows) ≡ 12 = rw length-map n in
    omega (arith, c.report_length.ensures, report-short 1 (versions_of rows))

pub returns-then-out-report_length : goal.returns-then-out-report_length
unfolding view_of
returns-then-out-report_length c =
    let h = c.args.h in
    let out = c.args.out.now in
    let full = finish-concluded (view_of h) (length out) c.requires.1.0 (omega (arith, c.ranges.next, c.requires.1.1)) in
    let need = length-concluded (view_of h) in
    let short : length out < length (concluded (view_of h)).bytes =
    omega (
      arith,
      need,
      c.if-out-report_length.true,
      c.fixed_length.ensures,
      c.report_length.ensures,
    ) in
    refused-done h HandshakeError.ShortOut c.requires.0 (full ∙ room-short (view_of h) (length out) (concluded (view_of h)) short) c.refused.ensures out

pub overflow_add-result : goal.overflow_add-result
overflow_add-result c =
    omega (
      arith,
      c.report-at.ensures.long,
      put_le c.send-sent.ensures,
      c.if-out-report_length.false,
      c.report_length.ensures,
    )

pub returns : goal.returns
unfolding view_of no_interfaces
returns c =
    let h = c.args.h in
    let room = length c.args.out.now in
    let full = finish-concluded (view_of h) room c.requires.1.0 (omega (arith, c.ranges.next, c.requires.1.1)) in
    let fits : length (report 1 (versions_of h.interfaces)) + fixed_length (Event.Connection h.next h.serial 1) ≤ room =
    omega (
      arith,
      c.if-out-report_length.false,
      c.fixed_length.ensures,
      c.report_length.ensures,
    ) in
    concluded-done h c.requires.0
    (full ∙ room_enough (view_of h) room (concluded (view_of h)) (rw length-concluded fits))
    c.requires.1.1
    refl
    c.response_of.ensures.0
    c.response_of.ensures.1
    c.report-at.ensures
    c.send-sent.ensures
    (rw length-sent (omega (arith, fits, c.report-at.ensures.long)))
