-- The versions before `place` are set. Assumes nothing.
use Rattle.answers.proofs.Meetings.{ends}
use mathlib.Core.Path.{◌≡◌, refl}
use native.Mathlib.Omega.{arith}
use borrow.Author.Rules.{rules}
use lib.ListN.{length}
use Rattle.handshake.proofs.Reports.{length-rows}
use Rattle.converter.proofs.Begun.{beginning_none, beginning_skip, beginning_set, begins-bad, begins-done}
use Rattle.converter.proofs.request.new.Goals as goal
use Rattle.converter.proofs.request.new.Goals.{in-Some, in_default}

pub returns-then-control-ne-CONTROL_LENGTH : goal.returns-then-control-ne-CONTROL_LENGTH
returns-then-control-ne-CONTROL_LENGTH c = begins-bad c.args.response (λ z. omega arith) refl

pub loop-place-init : goal.loop-place-init
loop-place-init c =
    let long : length c.args.response.interfaces ≡ 12 = search (rules, length-rows) in
    beginning_none c.args.response long c.new.ensures

pub set_version-requires : goal.set_version-requires
set_version-requires c =
    (c.loop-place.invariant.sound, omega arith)

pub loop-place-preserved : goal.loop-place-preserved
loop-place-preserved c =
    let s = c.loop-place in
    let p = c.args.response in
    let long : length p.interfaces ≡ 12 = search (rules, length-rows) in
    elim c.match-version.branch [
      | in-Some w ↦ rw w.control-is (beginning_set p long _ s.place (omega arith) s.invariant w.in-Some.is w.set_version.ensures)
      | in_default w ↦ rw w.control-is (beginning_skip p long _ s.place (omega arith) s.invariant w.in_default.is)
    ]

pub returns : goal.returns
returns c =
    let s = c.loop-place in
    let long : length c.args.response.interfaces ≡ 12 = search (rules, length-rows) in
    begins-done c.args.response s.place (omega arith) long (omega arith) s.invariant (ends c.accepted.ensures)
