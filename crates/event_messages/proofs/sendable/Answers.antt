-- The tests in turn. Assumes nothing.
use mathlib.Core.Bool.{◌&&◌, ◌||◌}
use mathlib.Core.Path.{◌≡◌, refl, ◌∙◌}
use lib.Dec.{eqb}
use lib.ListN.{length}
use Rattle.event_messages.specs.Shape.{allowed, allowed_all, textual}
use Rattle.event_messages.specs.Stands.{sendable_text}
use Rattle.event_messages.proofs.Tests.{and_so, and_not, or_so, or_not, and_five}
use Rattle.event_messages.proofs.sendable.Goals.{then-allowed, else-allowed, then-allowed-2, else-allowed-2, then-allowed-3+then-textual, then-allowed-3+else-textual, else-allowed-3}
use Rattle.event_messages.proofs.sendable.Goals as goal

pub returns-then-size-eq0 : goal.returns-then-size-eq0
unfolding allowed_all
returns-then-size-eq0 c =
    let s = c.args.s in
    let v = c.args.v in
    let n = length c.args.text.now in
    let one : c.if-allowed.value ≡ allowed s.first v.first n && allowed s.second v.second n =
    elim c.if-allowed.branch [ then-allowed w ↦ and_so c.allowed.ensures w.if-allowed.true (w.value-is ∙ w.allowed-then-allowed.ensures) | else-allowed w ↦ and_not c.allowed.ensures w.if-allowed.false w.value-is _ ] in
    let two : c.if-allowed-2.value ≡ (allowed s.first v.first n && allowed s.second v.second n) && allowed s.third v.third n =
    elim c.if-allowed-2.branch [ then-allowed-2 w ↦ and_so one w.if-allowed-2.true (w.value-is ∙ w.allowed-then-allowed-2.ensures) | else-allowed-2 w ↦ and_not one w.if-allowed-2.false w.value-is _ ] in
    let three : c.if-allowed-3.value ≡ ((allowed s.first v.first n && allowed s.second v.second n) && allowed s.third v.third n) && (textual s || eqb n 0) =
    elim c.if-allowed-3.branch [
      | then-allowed-3+then-textual w ↦ and_so two w.if-allowed-3.true (or_so w.textual.ensures w.if-textual.true w.value-is _)
      | then-allowed-3+else-textual w ↦ and_so two w.if-allowed-3.true (or_not w.textual.ensures w.if-textual.false w.value-is)
      | else-allowed-3 w ↦ and_not two w.if-allowed-3.false w.value-is _
    ] in
    and_so three c.if-size-eq0.true c.sendable_text.ensures ∙ and_five (allowed s.first v.first n) (allowed s.second v.second n) (allowed s.third v.third n) (textual s || eqb n 0) (sendable_text c.args.text.now)

pub returns-else-size-eq0 : goal.returns-else-size-eq0
unfolding allowed_all
returns-else-size-eq0 c =
    let s = c.args.s in
    let v = c.args.v in
    let n = length c.args.text.now in
    let one : c.if-allowed.value ≡ allowed s.first v.first n && allowed s.second v.second n =
    elim c.if-allowed.branch [ then-allowed w ↦ and_so c.allowed.ensures w.if-allowed.true (w.value-is ∙ w.allowed-then-allowed.ensures) | else-allowed w ↦ and_not c.allowed.ensures w.if-allowed.false w.value-is _ ] in
    let two : c.if-allowed-2.value ≡ (allowed s.first v.first n && allowed s.second v.second n) && allowed s.third v.third n =
    elim c.if-allowed-2.branch [ then-allowed-2 w ↦ and_so one w.if-allowed-2.true (w.value-is ∙ w.allowed-then-allowed-2.ensures) | else-allowed-2 w ↦ and_not one w.if-allowed-2.false w.value-is _ ] in
    let three : c.if-allowed-3.value ≡ ((allowed s.first v.first n && allowed s.second v.second n) && allowed s.third v.third n) && (textual s || eqb n 0) =
    elim c.if-allowed-3.branch [
      | then-allowed-3+then-textual w ↦ and_so two w.if-allowed-3.true (or_so w.textual.ensures w.if-textual.true w.value-is _)
      | then-allowed-3+else-textual w ↦ and_so two w.if-allowed-3.true (or_not w.textual.ensures w.if-textual.false w.value-is)
      | else-allowed-3 w ↦ and_not two w.if-allowed-3.false w.value-is _
    ] in
    and_not three c.if-size-eq0.false refl (sendable_text c.args.text.now) ∙ and_five (allowed s.first v.first n) (allowed s.second v.second n) (allowed s.third v.third n) (textual s || eqb n 0) (sendable_text c.args.text.now)
