-- Each case has its pattern. Assumes nothing.
use mathlib.Core.Path.{◌≡◌}
use Rattle.messages.specs.declared.Unhanded.{Unhanded}
use Rattle.script_message.proofs.show.message_shown.Goals as goal

pub returns-in-Ok : goal.returns-in-Ok
returns-in-Ok c = rw c.in-Ok.is c.taken_outcome.ensures

pub returns-in-Err-Wait : goal.returns-in-Err-Wait
returns-in-Err-Wait c =
    let e : c.in-Err-Wait.field-0 ≡ Unhanded.Wait = rw c.in-Err-Wait.is at c.in-Err-Wait.field-0-is in
    rw (c.in-Err-Wait.is, e) c.single.ensures

pub returns-in-Err-NoObject : goal.returns-in-Err-NoObject
returns-in-Err-NoObject c =
    let e : c.in-Err-NoObject.field-0 ≡ Unhanded.NoObject = rw c.in-Err-NoObject.is at c.in-Err-NoObject.field-0-is in
    rw (c.in-Err-NoObject.is, e) c.refusal.ensures

pub returns-in-Err-Malformed : goal.returns-in-Err-Malformed
returns-in-Err-Malformed c =
    let e : c.in-Err-Malformed.field-0 ≡ Unhanded.Malformed c.in-Err-Malformed.e = rw c.in-Err-Malformed.is at c.in-Err-Malformed.field-0-is in
    rw (c.in-Err-Malformed.is, e) c.malformed.ensures
