-- `wire::event::fields_of` meets its contract: each kind's numbers have the layout of the definition's list, by computation. Assumes nothing.
use mathlib.Core.Bool.{cond}
use mathlib.Core.Path.{◌≡◌, refl}
use Rattle.wire.specs.Record.{layout}
use Rattle.wire.proofs.Records.{layout_of, laid, laid-disconnected}
use Rattle.wire.proofs.event.fields_of.Goals.{then-explained, else-explained}
use Rattle.wire.proofs.event.fields_of.Goals as goal

pub returns-in-Seat : goal.returns-in-Seat
unfolding layout layout_of
returns-in-Seat c = rw (c.of.ensures, c.into.ensures, c.into-in-Seat.ensures) (laid c.in-Seat.is refl refl tt tt)

pub returns-in-Name : goal.returns-in-Name
unfolding layout layout_of
returns-in-Name c = rw c.of-in-Name.ensures (laid c.in-Name.is refl refl tt tt)

pub returns-in-Capability : goal.returns-in-Capability
unfolding layout layout_of
returns-in-Capability c = rw (c.of-in-Capability.ensures, c.into-in-Capability.ensures, c.into-in-Capability-2.ensures) (laid c.in-Capability.is refl refl tt tt)

pub returns-in-Done : goal.returns-in-Done
unfolding layout layout_of
returns-in-Done c = rw c.of-in-Done.ensures (laid c.in-Done.is refl refl tt tt)

pub returns-in-Destroyed : goal.returns-in-Destroyed
unfolding layout layout_of
returns-in-Destroyed c = rw (c.of-in-Destroyed.ensures, c.into-in-Destroyed.ensures) (laid c.in-Destroyed.is refl refl tt tt)

pub returns-in-Device : goal.returns-in-Device
unfolding layout layout_of
returns-in-Device c = rw (c.of-in-Device.ensures, c.into-in-Device.ensures, c.into-in-Device-2.ensures) (laid c.in-Device.is refl refl tt tt)

pub returns-in-DeviceType : goal.returns-in-DeviceType
unfolding layout layout_of
returns-in-DeviceType c = rw (c.of-in-DeviceType.ensures, c.into-in-DeviceType.ensures) (laid c.in-DeviceType.is refl refl tt tt)

pub returns-in-Interface : goal.returns-in-Interface
unfolding layout layout_of
returns-in-Interface c = rw (c.of-in-Interface.ensures, c.into-in-Interface.ensures, c.into-in-Interface-2.ensures, c.into-in-Interface-3.ensures) (laid c.in-Interface.is refl refl tt tt)

pub returns-in-Resumed : goal.returns-in-Resumed
unfolding layout layout_of
returns-in-Resumed c = rw (c.of-in-Resumed.ensures, c.into-in-Resumed.ensures) (laid c.in-Resumed.is refl refl tt tt)

pub returns-in-Paused : goal.returns-in-Paused
unfolding layout layout_of
returns-in-Paused c = rw (c.of-in-Paused.ensures, c.into-in-Paused.ensures) (laid c.in-Paused.is refl refl tt tt)

pub returns-in-StartEmulating : goal.returns-in-StartEmulating
unfolding layout layout_of
returns-in-StartEmulating c = rw (c.of-in-StartEmulating.ensures, c.into-in-StartEmulating.ensures, c.into-in-StartEmulating-2.ensures) (laid c.in-StartEmulating.is refl refl tt tt)

pub returns-in-StopEmulating : goal.returns-in-StopEmulating
unfolding layout layout_of
returns-in-StopEmulating c = rw (c.of-in-StopEmulating.ensures, c.into-in-StopEmulating.ensures) (laid c.in-StopEmulating.is refl refl tt tt)

pub returns-in-Frame : goal.returns-in-Frame
unfolding layout layout_of
returns-in-Frame c = rw (c.of-in-Frame.ensures, c.into-in-Frame.ensures, c.into-in-Frame-2.ensures) (laid c.in-Frame.is refl refl tt tt)

pub returns-in-CallbackDone : goal.returns-in-CallbackDone
unfolding layout layout_of
returns-in-CallbackDone c = rw (c.of-in-CallbackDone.ensures, c.into-in-CallbackDone.ensures) (laid c.in-CallbackDone.is refl refl tt tt)

pub returns-in-HandshakeVersion : goal.returns-in-HandshakeVersion
unfolding layout layout_of
returns-in-HandshakeVersion c = rw (c.of-in-HandshakeVersion.ensures, c.into-in-HandshakeVersion.ensures) (laid c.in-HandshakeVersion.is refl refl tt tt)

pub returns-in-InterfaceVersion : goal.returns-in-InterfaceVersion
unfolding layout layout_of
returns-in-InterfaceVersion c = rw (c.of-in-InterfaceVersion.ensures, c.into-in-InterfaceVersion.ensures, c.into-in-InterfaceVersion-2.ensures) (laid c.in-InterfaceVersion.is refl refl tt tt)

pub returns-in-Connection : goal.returns-in-Connection
unfolding layout layout_of
returns-in-Connection c = rw (c.of-in-Connection.ensures, c.into-in-Connection.ensures, c.into-in-Connection-2.ensures, c.into-in-Connection-3.ensures) (laid c.in-Connection.is refl refl tt tt)

pub returns-after-explained : goal.returns-after-explained
returns-after-explained c =
    let d = c.in-Disconnected in
    let byte : c.if-explained.into ≡ cond d.explained 128 0 =
    elim c.if-explained.branch [ then-explained w ↦ rw (w.if-explained.true) w.into-is | else-explained w ↦ rw (w.if-explained.false) w.into-is ] in
    rw (c.of-in-Disconnected.ensures, c.into-in-Disconnected.ensures, c.into-in-Disconnected-2.ensures, c.into-in-Disconnected-3.ensures, byte, d.is)
    (laid-disconnected d.serial d.reason d.explained)
