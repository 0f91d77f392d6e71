-- Only a pause changes its device. Assumes nothing.
use mathlib.Core.Path.{ap}
use Rattle.device.specs.declared.Notice.{Notice}
use Rattle.device.specs.Notice.{notice_edits}
use Rattle.device.proofs.Devices.{enacts_paused, enacts_nothing}
use Rattle.device.proofs.enact.Goals as goal

pub returns-in-Paused : goal.returns-in-Paused
returns-in-Paused c =
    let a = c.args in
    enacts_paused a.notice a.k c.in-Paused.is c.clear_touches.ensures

pub returns-in-Resumed : goal.returns-in-Resumed
returns-in-Resumed c =
    let a = c.args in
    enacts_nothing a.notice a.k (ap (λ (n : Notice). notice_edits n a.k) c.in-Resumed.is) c.requires.0

pub returns-in-StartEmulating : goal.returns-in-StartEmulating
returns-in-StartEmulating c =
    let a = c.args in
    enacts_nothing a.notice a.k (ap (λ (n : Notice). notice_edits n a.k) c.in-StartEmulating.is) c.requires.0

pub returns-in-StopEmulating : goal.returns-in-StopEmulating
returns-in-StopEmulating c =
    let a = c.args in
    enacts_nothing a.notice a.k (ap (λ (n : Notice). notice_edits n a.k) c.in-StopEmulating.is) c.requires.0

pub returns-in-Frame : goal.returns-in-Frame
returns-in-Frame c =
    let a = c.args in
    enacts_nothing a.notice a.k (ap (λ (n : Notice). notice_edits n a.k) c.in-Frame.is) c.requires.0
