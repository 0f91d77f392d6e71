-- Each notice has its event. Assumes nothing.
use mathlib.Core.Path.{sym, ap}
use Rattle.device.specs.declared.Notice.{Notice}
use Rattle.device.specs.Notice.{notice_event}
use Rattle.device.proofs.event_of.Goals as goal

pub returns-in-Resumed : goal.returns-in-Resumed
returns-in-Resumed c =
    sym (ap (λ (n : Notice). notice_event n c.args.serial) c.in-Resumed.is)

pub returns-in-Paused : goal.returns-in-Paused
returns-in-Paused c =
    sym (ap (λ (n : Notice). notice_event n c.args.serial) c.in-Paused.is)

pub returns-in-StartEmulating : goal.returns-in-StartEmulating
returns-in-StartEmulating c =
    sym (ap (λ (n : Notice). notice_event n c.args.serial) c.in-StartEmulating.is)

pub returns-in-StopEmulating : goal.returns-in-StopEmulating
returns-in-StopEmulating c =
    sym (ap (λ (n : Notice). notice_event n c.args.serial) c.in-StopEmulating.is)

pub returns-in-Frame : goal.returns-in-Frame
returns-in-Frame c =
    sym (ap (λ (n : Notice). notice_event n c.args.serial) c.in-Frame.is)
