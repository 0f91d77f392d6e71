-- The rows behind are moved down, then the control words. Assumes nothing.
use native.Mathlib.Omega.{arith}
use Rattle.std.specs.Float.{nan}
use Rattle.removal.proofs.Rows.{device-out}
use Rattle.removal.proofs.remove_device.Goals as goal

pub returns-clause-step : goal.returns-clause-step
returns-clause-step c =
    let a = c.args in
    device-out a.session.now.control.now a.session.now.words.now c.shift.new.a a.session.now.reals.now c.shift-2.new.a a.k (c.shift.ensures 0) (c.shift-2.ensures nan) (omega arith) (omega arith)
    (omega arith) (omega arith) (omega arith) (omega arith) c.remove_device_row.new.control c.args.session.now.lent.sound c.requires c.remove_device_row.ensures
