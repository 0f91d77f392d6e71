-- The events, then the serial, then the edit. Assumes nothing.
use mathlib.Core.Path.{refl}
use native.Mathlib.Omega.{arith}
use Rattle.session.proofs.Views.{lent-after}
use Rattle.events.proofs.Writes.{last_is}
use Rattle.removal.proofs.Retiring.{raise-count, retired}
use Rattle.removal.proofs.retire_device.Goals as goal

pub invariant_of-session : goal.invariant_of-session
invariant_of-session c =
    record { lent = lent-after c.args.session.now.lent (c.raise.ensures _ (last_is c.destroy_device-told.ensures c.last_serial-serial.ensures)) }

pub remove_device-requires : goal.remove_device-requires
remove_device-requires c =
    omega (arith, raise-count (c.raise.ensures _ (last_is c.destroy_device-told.ensures c.last_serial-serial.ensures)), c.requires.0)

pub returns-clause-step : goal.returns-clause-step
returns-clause-step c =
    retired refl c.last_serial-serial.ensures c.destroy_device-told.ensures c.raise.ensures c.remove_device.ensures.step
