-- The events, then the serial, then the edits: the devices, and the seat. Assumes nothing.
use mathlib.Core.Path.{refl}
use mathlib.Core.List.{[]}
use Rattle.model.specs.Call.{Load}
use Rattle.session.proofs.Views.{lent-after, enacted_join}
use Rattle.events.proofs.Writes.{last_is}
use Rattle.removal.proofs.Retiring.{retired}
use Rattle.removal.proofs.retire_seat.Goals as goal

pub invariant_of-session : goal.invariant_of-session
invariant_of-session c =
    record { lent = lent-after c.args.session.now.lent (c.raise.ensures _ (last_is c.destroy_seat-last.ensures c.last_serial-serial.ensures)) }

pub invariant_of-session-2 : goal.invariant_of-session-2
invariant_of-session-2 c =
    let m = c.remove_devices_of.new.session in
    record { lent = record { sound = (c.remove_seat.ensures m.words.now m.reals.now [] Load.None).sound; words_long = m.lent.words_long; reals_long = m.lent.reals_long } }

pub remove_seat-requires : goal.remove_seat-requires
remove_seat-requires c = (c.remove_devices_of.ensures.step [] Load.None).sound

pub returns-clause-step : goal.returns-clause-step
returns-clause-step c =
    retired refl c.last_serial-serial.ensures c.destroy_seat-last.ensures c.raise.ensures
    (λ texts load. enacted_join (c.remove_devices_of.ensures.step texts load) (c.remove_seat.ensures _ _ texts load))
